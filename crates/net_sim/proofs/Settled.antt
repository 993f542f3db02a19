-- A key is settled where each place of the numbers, and each node that holds the destination, is clear of it.
use Rattle.std.{proofs.Common.{◌≡◌, ◌≢◌, ◌↔◌, ℕ, ◌<◌, List, length, map, get_or, All, Option, Some, None, refl, sym, ◌∙◌, ap, subst}, specs.Prelude.{slice_get, option_map, option_and_then}, proofs.lemmas.List.Elements.{All-map}, proofs.lemmas.Option.{slice_get-map, slice_get-get_or, none-some}}
use Rattle.mctp_transport.specs.PacketValues.{KeyValue}
use Rattle.plan_values.specs.declared.plan.Plan.{Plan}
use Rattle.net_tables.{specs.Routing.{Holds}, proofs.Elements.{holder_within}}
use Rattle.net_runs.{specs.Termini.{TerminusState, WaitingMessage}, specs.States.{NetworkState, Flight}, specs.ExactMessages.{IsSettled}}
use Rattle.net_sim.{specs.Flights.{flight_at}, specs.Standing.{TrafficValue, HasNetworkState}, specs.Settling.{IsTo, IsNotTo, NoneWaits, IsClearAt}, proofs.Dealt.{all_at}}

module _ {F : Type 0} (see : F → Option Flight) (fs : List F) (key : KeyValue) (d : ℕ) where
  abbrev seen : Option F → Option Flight
  seen o = option_and_then (λ x. x) (option_map see o)

  seen_at : (number : ℕ) → flight_at (map see fs) number ≡ seen (slice_get fs number)
  seen_at number = ap (λ (o : Option (Option Flight)). option_and_then (λ x. x) o) (slice_get-map see fs number)

  -- where each place is clear, no flight goes there
  pub none_flies : All (λ x. IsNotTo key d (see x)) fs → (number : ℕ) (f : Flight) → flight_at (map see fs) number ≡ Some f → ¬ IsTo key d f
  none_flies all number f is = by (slice_get fs number) refl
    where
      by : (o : Option F) → slice_get fs number ≡ o → ¬ IsTo key d f
      by None none = λ to. none-some f (sym (ap seen none) ∙ (sym (seen_at number) ∙ is))
      by (Some x) some = subst (λ (o : Option Flight). IsNotTo key d o) (sym (ap seen some) ∙ (sym (seen_at number) ∙ is)) (all_at (λ x. IsNotTo key d (see x)) fs all number x some)

  -- and conversely
  pub all_clear : ((number : ℕ) (f : Flight) → flight_at (map see fs) number ≡ Some f → ¬ IsTo key d f) → All (λ x. IsNotTo key d (see x)) fs
  all_clear none = λ i x within. by i x within (see (get_or fs i x)) refl
    where
      by : (i : ℕ) (x : F) → i < length fs → (o : Option Flight) → see (get_or fs i x) ≡ o → IsNotTo key d (see (get_or fs i x))
      by i x within None gone = subst (λ (o : Option Flight). IsNotTo key d o) (sym gone) tt
      by i x within (Some f) there = subst (λ (o : Option Flight). IsNotTo key d o) (sym there)
          (none i f (seen_at i ∙ (ap seen (slice_get-get_or fs i x within) ∙ there)))

-- a terminus that is there
none_waits_there : (key : KeyValue) (o : Option TerminusState) (t : TerminusState) → o ≡ Some t → NoneWaits key o → All (λ message. message.key ≢ key) t.waiting
none_waits_there key o t is none = subst (λ (x : Option TerminusState). NoneWaits key x) is none

waits_if_there : (key : KeyValue) (o : Option TerminusState) → ((t : TerminusState) → o ≡ Some t → All (λ message. message.key ≢ key) t.waiting) → NoneWaits key o
waits_if_there key None each = tt
waits_if_there key (Some t) each = each t refl

-- each holder is clear of a key that is settled
pub settled_clear : (plan : Plan) (w : NetworkState) (key : KeyValue) (d : ℕ) → IsSettled plan w key d → (n : ℕ) → Holds plan n d → IsClearAt w key n
settled_clear plan w key d settled n holds = (settled.quiet.not_open n holds, waits_if_there key (w.terminus n) (λ t is. settled.none_waits n t holds is))

module _ (plan : Plan) (v : TrafficValue) (w : NetworkState) (key : KeyValue) (d : ℕ) where
  module _ {F : Type 0} (see : F → Option Flight) (fs : List F) (s : HasNetworkState v w) (flights : v.flights ≡ map see fs) where
    at : (number : ℕ) → w.flight number ≡ flight_at (map see fs) number
    at number = s.flights number ∙ ap (λ (os : List (Option Flight)). flight_at os number) flights

    -- a key is settled where no flight of it goes to d, and each holder of d is clear of it
    pub settles : All (λ x. IsNotTo key d (see x)) fs → ((n : ℕ) → n < length plan.nodes.items → Holds plan n d → IsClearAt w key n) → IsSettled plan w key d
    settles places clear = record {
      quiet = record {
        no_flight = λ number f is same to. none_flies see fs key d places number f (sym (at number) ∙ is) (same, to);
        not_open = λ n holds. (clear n (holder_within plan n d holds) holds).0;
      };
      none_waits = λ n t holds is. none_waits_there key (w.terminus n) t is (clear n (holder_within plan n d holds) holds).1;
    }

    pub settled_places : IsSettled plan w key d → All (λ x. IsNotTo key d (see x)) fs
    settled_places settled = all_clear see fs key d (λ number f is to. settled.quiet.no_flight number f (at number ∙ is) to.0 to.1)

-- what is told of the messages that wait at a terminus, as what is told of a place that may have one
module _ {D M : Type 0} (see : D → TerminusState) (mean : M → WaitingMessage) (key : KeyValue) (told : Type 0) where
  each_mean : (ms : List M) → All (λ message. message.key ≢ key) (map mean ms) → All (λ m. (mean m).key ≢ key) ms
  each_mean ms all = λ i m within. all_at (λ message. message.key ≢ key) (map mean ms) all i (mean (get_or ms i m))
      (slice_get-map mean ms i ∙ ap (λ (o : Option M). option_map mean o) (slice_get-get_or ms i m within))

  pub tells_waits : (o : Option D) (d : D) (ms : List M) → o ≡ Some d → (see d).waiting ≡ map mean ms → (told ↔ All (λ m. (mean m).key ≢ key) ms)
      → told ↔ NoneWaits key (option_map see o)
  tells_waits o d ms is waiting tells =
      let P : List WaitingMessage → Type 0 = λ xs. told ↔ All (λ message. message.key ≢ key) xs in
      let there : P (map mean ms) = (λ t. All-map (λ message. message.key ≢ key) mean ms (tells.0 t), λ all. tells.1 (each_mean ms all)) in
      subst (λ (x : Option D). told ↔ NoneWaits key (option_map see x)) (sym is) (subst P (sym waiting) there)
