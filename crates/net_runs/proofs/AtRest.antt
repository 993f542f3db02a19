-- A network at rest: nothing is on its way, no key is open, and nothing waits.
use Rattle.std.{proofs.Common.{◌≡◌, ◌≢◌, ◌⊎◌, ℕ, zero, suc, ◌+◌, ◌<◌, ◌≤◌, List, [], ◌∷◌, length, slice_get, Option, Some, None, refl, sym, ap, ◌∙◌, subst, inl, inr, arith}, specs.Prelude.{All}, proofs.lemmas.List.Elements.{All-nil}, proofs.lemmas.Bool.Decides.{eqb_tells}, proofs.lemmas.Option.{none-some, same_Some}}
use Rattle.mctp_transport.specs.PacketValues.{PacketValue, KeyValue}
use Rattle.plan_values.{specs.declared.plan.Plan.{Plan}, specs.declared.certificate.Certificate.{Certificate}, specs.declared.terminus.PlannedTerminus.{PlannedTerminus}}
use Rattle.net_tables.specs.Repositories.{terminus_of, records_by_place}
use Rattle.net_runs.{specs.Termini.{TerminusState, WaitingMessage}, specs.States.{NetworkState, at_start, with_packet, with_packets}, specs.ExactMessages.{IsSettled}, proofs.FirstAsks.{at_rest}, proofs.Nexts.{new_flight, older_stays}, proofs.Ordered.{IsClosed}}

pub record IsAtRest (plan : Plan) (cert : Certificate) (n : ℕ) (w : NetworkState) : Type 0 where
  pub none : (k : ℕ) → w.flight k ≡ None
  pub closed : (m : ℕ) → IsClosed (w.history m)
  pub waits : (m : ℕ) (t : TerminusState) → w.terminus m ≡ Some t → t.waiting ≡ []
  pub state : TerminusState
  pub there : w.terminus n ≡ Some state
  pub records : state.records ≡ records_by_place plan cert n
  pub tid : state.tid < 256

-- so all keys are settled
pub rest_is_settled : (plan : Plan) (cert : Certificate) (n : ℕ) (w : NetworkState) → IsAtRest plan cert n w → (key : KeyValue) (d : ℕ) → IsSettled plan w key d
rest_is_settled plan cert n w rest key d = record {
  quiet = record { no_flight = λ number f is. absurd (none-some f (sym (rest.none number) ∙ is)); not_open = λ m holds. rest.closed m key };
  none_waits = λ m t holds is.
      let A : List WaitingMessage → Type 0 = λ ms. All (λ message. message.key ≢ key) ms in
      subst A (sym (rest.waits m t is)) (All-nil (λ message. message.key ≢ key));
}

-- it is at rest at the start
pub start_at_rest : (plan : Plan) (cert : Certificate) (n : ℕ) → terminus_of plan n ≢ None → IsAtRest plan cert n (at_start plan cert)
start_at_rest plan cert n some = by (terminus_of plan n) refl
  where
    by : (o : Option PlannedTerminus) → terminus_of plan n ≡ o → IsAtRest plan cert n (at_start plan cert)
    by None is = absurd (some is)
    by (Some t) is = record {
      none = λ k. refl;
      closed = λ m key opened. opened;
      waits = λ m u stands. at_rest plan cert m u (terminus_of plan m) stands;
      state = record { tid = t.tid; records = records_by_place plan cert n; waiting = [] };
      there = rw is refl;
      records = refl;
      tid = let low = t.lawful_tid in omega arith;
    }

-- ---- flights that are put in one after another

pub packets_made : (w : NetworkState) (node : ℕ) (ps : List PacketValue) → (with_packets w node ps).made ≡ w.made + length ps
packets_made w node [] = omega arith
packets_made w node (p ∷ ps) = packets_made (with_packet w node p) node ps ∙ omega arith

pub packet_there : (w : NetworkState) (node : ℕ) (p : PacketValue) → (with_packet w node p).flight (w.made + 1) ≡ Some (new_flight node p)
packet_there w node p = elim (eqb_tells (w.made + 1) (w.made + 1)) [ inl same ↦ rw same.0 refl | inr other ↦ absurd (other.1 refl) ]

pub packet_others : (w : NetworkState) (node : ℕ) (p : PacketValue) (k : ℕ) → k ≢ w.made + 1 → (with_packet w node p).flight k ≡ w.flight k
packet_others w node p k other = elim (eqb_tells k (w.made + 1)) [ inl same ↦ absurd (other same.1) | inr apart ↦ rw apart.0 refl ]

pub packets_history : (w : NetworkState) (node : ℕ) (ps : List PacketValue) → (with_packets w node ps).history ≡ w.history
packets_history w node [] = refl
packets_history w node (p ∷ ps) = packets_history (with_packet w node p) node ps

-- what is on its way where these packets were put in from a number on, and nothing else is there
pub record AreUnderWay (w : NetworkState) (base node : ℕ) (ps : List PacketValue) : Type 0 where
  pub flights : (i : ℕ) (p : PacketValue) → slice_get ps i ≡ Some p → w.flight (base + 1 + i) ≡ Some (new_flight node p)
  pub others : (k : ℕ) → (k ≤ base) ⊎ (base + length ps < k) → w.flight k ≡ None

pub packets_under_way : (w : NetworkState) (node : ℕ) (ps : List PacketValue) → ((k : ℕ) → w.flight k ≡ None) → AreUnderWay (with_packets w node ps) w.made node ps
packets_under_way w node ps none = record {
  flights = flights w ps;
  others = λ k out. others w ps k out ∙ none k;
}
  where
    flights : (w : NetworkState) (ps : List PacketValue) (i : ℕ) (p : PacketValue) → slice_get ps i ≡ Some p → (with_packets w node ps).flight (w.made + 1 + i) ≡ Some (new_flight node p)
    flights w [] i p is = absurd (none-some p is)
    flights w (q ∷ qs) zero p is =
        let S : ℕ → Type 0 = λ k. (with_packets (with_packet w node q) node qs).flight k ≡ Some (new_flight node p) in
        let number : w.made + 1 ≡ w.made + 1 + 0 = omega arith in
        subst S number (older_stays (with_packet w node q) node qs (w.made + 1) (omega arith) ∙ packet_there w node q ∙ ap (λ x. Some (new_flight node x)) (same_Some q p is))
    flights w (q ∷ qs) (suc i) p is =
        let S : ℕ → Type 0 = λ k. (with_packets (with_packet w node q) node qs).flight k ≡ Some (new_flight node p) in
        let number : w.made + 1 + 1 + i ≡ w.made + 1 + suc i = omega arith in
        subst S number (flights (with_packet w node q) qs i p is)

    others : (w : NetworkState) (ps : List PacketValue) (k : ℕ) → (k ≤ w.made) ⊎ (w.made + length ps < k) → (with_packets w node ps).flight k ≡ w.flight k
    others w [] k out = refl
    others w (q ∷ qs) k (inl low) = others (with_packet w node q) qs k (inl (omega arith)) ∙ packet_others w node q k (λ same. omega (arith, low, same))
    others w (q ∷ qs) k (inr high) = others (with_packet w node q) qs k (inr (omega arith)) ∙ packet_others w node q k (λ same. omega (arith, high, same))
