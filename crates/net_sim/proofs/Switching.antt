-- A node's switch is a step of the network.
use Rattle.std.{proofs.Common.{◌≡◌, ◌≢◌, ℕ, ◌<◌, Bool, true, false, cond, eqb, List, length, Option, Some, None, refl, sym, ◌∙◌, ap, subst, inl, inr, arith}, specs.Prelude.{slice_get, slice_set, unwrap_or}, proofs.lemmas.Bool.Decides.{eqb_tells}, proofs.lemmas.Option.{slice_get_within}}
use Rattle.mctp_transport.specs.declared.assembler.Assembler.{Assembler}
use Rattle.net_tables.{specs.TwoPlans.{Tables}, proofs.Elements.{set_there, set_elsewhere}}
use Rattle.net_runs.{specs.Termini.{TerminusState}, specs.States.{NetworkState, Flight, with_switched}, specs.Events.{Switch, Switched, Refusal, N01, N02, N03, N04, N05, N06, N07, IsRefused}}
use Rattle.net_sim.{specs.Routers.{has_switched}, specs.Standing.{TrafficValue, HasNetworkState, Plays, at_place}}

-- the marks after one is set
set_mark : (marks : List Bool) (i k : ℕ) → i < length marks → has_switched (slice_set marks i true) k ≡ cond (eqb k i) true (has_switched marks k)
set_mark marks i k within = elim (eqb_tells k i) [
  | inl same ↦ rw same.0 (rw same.1 (ap (λ (o : Option Bool). unwrap_or o false) (set_there marks true i within)))
  | inr other ↦ rw other.0 (ap (λ (o : Option Bool). unwrap_or o false) (set_elsewhere marks i k true other.1))
]

module _ (tables : Tables) (v u : TrafficValue) (node : ℕ) (within : node < length tables.plan.nodes.items) (after : tables.after ≢ None)
    (mark : slice_get v.switched node ≡ Some false) where
  can_switch : (w : NetworkState) → HasNetworkState v w → (why : Refusal) → ¬ IsRefused tables w (Switch node) why
  can_switch w s N01 is = omega arith
  can_switch w s N02 is = is
  can_switch w s N03 is = is
  can_switch w s N04 is = is
  can_switch w s N05 is = is
  can_switch w s N06 is = omega arith
  can_switch w s N07 (inl none) = after none
  can_switch w s N07 (inr switched) =
      let not : w.switched node ≡ false = s.switched node ∙ ap (λ (o : Option Bool). unwrap_or o false) mark in
      cc

  pub switches : u.flights ≡ v.flights → u.assemblers ≡ v.assemblers → u.termini ≡ v.termini → u.switched ≡ slice_set v.switched node true
      → Plays tables v (Switch node) (Switched node) u
  switches flights assemblers termini switched w s = (
    with_switched w node,
    (can_switch w s, (refl, refl)),
    record {
      flights = λ k. s.flights k ∙ ap (λ (fs : List (Option Flight)). at_place fs k) (sym flights);
      made = s.made ∙ ap length (sym flights);
      histories = λ n a is. s.histories n a (subst (λ (xs : List Assembler). slice_get xs n ≡ Some a) assemblers is);
      termini = λ n. s.termini n ∙ ap (λ (ts : List (Option TerminusState)). at_place ts n) (sym termini);
      switched = λ n. ap (λ (old : Bool). cond (eqb n node) true old) (s.switched n)
          ∙ (sym (set_mark v.switched node n (slice_get_within v.switched node false mark)) ∙ ap (λ (ms : List Bool). has_switched ms n) (sym switched));
    },
  )
