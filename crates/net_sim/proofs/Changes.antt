-- What a network stands for after one of its parts has changed.
use Rattle.std.{proofs.Common.{◌≡◌, ℕ, ◌+◌, ◌<◌, Bool, cond, eqb, List, [], ◌∷◌, ◌++◌, length, Option, Some, None, sym, ◌∙◌, ap, subst, inl, inr, arith}, specs.Prelude.{slice_get, slice_set}, proofs.lemmas.Bool.Decides.{eqb_tells}, proofs.lemmas.List.{length_push, length-set}}
use Rattle.mctp_transport.{specs.declared.assembler.Assembler.{Assembler}, specs.Histories.{Input, after}}
use Rattle.net_runs.{specs.Termini.{TerminusState}, specs.States.{NetworkState, Flight, with_made, with_input, with_terminus}}
use Rattle.net_tables.proofs.Elements.{in_set}
use Rattle.net_sim.{specs.Routers.{RouterValue, has_switched}, specs.Standing.{TrafficValue, HasNetworkState, at_place}, proofs.Slots.{set_slot, push_slot, push_none}}
use Rattle.mctp_transport.specs.Assembly as assembly

-- the same marks in the same router
pub same_marks : (r q : RouterValue) → r ≡ q → r.switched ≡ q.switched
same_marks r q same = ap (λ (x : RouterValue). x.switched) same

-- the state with this flight, or none, under the number
abbrev pub with_slot : NetworkState → ℕ → Option Flight → NetworkState
with_slot w number o = record w { flight = λ k. cond (eqb k number) o (w.flight k) }

pub same_stands : (v u : TrafficValue) (w : NetworkState) → u.flights ≡ v.flights → u.assemblers ≡ v.assemblers → u.termini ≡ v.termini
    → u.switched ≡ v.switched → HasNetworkState v w → HasNetworkState u w
same_stands v u w flights assemblers termini switched s = record {
  flights = λ k. s.flights k ∙ ap (λ (fs : List (Option Flight)). at_place fs k) (sym flights);
  made = s.made ∙ ap length (sym flights);
  histories = λ n a is. s.histories n a (subst (λ (xs : List Assembler). slice_get xs n ≡ Some a) assemblers is);
  termini = λ n. s.termini n ∙ ap (λ (ts : List (Option TerminusState)). at_place ts n) (sym termini);
  switched = λ n. s.switched n ∙ ap (λ (ms : List Bool). has_switched ms n) (sym switched);
}

module _ (v u : TrafficValue) (w : NetworkState) (s : HasNetworkState v w) where
  pub set_stands : (number : ℕ) (o : Option Flight) → number < length v.flights → u.flights ≡ slice_set v.flights number o → u.assemblers ≡ v.assemblers
      → u.termini ≡ v.termini → u.switched ≡ v.switched → HasNetworkState u (with_slot w number o)
  set_stands number o within flights assemblers termini switched = record {
    flights = λ k. ap (λ (old : Option Flight). cond (eqb k number) o old) (s.flights k)
        ∙ (sym (set_slot v.flights number k o within) ∙ ap (λ (fs : List (Option Flight)). at_place fs k) (sym flights));
    made = s.made ∙ (sym (length-set v.flights number o) ∙ ap length (sym flights));
    histories = λ n a is. s.histories n a (subst (λ (xs : List Assembler). slice_get xs n ≡ Some a) assemblers is);
    termini = λ n. s.termini n ∙ ap (λ (ts : List (Option TerminusState)). at_place ts n) (sym termini);
    switched = λ n. s.switched n ∙ ap (λ (ms : List Bool). has_switched ms n) (sym switched);
  }

  pub push_stands : (o : Option Flight) → u.flights ≡ v.flights ++ o ∷ [] → u.assemblers ≡ v.assemblers → u.termini ≡ v.termini
      → u.switched ≡ v.switched → HasNetworkState u (with_made (with_slot w (w.made + 1) o) (w.made + 1))
  push_stands o flights assemblers termini switched = record {
    flights = λ k. ap (λ (old : Option Flight). cond (eqb k (w.made + 1)) o old) (s.flights k)
        ∙ (ap (λ n. cond (eqb k n) o (at_place v.flights k)) s.made
        ∙ (sym (push_slot v.flights k o) ∙ ap (λ (fs : List (Option Flight)). at_place fs k) (sym flights)));
    made = omega (arith, s.made, length_push v.flights o, ap length flights);
    histories = λ n a is. s.histories n a (subst (λ (xs : List Assembler). slice_get xs n ≡ Some a) assemblers is);
    termini = λ n. s.termini n ∙ ap (λ (ts : List (Option TerminusState)). at_place ts n) (sym termini);
    switched = λ n. s.switched n ∙ ap (λ (ms : List Bool). has_switched ms n) (sym switched);
  }

  pub skip_stands : u.flights ≡ v.flights ++ None ∷ [] → u.assemblers ≡ v.assemblers → u.termini ≡ v.termini → u.switched ≡ v.switched → HasNetworkState u (with_made w (w.made + 1))
  skip_stands flights assemblers termini switched = record {
    flights = λ k. s.flights k ∙ (sym (push_none v.flights k) ∙ ap (λ (fs : List (Option Flight)). at_place fs k) (sym flights));
    made = omega (arith, s.made, length_push v.flights None, ap length flights);
    histories = λ n a is. s.histories n a (subst (λ (xs : List Assembler). slice_get xs n ≡ Some a) assemblers is);
    termini = λ n. s.termini n ∙ ap (λ (ts : List (Option TerminusState)). at_place ts n) (sym termini);
    switched = λ n. s.switched n ∙ ap (λ (ms : List Bool). has_switched ms n) (sym switched);
  }

  pub input_stands : (node : ℕ) (a : Assembler) (i : Input) → node < length v.assemblers → assembly.HoldsHistory a (after (w.history node) i) → u.flights ≡ v.flights
      → u.assemblers ≡ slice_set v.assemblers node a → u.termini ≡ v.termini → u.switched ≡ v.switched → HasNetworkState u (with_input w node i)
  input_stands node a i within stands flights assemblers termini switched = record {
    flights = λ k. s.flights k ∙ ap (λ (fs : List (Option Flight)). at_place fs k) (sym flights);
    made = s.made ∙ ap length (sym flights);
    histories = λ n b is. given n b (subst (λ (xs : List Assembler). slice_get xs n ≡ Some b) assemblers is);
    termini = λ n. s.termini n ∙ ap (λ (ts : List (Option TerminusState)). at_place ts n) (sym termini);
    switched = λ n. s.switched n ∙ ap (λ (ms : List Bool). has_switched ms n) (sym switched);
  }
    where
      given : (n : ℕ) (b : Assembler) → slice_get (slice_set v.assemblers node a) n ≡ Some b
          → assembly.HoldsHistory b (cond (eqb n node) (after (w.history n) i) (w.history n))
      given n b is = elim (in_set v.assemblers a node n b within is) [
        | inl (other, old) ↦ elim (eqb_tells n node) [
          | inl same ↦ absurd (other same.1)
          | inr apart ↦ rw apart.0 (s.histories n b old)
        ]
        | inr (at, equal) ↦ elim (eqb_tells n node) [
          | inl same ↦ rw same.0 (subst (λ (x : Assembler). assembly.HoldsHistory x (after (w.history n) i)) equal (subst (λ k. assembly.HoldsHistory a (after (w.history k) i)) (sym at) stands))
          | inr apart ↦ absurd (apart.1 at)
        ]
      ]

  pub terminus_stands : (node : ℕ) (o : Option TerminusState) → node < length v.termini → u.flights ≡ v.flights → u.assemblers ≡ v.assemblers
      → u.termini ≡ slice_set v.termini node o → u.switched ≡ v.switched → HasNetworkState u (with_terminus w node o)
  terminus_stands node o within flights assemblers termini switched = record {
    flights = λ k. s.flights k ∙ ap (λ (fs : List (Option Flight)). at_place fs k) (sym flights);
    made = s.made ∙ ap length (sym flights);
    histories = λ n a is. s.histories n a (subst (λ (xs : List Assembler). slice_get xs n ≡ Some a) assemblers is);
    termini = λ n. ap (λ (old : Option TerminusState). cond (eqb n node) o old) (s.termini n)
        ∙ (sym (set_slot v.termini node n o within) ∙ ap (λ (ts : List (Option TerminusState)). at_place ts n) (sym termini));
    switched = λ n. s.switched n ∙ ap (λ (ms : List Bool). has_switched ms n) (sym switched);
  }
