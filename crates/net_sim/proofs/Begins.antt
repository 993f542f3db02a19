-- A walk begins, or why it doesn't.
use Rattle.std.{proofs.Common.{◌≡◌, ◌⊎◌, ℕ, ◌+◌, ◌<◌, ◌≤◌, List, [], ◌∷◌, ◌++◌, length, map, Some, None, sym, ◌∙◌, ap, subst, inl, inr, arith}, specs.Prelude.{slice_get, option_map, Any}, proofs.lemmas.Option.{slice_get-map, slice_get-get_or, get_or_from_slice_get, slice_get_within}}
use Rattle.net_tables.{specs.Routing.{Holds}, specs.TwoPlans.{Tables}}
use Rattle.net_runs.{specs.States.{unit_of}, specs.Events.{N01, N02, N03, N04, N05, N06, N07}, specs.Walkers.{WalkerValue, WalkedState, BeginWalk, Begun, WalkRefusal, Also, N08, N09, N10, N11, N12, N13, IsThere, IsWalkRefused, IsFirstWalkRefusal, walk_refusal_number, with_walker, fresh_walker, five_packets}}
use Rattle.net_sim.{specs.declared.network_walker.NetworkWalker.{NetworkWalker}, specs.NetworkWalkers.{walker_value, IsAt}, specs.WalkedStanding.{NetworkValue, StandsForWalked, WalkedPlays, WalkedWants}, proofs.Finding.{walker_place, mapped_there}, proofs.Walking.{walker_begins, walkers_stay}}

-- a walker among those of the network is one of the state's, and conversely
module _ (v : NetworkValue) (w : WalkedState) (s : StandsForWalked v w) (walkers : List NetworkWalker) (are : v.walkers ≡ map walker_value walkers) (node eid tag : ℕ) where
  pub is_there : Any (λ x. IsAt node eid tag (walker_value x)) walkers → IsThere w node eid tag
  is_there (i, x, within, is, at) =
      let here : slice_get (map walker_value walkers) i ≡ Some (walker_value x) =
      slice_get-map walker_value walkers i ∙ ap (option_map walker_value) (slice_get-get_or walkers i x within ∙ ap Some is) in
      (i + 1, walker_value x, s.walkers i ∙ (ap (λ (xs : List WalkerValue). slice_get xs i) are ∙ here), at.0, at.1, at.2)

  pub is_among : IsThere w node eid tag → Any (λ x. IsAt node eid tag (walker_value x)) walkers
  is_among (k, x, there, node_is, eid_is, tag_is) =
      let (i, is, here) = walker_place v w s k x there in
      let (y, at, same) = mapped_there walker_value walkers i x (sym (ap (λ (xs : List WalkerValue). slice_get xs i) are) ∙ here) in
      let P : WalkerValue → Type 0 = IsAt node eid tag in
      (i, y, slice_get_within walkers i y at, get_or_from_slice_get walkers i y y at, subst P (sym same) (node_is, eid_is, tag_is))

module _ (tables : Tables) (w : WalkedState) (node eid tag count : ℕ) where
  module _ (within : node < length tables.plan.nodes.items) where
    pub begins_twice : IsThere w node eid tag → IsFirstWalkRefusal tables.plan w (BeginWalk node eid tag count) N08
    begins_twice there = (there, before)
      where
        before : (other : WalkRefusal) → walk_refusal_number other < 8 → ¬ IsWalkRefused tables.plan w (BeginWalk node eid tag count) other
        before (Also N01) less is = omega (arith, within, is)
        before (Also N02) less is = is
        before (Also N03) less is = is
        before (Also N04) less is = is
        before (Also N05) less is = is
        before (Also N06) less is = is
        before (Also N07) less is = is
        before N08 less is = absurd (omega (arith, less))
        before N09 less is = absurd (omega (arith, less))
        before N10 less is = absurd (omega (arith, less))
        before N11 less is = is
        before N12 less is = is
        before N13 less is = is

    module _ (new : ¬ IsThere w node eid tag) where
      pub begins_without_terminus : ((n : ℕ) → Holds tables.plan n eid → w.network.terminus n ≡ None) → IsFirstWalkRefusal tables.plan w (BeginWalk node eid tag count) N09
      begins_without_terminus none = (none, before)
        where
          before : (other : WalkRefusal) → walk_refusal_number other < 9 → ¬ IsWalkRefused tables.plan w (BeginWalk node eid tag count) other
          before (Also N01) less is = omega (arith, within, is)
          before (Also N02) less is = is
          before (Also N03) less is = is
          before (Also N04) less is = is
          before (Also N05) less is = is
          before (Also N06) less is = is
          before (Also N07) less is = is
          before N08 less is = new is
          before N09 less is = absurd (omega (arith, less))
          before N10 less is = absurd (omega (arith, less))
          before N11 less is = is
          before N12 less is = is
          before N13 less is = is

      module _ (some : ¬ ((n : ℕ) → Holds tables.plan n eid → w.network.terminus n ≡ None)) where
        pub begins_with_wrong_count : (count < 8) ⊎ (five_packets (unit_of tables.plan) < count) → IsFirstWalkRefusal tables.plan w (BeginWalk node eid tag count) N10
        begins_with_wrong_count wrong = (wrong, before)
          where
            before : (other : WalkRefusal) → walk_refusal_number other < 10 → ¬ IsWalkRefused tables.plan w (BeginWalk node eid tag count) other
            before (Also N01) less is = omega (arith, within, is)
            before (Also N02) less is = is
            before (Also N03) less is = is
            before (Also N04) less is = is
            before (Also N05) less is = is
            before (Also N06) less is = is
            before (Also N07) less is = is
            before N08 less is = new is
            before N09 less is = some is
            before N10 less is = absurd (omega (arith, less))
            before N11 less is = is
            before N12 less is = is
            before N13 less is = is

        pub may_begin : 8 ≤ count → count ≤ five_packets (unit_of tables.plan) → (why : WalkRefusal) → ¬ IsWalkRefused tables.plan w (BeginWalk node eid tag count) why
        may_begin least most (Also N01) is = omega (arith, within, is)
        may_begin least most (Also N02) is = is
        may_begin least most (Also N03) is = is
        may_begin least most (Also N04) is = is
        may_begin least most (Also N05) is = is
        may_begin least most (Also N06) is = is
        may_begin least most (Also N07) is = is
        may_begin least most N08 is = new is
        may_begin least most N09 is = some is
        may_begin least most N10 (inl less) = omega (arith, least, less)
        may_begin least most N10 (inr more) = omega (arith, most, more)
        may_begin least most N11 is = is
        may_begin least most N12 is = is
        may_begin least most N13 is = is

module _ (tables : Tables) (v : NetworkValue) (node eid tag count : ℕ)
    (may : (w : WalkedState) → StandsForWalked v w → (why : WalkRefusal) → ¬ IsWalkRefused tables.plan w (BeginWalk node eid tag count) why) where
  pub begins : (k : ℕ) (x : WalkerValue) (ws : List WalkerValue) → k ≡ length v.walkers + 1 → x ≡ fresh_walker node eid tag count → ws ≡ v.walkers ++ x ∷ []
      → WalkedPlays tables v (BeginWalk node eid tag count) (Begun k) (record { traffic = v.traffic; walkers = ws })
  begins k x ws many is more w s =
      let next : w.begun + 1 ≡ k = ap (λ n. n + 1) s.begun ∙ sym many in
      let there : WalkedState = record { network = w.network; walker = with_walker w.walker (w.begun + 1) x; begun = w.begun + 1 } in (
        there,
        (
          may w s,
          (
            sym next,
            ap (λ n. record { network = w.network; walker = with_walker w.walker n x; begun = n }) next
                ∙ ap (λ (y : WalkerValue). record { network = w.network; walker = with_walker w.walker k y; begun = k }) is,
          ),
        ),
        walker_begins v v.traffic w w.network s s.network ws x more,
      )

  -- memory ran out before it began
  pub begin_wants : (ws : List WalkerValue) → ws ≡ v.walkers → WalkedWants tables v (BeginWalk node eid tag count) (record { traffic = v.traffic; walkers = ws })
  begin_wants ws same w s = (walkers_stay v v.traffic w w.network s s.network ws same, may w s)
