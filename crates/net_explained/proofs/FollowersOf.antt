-- Where each record has a handle of its own, the table of followers has the moves along next handles.
use Rattle.std.{proofs.Common.{◌≡◌, ℕ, suc, ◌<◌, Bool, true, eqb, List, length, get_or, Option, Some, None, refl, sym, ◌∙◌, ap, subst, arith, inl, inr}, specs.Prelude.{slice_get, position, option_and_then, option_map}, specs.List.{position_or_len}, proofs.lemmas.Bool.{cases_lt, false≢true, lt-ltb, eqb-true, eq-eqb}, proofs.lemmas.List.Sums.{fails_before_first}, proofs.lemmas.List.Quantifiers.{position-Some}, proofs.lemmas.Option.{none-some, slice_get-map, slice_get-get_or, get_or_from_slice_get, slice_get_within}}
use Rattle.plan_values.specs.declared.terminus.PlannedRecord.{PlannedRecord}
use Rattle.net_rules.{specs.Circles.{MovesBy, IsOnCircle, IsLoopFrom, next_in}, specs.RecordChains.{IsFollowedBy, HaveNewHandles}, proofs.ChainLaws.{one_follows}, proofs.SameMoves.{Leads-same}}
use Rattle.net_explained.specs.Followers.{record_of_handle, followers}

-- an item that passes has a first one
passes : {A : Type 0} (p : A → Bool) (xs : List A) (k : ℕ) (d : A) → k < length xs → p (get_or xs k d) ≡ true → (position_or_len p xs < length xs) × (position p xs ≡ Some (position_or_len p xs))
passes p xs k d within is = elim (cases_lt k (position_or_len p xs)) [
  | inl less ↦ absurd (false≢true (sym (fails_before_first p xs k d less) ∙ is))
  | inr le ↦ (let inside : position_or_len p xs < length xs = omega (arith, within, le) in (inside, rw (lt-ltb _ _ inside) refl))
]

module _ (records : List PlannedRecord) where
  -- where each record leads
  pub follower_at : (j : ℕ) → next_in (followers records) j ≡ option_and_then (record_of_handle records) (option_map (λ r. r.next) (slice_get records j))
  follower_at j = ap (λ o. option_and_then (λ next. next) o) (slice_get-map (λ r. record_of_handle records r.next) records j) ∙ by (slice_get records j)
    where
      by : (o : Option PlannedRecord) → option_and_then (λ next. next) (option_map (λ r. record_of_handle records r.next) o) ≡ option_and_then (record_of_handle records) (option_map (λ r. r.next) o)
      by None = refl
      by (Some r) = refl

  -- the move of a record leads to the first of its next handle
  next_of_record : (j : ℕ) (r : PlannedRecord) → slice_get records j ≡ Some r → next_in (followers records) j ≡ record_of_handle records r.next
  next_of_record j r is =
      ap (λ o. option_and_then (λ next. next) o) (slice_get-map (λ r. record_of_handle records r.next) records j ∙ ap (λ o. option_map (λ (r : PlannedRecord). record_of_handle records r.next) o) is)

  pub follower_is : (j k : ℕ) → MovesBy (followers records) j k → IsFollowedBy records j k
  follower_is j k move = by (slice_get records j) refl
    where
      by : (o : Option PlannedRecord) → o ≡ slice_get records j → IsFollowedBy records j k
      by None is = absurd (none-some k (ap (λ o. option_and_then (λ next. next) o) (ap (λ o. option_map (λ (r : PlannedRecord). record_of_handle records r.next) o) is ∙ sym (slice_get-map (λ r. record_of_handle records r.next) records j)) ∙ move))
      by (Some r) is =
          let found = position-Some (λ (x : PlannedRecord). eqb x.handle r.next) records k r (sym (next_of_record j r (sym is)) ∙ move) in
          (r, get_or records k r, sym is, slice_get-get_or records k r found.0, sym (eqb-true _ _ found.1))

  module _ (named : HaveNewHandles records) where
    pub is_follower : (j k : ℕ) → IsFollowedBy records j k → MovesBy (followers records) j k
    is_follower j k (r, other, is, at, same) =
        let there : eqb (get_or records k r).handle r.next ≡ true = eq-eqb _ _ (ap (λ (x : PlannedRecord). x.handle) (get_or_from_slice_get records k other r at) ∙ sym same) in
        let first = passes (λ (x : PlannedRecord). eqb x.handle r.next) records k r (slice_get_within records k other at) there in
        let move : MovesBy (followers records) j (position_or_len (λ (x : PlannedRecord). eqb x.handle r.next) records) = next_of_record j r is ∙ first.1 in
        let one = one_follows records named j _ k (follower_is j _ move) (r, other, is, at, same) in
        subst (λ n. MovesBy (followers records) j n) one move

    pub circles_alike : (first : ℕ) → IsOnCircle (IsFollowedBy records) first → IsOnCircle (MovesBy (followers records)) first
    circles_alike first circle = (circle.0, Leads-same (IsFollowedBy records) (MovesBy (followers records)) is_follower first (suc circle.0) first circle.1)

  pub loop_alike : (first : ℕ) (places : List ℕ) → IsLoopFrom (MovesBy (followers records)) first places → IsLoopFrom (IsFollowedBy records) first places
  loop_alike first places is = record {
    loop = record { two = is.loop.two; closed = is.loop.closed; joined = λ i n m here there. follower_is n m (is.loop.joined i n m here there) };
    starts = is.starts;
    once = is.once;
  }
