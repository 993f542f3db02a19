-- Circles from their least index.
use Rattle.std.{proofs.Common.{◌≡◌, ℕ, zero, suc, ◌+◌, ◌-◌, ◌<◌, ◌≤◌, ◌⊎◌, List, [], ◌∷◌, ◌++◌, length, get_or, Some, None, refl, sym, ◌∙◌, ap, subst, arith, inl, inr, add-one}, specs.Prelude.{slice_get}, proofs.lemmas.Bool.{cases_lt, cases_order}, proofs.lemmas.List.{same_lists}, proofs.lemmas.Option.{same_Some, none-some, slice_get_within, slice_get-get_or}}
use Rattle.net_rules.{specs.Moves.{Leads}, specs.Circles.{IsOnCircle, IsLoop, IsLoopFrom}, proofs.Circling.{IsUnderWay, both_ways, circle_leads, loop_circles, back_again, stands_there, one_more}, proofs.SameMoves.{Leads-same}}
use Rattle.net_faults.specs.Circles.{IsAmong, IsCircle, IsNotLeast, AreJoined}
use Rattle.net_tables.proofs.Elements.{element, in_push}

-- a circle goes through its first index
pub circle_circles : (Move : ℕ → ℕ → Type 0) (first : ℕ) (places : List ℕ) → IsCircle Move first places → IsOnCircle Move first
circle_circles Move first places is = loop_circles Move places first is.loop.loop is.loop.starts

-- the same list is a circle of each relation that joins it
pub circle_joined : (Move Other : ℕ → ℕ → Type 0) (first : ℕ) (places : List ℕ) → IsCircle Move first places → AreJoined Other places → IsCircle Other first places
circle_joined Move Other first places is joined = record {
  loop = record {
    loop = record { two = is.loop.loop.two; closed = is.loop.loop.closed; joined = joined };
    starts = is.loop.starts;
    once = is.loop.once;
  };
  least = is.least;
}

pub circle_same : (Move Other : ℕ → ℕ → Type 0) → ((n m : ℕ) → Move n m → Other n m) → (first : ℕ) (places : List ℕ) → IsCircle Move first places → IsCircle Other first places
circle_same Move Other to first places is = circle_joined Move Other first places is (λ i n m here there. to n m (is.loop.loop.joined i n m here there))

pub not_least_same : (Move Other : ℕ → ℕ → Type 0) → ((n m : ℕ) → Move n m → Other n m) → ((n m : ℕ) → Other n m → Move n m) → (first : ℕ) → IsNotLeast Move first → IsNotLeast Other first
not_least_same Move Other to from first not circle =
    let lower = not (circle.0, Leads-same Other Move from first (suc circle.0) first circle.1) in
    (lower.0, lower.1, Leads-same Move Other to first lower.0 lower.1 lower.2, lower.3)

-- At most one move leaves each index.
module _ (Move : ℕ → ℕ → Type 0) (only : (n p q : ℕ) → Move n p → Move n q → p ≡ q) where
  -- from one on a loop the next is on it
  next_in_loop : (places : List ℕ) → IsLoop Move places → (x p : ℕ) → IsAmong places x → Move x p → IsAmong places p
  next_in_loop places loop x p (i, is) move =
      let within = slice_get_within places i x is in
      elim (cases_lt (i + 1) (length places)) [
        | inl inside ↦ (
            let q = element places (i + 1) inside in
            (i + 1, q.1 ∙ ap Some (only x q.0 p (loop.joined i x q.0 is q.1) move)))
        | inr last ↦ (
            let same : i ≡ length places - 1 = omega (arith, within, last) in
            let at_first : slice_get places 0 ≡ Some x = sym loop.closed ∙ (ap (λ k. slice_get places k) (sym same) ∙ is) in
            let q = element places (0 + 1) (omega (arith, loop.two)) in
            (0 + 1, q.1 ∙ ap Some (only x q.0 p (loop.joined 0 x q.0 at_first q.1) move)))
      ]

  pub reach_in_loop : (places : List ℕ) → IsLoop Move places → (x k n : ℕ) → IsAmong places x → Leads Move x k n → IsAmong places n
  reach_in_loop places loop x zero n among way = subst (λ y. IsAmong places y) way among
  reach_in_loop places loop x (suc k) n among way = reach_in_loop places loop way.0 k n (next_in_loop places loop x way.0 among way.1) way.2

  -- from a circle's least index no move leads below it
  pub least_is_least : (first : ℕ) (places : List ℕ) → IsCircle Move first places → ¬ IsNotLeast Move first
  least_is_least first places is not =
      let lower = not (circle_circles Move first places is) in
      let le = is.least lower.1 (reach_in_loop places is.loop.loop first lower.0 lower.1 (0, is.loop.starts) lower.2) in
      omega (arith, le, lower.3)

  -- what an index on a circle leads to leads back
  leads_back : (n k x : ℕ) → IsOnCircle Move n → Leads Move n k x → (l : ℕ) × Leads Move x l n
  leads_back n zero x circle way = (0, sym way)
  leads_back n (suc k) x circle way =
      let p = way.0 in
      let on = circle_leads Move only n (suc zero) p circle (p, way.1, refl) in
      let back : Leads Move p circle.0 n = subst (λ y. Leads Move y circle.0 n) (only n circle.1.0 p circle.1.1 way.1) circle.1.2 in
      let there = leads_back p k x on way.2 in
      (there.0 + circle.0, both_ways Move x there.0 p circle.0 n (there.0 + circle.0) refl there.1 back)

  -- where each index is the first of a circle that is listed, or not the least of its circle, all circles are listed
  module _ (Listed : ℕ → List ℕ → Type 0) (bound : ℕ) (each : (m : ℕ) → m < bound → IsNotLeast Move m ⊎ ((places : List ℕ) × Listed m places × IsCircle Move m places)) where
    listed_by : (fuel n : ℕ) → n < fuel → n < bound → IsOnCircle Move n → (m : ℕ) × (places : List ℕ) × Listed m places × IsCircle Move m places × IsAmong places n
    listed_by zero n lt within circle = absurd (omega (arith, lt))
    listed_by (suc fuel) n lt within circle = elim (each n within) [
      | inl not ↦ (
          let lower = not circle in
          let on = circle_leads Move only n lower.0 lower.1 circle lower.2 in
          let there = listed_by fuel lower.1 (omega (arith, lower.3, lt)) (omega (arith, lower.3, within)) on in
          let back = leads_back n lower.0 lower.1 circle lower.2 in
          (there.0, there.1, there.2, there.3, reach_in_loop there.1 there.3.loop.loop lower.1 back.0 n there.4 back.1))
      | inr (places, listed, is) ↦ (n, places, listed, is, (0, is.loop.starts))
    ]

    pub all_listed : (n : ℕ) → n < bound → IsOnCircle Move n → (m : ℕ) × (places : List ℕ) × Listed m places × IsCircle Move m places × IsAmong places n
    all_listed n within circle = listed_by (suc n) n (omega arith) within circle

  -- where none below a bound is the least of its circle, none there is on one
  none_by : (bound : ℕ) → ((m : ℕ) → m < bound → IsNotLeast Move m) → (fuel n : ℕ) → n < fuel → n < bound → ¬ IsOnCircle Move n
  none_by bound each zero n lt within circle = omega (arith, lt)
  none_by bound each (suc fuel) n lt within circle =
      let lower = each n within circle in
      none_by bound each fuel lower.1 (omega (arith, lower.3, lt)) (omega (arith, lower.3, within)) (circle_leads Move only n lower.0 lower.1 circle lower.2)

  pub none_below : (bound : ℕ) → ((m : ℕ) → m < bound → IsNotLeast Move m) → (n : ℕ) → n < bound → ¬ IsOnCircle Move n
  none_below bound each n within = none_by bound each (suc n) n (omega arith) within

  -- a loop from an index is one list
  same_so_far : (first : ℕ) (xs ys : List ℕ) → IsLoopFrom Move first xs → IsLoopFrom Move first ys → (i n m : ℕ) → slice_get xs i ≡ Some n → slice_get ys i ≡ Some m → n ≡ m
  same_so_far first xs ys one other zero n m is is' = same_Some n m (sym is ∙ (one.starts ∙ (sym other.starts ∙ is')))
  same_so_far first xs ys one other (suc i) n m is is' =
      let x = get_or xs i 0 in
      let y = get_or ys i 0 in
      let here = slice_get-get_or xs i 0 (omega (arith, slice_get_within xs (suc i) n is)) in
      let there = slice_get-get_or ys i 0 (omega (arith, slice_get_within ys (suc i) m is')) in
      let same = same_so_far first xs ys one other i x y here there in
      let next : slice_get xs (i + 1) ≡ Some n = rw add-one is in
      let next' : slice_get ys (i + 1) ≡ Some m = rw add-one is' in
      only x n m (one.loop.joined i x n here next) (subst (λ z. Move z m) (sym same) (other.loop.joined i y m there next'))

  no_longer : (first : ℕ) (xs ys : List ℕ) → IsLoopFrom Move first xs → IsLoopFrom Move first ys → ¬ (length xs < length ys)
  no_longer first xs ys one other less =
      let last = length xs - 1 in
      let ends : slice_get xs last ≡ Some first = one.loop.closed ∙ one.starts in
      let y = get_or ys last 0 in
      let there = slice_get-get_or ys last 0 (omega (arith, less)) in
      let same = same_so_far first xs ys one other last first y ends there in
      other.once last (omega (arith, one.loop.two)) (omega (arith, less, one.loop.two)) (there ∙ ap Some (sym same))

  pub one_circle : (first : ℕ) (xs ys : List ℕ) → IsCircle Move first xs → IsCircle Move first ys → xs ≡ ys
  one_circle first xs ys one other =
      let long : length xs ≡ length ys = elim (cases_order (length xs) (length ys)) [
        | inl same ↦ same
        | inr (inl less) ↦ absurd (no_longer first xs ys one.loop other.loop less)
        | inr (inr more) ↦ absurd (no_longer first ys xs other.loop one.loop more)
      ] in
      same_lists xs ys long (λ k d less. same_so_far first xs ys one.loop other.loop k (get_or xs k d) (get_or ys k d) (slice_get-get_or xs k d less) (slice_get-get_or ys k d (omega (arith, less, long))))

-- ---- a circle that is being followed

-- none of the places is below the first
abbrev pub all_above : ℕ → List ℕ → Type 0
all_above first places = (n : ℕ) → IsAmong places n → first ≤ n

pub above_more : (first next : ℕ) (places : List ℕ) → all_above first places → first ≤ next → all_above first (places ++ next ∷ [])
above_more first next places above le n (i, is) = elim (in_push places next i n is) [
  | inl before ↦ above n (i, before)
  | inr (_, same) ↦ omega (arith, le, same)
]

one_alone : (first n i : ℕ) → slice_get (first ∷ []) i ≡ Some n → first ≤ n
one_alone first n zero is = omega (arith, same_Some first n is)
one_alone first n (suc i) is = absurd (none-some n is)

pub one_above : (first : ℕ) (places : List ℕ) → places ≡ first ∷ [] → all_above first places
one_above first places are n (i, is) =
    let P : List ℕ → Type 0 = λ xs. slice_get xs i ≡ Some n in
    one_alone first n i (subst P are is)

pub circled : (Move : ℕ → ℕ → Type 0) (first at next : ℕ) (places : List ℕ) → IsUnderWay Move first at places → all_above first places → Move at next → next ≡ first → IsCircle Move first (places ++ next ∷ [])
circled Move first at next places under above move same = record {
  loop = back_again Move first at next places under move same;
  least = above_more first next places above (omega (arith, same));
}

pub led_below : (Move : ℕ → ℕ → Type 0) (first at next : ℕ) (places : List ℕ) → IsUnderWay Move first at places → Move at next → next < first → IsNotLeast Move first
led_below Move first at next places under move less circle =
    (suc (length places - 1), next, one_more Move first (length places - 1) at next (stands_there Move first at places under) move, less)

-- a walk begins
pub begun : (Move : ℕ → ℕ → Type 0) (first : ℕ) (places : List ℕ) → places ≡ first ∷ [] → IsUnderWay Move first first places
begun Move first places are = subst (λ xs. IsUnderWay Move first first xs) (sym are) (record {
  some = omega arith;
  starts = refl;
  stands = refl;
  joined = λ i n m here there. absurd (omega (arith, slice_get_within (first ∷ []) (i + 1) m there));
  once = λ i some lt. absurd (omega (arith, some, lt));
})

-- what holds of each number below one and of it
pub one_more_below : (P : ℕ → Type 0) (b : ℕ) → ((n : ℕ) → n < b → P n) → P b → (n : ℕ) → n < b + 1 → P n
one_more_below P b below p n lt = elim (cases_lt n b) [
  | inl less ↦ below n less
  | inr here ↦ (let same : b ≡ n = omega (arith, here, lt) in subst P same p)
]
