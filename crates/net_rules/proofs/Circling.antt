-- Where moves lead: to an end, or round a circle.
use Rattle.std.{proofs.Common.{◌≡◌, ℕ, zero, suc, ◌+◌, ◌-◌, ◌<◌, ◌≤◌, inl, inr, arith, refl, subst, sym, ◌∙◌, ap, List, length, Some, Option, None, add-one, get_or, ◌++◌, ◌∷◌, [], ◌≢◌, length-append}, specs.Prelude.{slice_get}, proofs.lemmas.Bool.{cases_lt}, proofs.lemmas.List.{get_or_append_left, get_or_push, length_push}, proofs.lemmas.Option.{same_Some, slice_get_within, slice_get-get_or, option_and_then_some, none-some}}
use Rattle.net_rules.{specs.Moves.{Leads, IsEnd}, specs.Circles.{EndsAfter, IsOnCircle, IsLoop, IsLoopFrom, MovesBy, HasNoCircle, next_in}, proofs.Pigeons.{pigeons}}

-- the place after so many of the moves
pub spot : (Move : ℕ → ℕ → Type 0) (n k m : ℕ) → Leads Move n k m → ℕ → ℕ
spot Move n zero m way i = n
spot Move n (suc k) m way zero = n
spot Move n (suc k) m way (suc i) = spot Move way.0 k m way.2 i

module _ (Move : ℕ → ℕ → Type 0) where
  pub one_more : (n k m p : ℕ) → Leads Move n k m → Move m p → Leads Move n (suc k) p
  one_more n zero m p way move = (p, subst (λ x. Move x p) (sym way) move, refl)
  one_more n (suc k) m p way move = (way.0, way.1, one_more way.0 k m p way.2 move)

  pub both_ways : (n i x j m l : ℕ) → i + j ≡ l → Leads Move n i x → Leads Move x j m → Leads Move n l m
  both_ways n zero x j m l e way more = subst (λ y. Leads Move y l m) (sym way) (let P : ℕ → Type 0 = λ k. Leads Move x k m in let same : j ≡ l = omega arith in subst P same more)
  both_ways n (suc i) x j m zero e way more = absurd (omega arith)
  both_ways n (suc i) x j m (suc l) e way more = (way.0, way.1, both_ways way.0 i x j m l (omega arith) way.2 more)

  pub spot_parts : (n k m : ℕ) (way : Leads Move n k m) (i j : ℕ) → i + j ≡ k → Leads Move n i (spot Move n k m way i) × Leads Move (spot Move n k m way i) j m
  unfolding spot
  spot_parts n zero m way zero zero e = (refl, way)
  spot_parts n zero m way zero (suc j) e = absurd (omega arith)
  spot_parts n zero m way (suc i) j e = absurd (omega arith)
  spot_parts n (suc k) m way zero j e = (refl, (let P : ℕ → Type 0 = λ l. Leads Move n l m in let same : suc k ≡ j = omega arith in subst P same way))
  spot_parts n (suc k) m way (suc i) j e =
      let rest = spot_parts way.0 k m way.2 i j (omega arith) in
      ((way.0, way.1, rest.0), rest.1)

  pub spot_between : (n k m : ℕ) (way : Leads Move n k m) (i d j : ℕ) → i + d ≡ j → j ≤ k → Leads Move (spot Move n k m way i) d (spot Move n k m way j)
  unfolding spot
  spot_between n zero m way i zero j e le = refl
  spot_between n zero m way i (suc d) j e le = absurd (omega arith)
  spot_between n (suc k) m way zero d j e le =
      let P : ℕ → Type 0 = λ l. Leads Move n l (spot Move n (suc k) m way j) in
      let same : j ≡ d = omega arith in
      subst P same (spot_parts n (suc k) m way j (suc k - j) (omega arith)).0
  spot_between n (suc k) m way (suc i) d zero e le = absurd (omega arith)
  spot_between n (suc k) m way (suc i) d (suc j) e le = spot_between way.0 k m way.2 i d j (omega arith) (omega arith)

-- Each place that a move leaves is below a number.
module _ (Move : ℕ → ℕ → Type 0) (places : ℕ) (within : (n p : ℕ) → Move n p → n < places) where
  leaves_within : (n k m : ℕ) → Leads Move n k m → 0 < k → n < places
  leaves_within n zero m way some = absurd (omega arith)
  leaves_within n (suc k) m way some = within n way.0 way.1

  -- two places of a long way are the same
  repeats : (n k m : ℕ) (way : Leads Move n k m) → places < k → (i : ℕ) × (j : ℕ) × (i < j) × (j ≤ places) × (spot Move n k m way i ≡ spot Move n k m way j)
  repeats n k m way long = pigeons places (spot Move n k m way)
      (λ i le. leaves_within (spot Move n k m way i) (k - i) m (spot_parts Move n k m way i (k - i) (omega arith)).1 (omega arith))

  -- a long way goes round a circle
  pub circle_in : (n k m : ℕ) → Leads Move n k m → places < k → (x : ℕ) × IsOnCircle Move x
  circle_in n k m way long =
      let two = repeats n k m way long in
      let x = spot Move n k m way two.0 in
      let there = spot_between Move n k m way two.0 (two.1 - two.0) two.1 (omega (arith, two.2)) (omega (arith, two.3)) in
      let back : Leads Move x (two.1 - two.0) x = subst (λ y. Leads Move x (two.1 - two.0) y) (sym two.4) there in
      let P : ℕ → Type 0 = λ l. Leads Move x l x in
      let same : two.1 - two.0 ≡ suc (two.1 - two.0 - 1) = omega (arith, two.2) in
      (x, (two.1 - two.0 - 1, subst P same back))

  -- and is not needed to get there
  pub shorter : (n k m : ℕ) → Leads Move n k m → places < k → (l : ℕ) × (l < k) × (0 < l) × Leads Move n l m
  shorter n k m way long =
      let two = repeats n k m way long in
      let i = two.0 in
      let j = two.1 in
      let before = (spot_parts Move n k m way i (k - i) (omega (arith, two.2, two.3))).0 in
      let after = (spot_parts Move n k m way j (k - j) (omega (arith, two.3))).1 in
      (i + (k - j), omega (arith, two.2, two.3), omega (arith, two.3), both_ways Move n i (spot Move n k m way i) (k - j) m (i + (k - j)) refl before (subst (λ y. Leads Move y (k - j) m) (sym two.4) after))

  short_within : (fuel n k m : ℕ) → k ≤ fuel → 0 < k → Leads Move n k m → (l : ℕ) × (l ≤ places) × (0 < l) × Leads Move n l m
  short_within zero n k m le some way = absurd (omega arith)
  short_within (suc fuel) n k m le some way = elim (cases_lt places k) [
    | inl long ↦ (let cut = shorter n k m way long in short_within fuel n cut.0 m (omega (arith, cut.1)) cut.2 cut.3)
    | inr short ↦ (k, short, some, way)
  ]

  -- who can be reached again is so in few moves
  pub short_return : (n : ℕ) → IsOnCircle Move n → (l : ℕ) × (l ≤ places) × (0 < l) × Leads Move n l n
  short_return n circle = short_within (suc circle.0) n (suc circle.0) n (omega arith) (omega arith) circle.1

-- At most one move leaves each place.
module _ (Move : ℕ → ℕ → Type 0) (only : (n p q : ℕ) → Move n p → Move n q → p ≡ q) where
  pub leads_only : (n k m m' : ℕ) → Leads Move n k m → Leads Move n k m' → m ≡ m'
  leads_only n zero m m' way other = sym way ∙ other
  leads_only n (suc k) m m' way other =
      leads_only way.0 k m m' way.2 (subst (λ x. Leads Move x k m') (sym (only n way.0 other.0 way.1 other.1)) other.2)

  circle_moves : (n p : ℕ) → IsOnCircle Move n → Move n p → IsOnCircle Move p
  circle_moves n p circle move =
      let q = circle.1.0 in
      let here : Leads Move p circle.0 n = subst (λ x. Leads Move x circle.0 n) (only n q p circle.1.1 move) circle.1.2 in
      (circle.0, one_more Move p circle.0 n p here move)

  pub circle_leads : (n k m : ℕ) → IsOnCircle Move n → Leads Move n k m → IsOnCircle Move m
  circle_leads n zero m circle way = subst (λ x. IsOnCircle Move x) way circle
  circle_leads n (suc k) m circle way = circle_leads way.0 k m (circle_moves n way.0 circle way.1) way.2

  -- a circle has no end
  pub circle_never_ends : (n k m : ℕ) → IsOnCircle Move n → Leads Move n k m → IsEnd Move m → ⊥
  circle_never_ends n k m circle way ends = (let on = circle_leads n k m circle way in ends on.1.0 on.1.1)

  pub ends_once : (n k l : ℕ) → EndsAfter Move n k → EndsAfter Move n l → k ≡ l
  ends_once n zero zero one other = refl
  ends_once n zero (suc l) one other = absurd (one.2 other.1.0 (subst (λ x. Move x other.1.0) one.1 other.1.1))
  ends_once n (suc k) zero one other = absurd (other.2 one.1.0 (subst (λ x. Move x one.1.0) other.1 one.1.1))
  ends_once n (suc k) (suc l) one other =
      ap suc (ends_once one.1.0 k l (one.0, one.1.2, one.2) (other.0, subst (λ x. Leads Move x l other.0) (sym (only n one.1.0 other.1.0 one.1.1 other.1.1)) other.1.2, other.2))

  -- one move on, one move less is left
  pub one_less : (n p k l : ℕ) → Move n p → EndsAfter Move n k → EndsAfter Move p l → k ≡ suc l
  one_less n p k l move here there = ends_once n k (suc l) here (there.0, (p, move, there.1), there.2)

-- What falls with each move.
module _ (Move : ℕ → ℕ → Type 0) (height : ℕ → ℕ) (falls : (n p : ℕ) → Move n p → height p < height n) where
  pub leads_down : (n k m : ℕ) → Leads Move n k m → k + height m ≤ height n
  leads_down n zero m way = omega (arith, ap height way)
  leads_down n (suc k) m way = omega (arith, falls n way.0 way.1, leads_down way.0 k m way.2)

  pub no_circle_down : (n : ℕ) → ¬ IsOnCircle Move n
  no_circle_down n circle = omega (arith, leads_down n (suc circle.0) n circle.1)

-- A loop as it is listed.
module _ (Move : ℕ → ℕ → Type 0) (places : List ℕ) where
  leads_along : (first n i : ℕ) → IsLoop Move places → slice_get places 0 ≡ Some first → slice_get places i ≡ Some n → Leads Move first i n
  leads_along first n zero loop starts is = same_Some first n (sym starts ∙ is)
  leads_along first n (suc i) loop starts is =
      let lt = slice_get_within places (suc i) n is in
      let before = slice_get-get_or places i 0 (omega (arith, lt)) in
      let here : slice_get places (i + 1) ≡ Some n = rw add-one is in
      one_more Move first i (get_or places i 0) n (leads_along first (get_or places i 0) i loop starts before) (loop.joined i (get_or places i 0) n before here)

  pub loop_circles : (first : ℕ) → IsLoop Move places → slice_get places 0 ≡ Some first → IsOnCircle Move first
  loop_circles first loop starts =
      let P : ℕ → Type 0 = λ k. Leads Move first k first in
      let same : length places - 1 ≡ suc (length places - 2) = omega (arith, loop.two) in
      (length places - 2, subst P same (leads_along first first (length places - 1) loop starts (loop.closed ∙ starts)))

-- Moves by a table: at most one from each place, and none from beyond it.
pub table_only : (table : List (Option ℕ)) (n p q : ℕ) → MovesBy table n p → MovesBy table n q → p ≡ q
table_only table n p q one other = same_Some p q (sym one ∙ other)

pub table_within : (table : List (Option ℕ)) (n p : ℕ) → MovesBy table n p → n < length table
table_within table n p move = option_and_then_some (λ next. next) (slice_get table n) p move (λ x is same. slice_get_within table n x is)

-- so far, the moves from a place haven't led back to it
abbrev pub NotBackWithin : (ℕ → ℕ → Type 0) → ℕ → ℕ → Type 0
NotBackWithin Move start count = (j : ℕ) → 0 < j → j ≤ count → ¬ Leads Move start j start

pub not_back_more : (table : List (Option ℕ)) (start count at next : ℕ) → NotBackWithin (MovesBy table) start count → Leads (MovesBy table) start count at → MovesBy table at next → (next ≡ start → ⊥) → NotBackWithin (MovesBy table) start (count + 1)
not_back_more table start count at next none way move other j some le back = elim (cases_lt count j) [
  | inl above ↦ (
      let P : ℕ → Type 0 = λ l. Leads (MovesBy table) start l start in
      let same : j ≡ suc count = omega arith in
      other (leads_only (MovesBy table) (table_only table) start (suc count) next start (one_more (MovesBy table) start count at next way move) (subst P same back)))
  | inr below ↦ none j some below back
]

pub never_back : (table : List (Option ℕ)) (start count : ℕ) → NotBackWithin (MovesBy table) start count → length table ≤ count → ¬ IsOnCircle (MovesBy table) start
never_back table start count none long circle =
    let back = short_return (MovesBy table) (length table) (table_within table) start circle in
    none back.0 back.2 (omega (arith, back.1)) back.3

-- where the moves end there is no way back
pub ended_not_back : (table : List (Option ℕ)) (start count at : ℕ) → Leads (MovesBy table) start count at → next_in table at ≡ None → ¬ IsOnCircle (MovesBy table) start
ended_not_back table start count at way none circle =
    circle_never_ends (MovesBy table) (table_only table) start count at circle way (λ p move. none-some p (sym none ∙ move))

-- without a circle each way is short
pub short_way : (table : List (Option ℕ)) (start count at : ℕ) → HasNoCircle (MovesBy table) → Leads (MovesBy table) start count at → count ≤ length table
short_way table start count at none way = elim (cases_lt (length table) count) [
  | inl long ↦ (let circle = circle_in (MovesBy table) (length table) (table_within table) start count at way long in absurd (none circle.0 circle.1))
  | inr short ↦ short
]

-- A walk from a place that hasn't come back to it yet, as it is listed.
pub record IsUnderWay (Move : ℕ → ℕ → Type 0) (first at : ℕ) (places : List ℕ) : Type 0 where
  pub some : 0 < length places
  pub starts : slice_get places 0 ≡ Some first
  pub stands : slice_get places (length places - 1) ≡ Some at
  pub joined : (i n m : ℕ) → slice_get places i ≡ Some n → slice_get places (i + 1) ≡ Some m → Move n m
  pub once : (i : ℕ) → 0 < i → i < length places → slice_get places i ≢ Some first

get-append_left : (xs ys : List ℕ) (i : ℕ) → i < length xs → slice_get (xs ++ ys) i ≡ slice_get xs i
get-append_left xs ys i lt =
    slice_get-get_or (xs ++ ys) i 0 (omega (arith, length-append xs ys)) ∙ (ap Some (get_or_append_left xs ys 0 i lt) ∙ sym (slice_get-get_or xs i 0 lt))

get-push : (xs : List ℕ) (y i : ℕ) → i ≡ length xs → slice_get (xs ++ y ∷ []) i ≡ Some y
get-push xs y i is = slice_get-get_or (xs ++ y ∷ []) i 0 (omega (arith, length_push xs y)) ∙ ap Some (get_or_push xs y 0 i (sym is))

-- one move more
pushed_joined : (Move : ℕ → ℕ → Type 0) (first at next : ℕ) (places : List ℕ) → IsUnderWay Move first at places → Move at next → (i n m : ℕ) → slice_get (places ++ next ∷ []) i ≡ Some n → slice_get (places ++ next ∷ []) (i + 1) ≡ Some m → Move n m
pushed_joined Move first at next places under move i n m here there =
    let lt = slice_get_within (places ++ next ∷ []) (i + 1) m there in
    let long = length_push places next in
    let le : i < length places = omega (arith, lt, long) in
    let was = get-append_left places (next ∷ []) i le in
    elim (cases_lt (i + 1) (length places)) [
      | inl inside ↦ under.joined i n m (sym was ∙ here) (sym (get-append_left places (next ∷ []) (i + 1) inside) ∙ there)
      | inr last ↦ (
          let same : i ≡ length places - 1 = omega arith in
          let is_at : at ≡ n = same_Some at n (sym under.stands ∙ (ap (λ k. slice_get places k) (sym same) ∙ (sym was ∙ here))) in
          let is_next : next ≡ m = same_Some next m (sym (get-push places next (i + 1) (omega arith)) ∙ there) in
          subst (λ y. Move n y) is_next (subst (λ x. Move x next) is_at move))
    ]

pub one_place_more : (Move : ℕ → ℕ → Type 0) (first at next : ℕ) (places : List ℕ) → IsUnderWay Move first at places → Move at next → (next ≡ first → ⊥) → IsUnderWay Move first next (places ++ next ∷ [])
one_place_more Move first at next places under move other =
    let long = length_push places next in
    record {
      some = omega (arith, long);
      starts = get-append_left places (next ∷ []) 0 under.some ∙ under.starts;
      stands = get-push places next (length (places ++ next ∷ []) - 1) (omega (arith, long));
      joined = pushed_joined Move first at next places under move;
      once = λ i some lt is. elim (cases_lt i (length places)) [
        | inl inside ↦ under.once i some inside (sym (get-append_left places (next ∷ []) i inside) ∙ is)
        | inr last ↦ other (same_Some next first (sym (get-push places next i (omega (arith, long, lt))) ∙ is))
      ];
    }

pub back_again : (Move : ℕ → ℕ → Type 0) (first at next : ℕ) (places : List ℕ) → IsUnderWay Move first at places → Move at next → next ≡ first → IsLoopFrom Move first (places ++ next ∷ [])
back_again Move first at next places under move same =
    let long = length_push places next in
    let starts = get-append_left places (next ∷ []) 0 under.some ∙ under.starts in
    record {
      loop = record {
        two = omega (arith, long, under.some);
        closed = get-push places next (length (places ++ next ∷ []) - 1) (omega (arith, long)) ∙ (ap Some same ∙ sym starts);
        joined = pushed_joined Move first at next places under move;
      };
      starts = starts;
      once = λ i some lt is. under.once i some (omega (arith, long, lt)) (sym (get-append_left places (next ∷ []) i (omega (arith, long, lt))) ∙ is);
    }

walked_along : (Move : ℕ → ℕ → Type 0) (first at : ℕ) (places : List ℕ) → IsUnderWay Move first at places → (n i : ℕ) → slice_get places i ≡ Some n → Leads Move first i n
walked_along Move first at places under n zero is = same_Some first n (sym under.starts ∙ is)
walked_along Move first at places under n (suc i) is =
    let lt = slice_get_within places (suc i) n is in
    let before = slice_get-get_or places i 0 (omega (arith, lt)) in
    let here : slice_get places (i + 1) ≡ Some n = rw add-one is in
    one_more Move first i (get_or places i 0) n (walked_along Move first at places under (get_or places i 0) i before) (under.joined i (get_or places i 0) n before here)

pub stands_there : (Move : ℕ → ℕ → Type 0) (first at : ℕ) (places : List ℕ) → IsUnderWay Move first at places → Leads Move first (length places - 1) at
stands_there Move first at places under = walked_along Move first at places under at (length places - 1) under.stands

pub under_way_within : (table : List (Option ℕ)) (first at : ℕ) (places : List ℕ) → IsUnderWay (MovesBy table) first at places → IsOnCircle (MovesBy table) first → length places ≤ length table
under_way_within table first at places under circle = elim (cases_lt (length table) (length places)) [
  | inr short ↦ short
  | inl long ↦ absurd (never_back table first (length places - 1) (λ j some le back.
      let lt : j < length places = omega (arith, under.some) in
      let there = slice_get-get_or places j 0 lt in
      let way = walked_along (MovesBy table) first at places under (get_or places j 0) j there in
      under.once j some lt (there ∙ ap Some (leads_only (MovesBy table) (table_only table) first j (get_or places j 0) first way back))) (omega arith) circle)
]
