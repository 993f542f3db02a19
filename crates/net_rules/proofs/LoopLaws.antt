-- Marks of places, and the first loop by two tables.
use Rattle.std.{proofs.Common.{◌≡◌, ℕ, zero, suc, ◌+◌, ◌-◌, ◌<◌, ◌≤◌, List, [], ◌∷◌, ◌++◌, length, Option, Some, None, Bool, true, false, ◌||◌, refl, sym, ◌∙◌, ap, subst, arith, inl, inr, unwrap_or, add-one, Vec}, specs.Prelude.{slice_get}, proofs.lemmas.Bool.{cases_lt, false≢true, or_cases, or_left}, proofs.Math.Bool.{or-true}, proofs.lemmas.List.{length_push}, proofs.lemmas.Option.{slice_get_past, slice_get_within, same_Some, none-some}}
use Rattle.net_rules.{specs.declared.mixed_loop.Side.{Side}, specs.declared.mixed_loop.Side.TheVariants.{Old, New}, specs.Moves.{Leads}, specs.Circles.{IsOnCircle, IsLeastOnCircle, next_in}, specs.LongestWays.{MovesByEither}, specs.MixedLoops.{EitherOf, MovesOn, IsMixedLoop, is_marked, leads_to_mark, AreMarked, AreWaysBack, IsFirstReturn}, proofs.Circling.{one_more, both_ways, short_return}, proofs.WayLaws.{either_within}}
use Rattle.net_tables.proofs.Elements.{element, in_push, push_left, push_last}

-- ---- marks by a test

abbrev pub AreTested : (ℕ → Bool) → ℕ → List Bool → Type 0
AreTested test count marks = (length marks ≡ count) × ((n : ℕ) (b : Bool) → slice_get marks n ≡ Some b → b ≡ test n)

pub tested_pushed : (test : ℕ → Bool) (index : ℕ) (b : Bool) (marks : List Bool) → AreTested test index marks → b ≡ test index → AreTested test (index + 1) (marks ++ b ∷ [])
tested_pushed test index b marks are is = (
  omega (arith, length_push marks b, are.0),
  λ n d at. elim (in_push marks b n d at) [
    | inl before ↦ are.1 n d before
    | inr (here, same) ↦ (let place : index ≡ n = omega (arith, here, are.0) in sym same ∙ (is ∙ ap test place))
  ],
)

mark_is : (marks : List Bool) (n : ℕ) (b : Bool) → slice_get marks n ≡ Some b → is_marked marks n ≡ b
mark_is marks n b is = ap (λ (o : Option Bool). unwrap_or o false) is

mark_within : (marks : List Bool) (n : ℕ) → is_marked marks n ≡ true → n < length marks
mark_within marks n mark = elim (cases_lt n (length marks)) [
  | inl lt ↦ lt
  | inr past ↦ absurd (false≢true (sym (ap (λ (o : Option Bool). unwrap_or o false) (slice_get_past marks n past)) ∙ mark))
]

tested_mark : (test : ℕ → Bool) (count : ℕ) (marks : List Bool) → AreTested test count marks → (n : ℕ) → n < count → is_marked marks n ≡ test n
tested_mark test count marks are n lt =
    let x = element marks n (omega (arith, lt, are.0)) in
    mark_is marks n x.0 x.1 ∙ are.1 n x.0 x.1

tested_within : (test : ℕ → Bool) (count : ℕ) (marks : List Bool) → AreTested test count marks → (n : ℕ) → is_marked marks n ≡ true → n < count
tested_within test count marks are n mark = omega (arith, mark_within marks n mark, are.0)

-- ---- one move back

to_mark : (marks : List Bool) (next : Option ℕ) → leads_to_mark marks next ≡ true → (m : ℕ) × (next ≡ Some m) × (is_marked marks m ≡ true)
to_mark marks None mark = absurd (false≢true mark)
to_mark marks (Some m) mark = (m, refl, mark)

from_mark : (marks : List Bool) (next : Option ℕ) (m : ℕ) → next ≡ Some m → is_marked marks m ≡ true → leads_to_mark marks next ≡ true
from_mark marks next m is mark = rw is mark

-- a move leads from n to a mark
abbrev pub IsOneBack : (ℕ → ℕ → Type 0) → List Bool → ℕ → Type 0
IsOneBack Move marks n = (m : ℕ) × Move n m × (is_marked marks m ≡ true)

pub back_is_marked : (old new : List (Option ℕ)) (marks back : List Bool) → length new ≡ length old → AreTested (λ n. leads_to_mark marks (next_in old n) || leads_to_mark marks (next_in new n)) (length old) back
    → AreMarked (IsOneBack (MovesByEither old new) marks) back
back_is_marked old new marks back same are n = (
  λ mark. found (sym (tested_mark test (length old) back are n (tested_within test (length old) back are n mark)) ∙ mark),
  λ (m, move, mark). tested_mark test (length old) back are n (either_within old new same n m move) ∙ leads m move mark,
)
  where
    test : ℕ → Bool
    test i = leads_to_mark marks (next_in old i) || leads_to_mark marks (next_in new i)

    found : test n ≡ true → IsOneBack (MovesByEither old new) marks n
    found is = elim (or_cases (leads_to_mark marks (next_in old n)) (leads_to_mark marks (next_in new n)) is) [
      | inl by_old ↦ (let at = to_mark marks (next_in old n) by_old in (at.0, inl at.1, at.2))
      | inr by_new ↦ (let at = to_mark marks (next_in new n) by_new in (at.0, inr at.1, at.2))
    ]

    leads : (m : ℕ) → MovesByEither old new n m → is_marked marks m ≡ true → test n ≡ true
    leads m (inl move) mark = or_left (leads_to_mark marks (next_in old n)) (leads_to_mark marks (next_in new n)) (from_mark marks (next_in old n) m move mark)
    leads m (inr move) mark = ap (λ b. leads_to_mark marks (next_in old n) || b) (from_mark marks (next_in new n) m move mark) ∙ or-true (leads_to_mark marks (next_in old n))

-- ---- ways back to the first index

pub ways_pushed : {Z : Type 0} (Move : ℕ → ℕ → Type 0) (first : ℕ) (layers : List (Vec Bool Z)) (marks : Vec Bool Z) → AreWaysBack Move first layers → AreMarked (λ n. Leads Move n (length layers) first) marks.items
    → AreWaysBack Move first (layers ++ marks ∷ [])
ways_pushed Move first layers marks are last k other is = elim (in_push layers marks k other is) [
  | inl before ↦ are k other before
  | inr (here, same) ↦ subst (λ v. AreMarked (λ n. Leads Move n k first) v.items) same (subst (λ l. AreMarked (λ n. Leads Move n l first) marks.items) (sym here) last)
]

pub first_ways : {Z : Type 0} (Move : ℕ → ℕ → Type 0) (first : ℕ) (marks : Vec Bool Z) → AreMarked (λ n. n ≡ first) marks.items → AreWaysBack Move first (marks ∷ [])
first_ways Move first marks are zero other is = subst (λ v. AreMarked (λ n. n ≡ first) v.items) (same_Some marks other is) are
first_ways Move first marks are (suc k) other is = absurd (none-some other is)

pub ways_next : {Z : Type 0} (Move : ℕ → ℕ → Type 0) (first : ℕ) (layers : List (Vec Bool Z)) (k : ℕ) (marks : Vec Bool Z) (back : List Bool) → AreWaysBack Move first layers → slice_get layers k ≡ Some marks
    → AreMarked (IsOneBack Move marks.items) back → AreMarked (λ n. Leads Move n (k + 1) first) back
ways_next Move first layers k marks back are is one n = (
  λ mark. (let at = (one n).0 mark in rw add-one (at.0, at.1, (are k marks is at.0).0 at.2)),
  λ way. (one n).1 (let suc_way : Leads Move n (suc k) first = rw add-one at way in (suc_way.0, suc_way.1, (are k marks is suc_way.0).1 suc_way.2)),
)

pub returned : {Z : Type 0} (Move : ℕ → ℕ → Type 0) (first moves : ℕ) (layers : List (Vec Bool Z)) (marks : Vec Bool Z) → length layers ≡ moves + 1 → AreWaysBack Move first layers
    → ((k : ℕ) → 0 < k → k ≤ moves → ¬ Leads Move first k first) → AreMarked (λ n. Leads Move n (moves + 1) first) marks.items → is_marked marks.items first ≡ true
    → IsFirstReturn Move first (layers ++ marks ∷ [])
returned Move first moves layers marks long are none next mark =
    let many = length_push layers marks in
    let last : AreMarked (λ n. Leads Move n (length layers) first) marks.items = subst (λ l. AreMarked (λ n. Leads Move n l first) marks.items) (sym long) next in
    record {
      some = omega (arith, many, long);
      ways = ways_pushed Move first layers marks are last;
      back = (let same : moves + 1 ≡ length (layers ++ marks ∷ []) - 1 = omega (arith, many, long) in subst (λ l. Leads Move first l first) same ((next first).0 mark));
      none = λ k some less. none k some (omega (arith, many, long, less));
    }

pub not_back_yet : (Move : ℕ → ℕ → Type 0) (first moves : ℕ) (back : List Bool) → ((k : ℕ) → 0 < k → k ≤ moves → ¬ Leads Move first k first) → AreMarked (λ n. Leads Move n (moves + 1) first) back → is_marked back first ≡ false
    → (k : ℕ) → 0 < k → k ≤ moves + 1 → ¬ Leads Move first k first
not_back_yet Move first moves back none next unmarked k some le way = elim (cases_lt moves k) [
  | inr before ↦ none k some before way
  | inl now ↦ (
      let same : k ≡ moves + 1 = omega (arith, now, le) in
      false≢true (sym unmarked ∙ (next first).1 (subst (λ l. Leads Move first l first) same way)))
]

pub never_back_either : (old new : List (Option ℕ)) → length new ≡ length old → (first : ℕ) → ((k : ℕ) → 0 < k → k ≤ length old → ¬ Leads (MovesByEither old new) first k first) → ¬ IsOnCircle (MovesByEither old new) first
never_back_either old new same first none circle =
    let back = short_return (MovesByEither old new) (length old) (either_within old new same) first circle in
    none back.0 back.2 back.1 back.3

pub on_circle : {Z : Type 0} (Move : ℕ → ℕ → Type 0) (first : ℕ) (layers : List (Vec Bool Z)) → IsFirstReturn Move first layers → IsOnCircle Move first
on_circle Move first layers returns =
    let same : length layers - 1 ≡ suc (length layers - 2) = omega (arith, returns.some) in
    (length layers - 2, subst (λ l. Leads Move first l first) same returns.back)

-- ---- along the ways back

-- The loop as far as it is listed: from each of its indices the moves that are left lead back.
pub record IsOnTheWay (ByOld ByNew : ℕ → ℕ → Type 0) (first total at left : ℕ) (nodes : List ℕ) (sides : List Side) : Type 0 where
  pub all : length sides + left ≡ total
  pub long : length nodes ≡ length sides + 1
  pub starts : slice_get nodes 0 ≡ Some first
  pub stands : slice_get nodes (length sides) ≡ Some at
  pub backs : (i n : ℕ) → slice_get nodes i ≡ Some n → Leads (EitherOf ByOld ByNew) n (total - i) first
  pub joined : (i n m : ℕ) (side : Side) → slice_get nodes i ≡ Some n → slice_get nodes (i + 1) ≡ Some m → slice_get sides i ≡ Some side → MovesOn side ByOld ByNew n m
  pub old_first : (i n m : ℕ) → slice_get nodes i ≡ Some n → slice_get sides i ≡ Some New → ByOld n m → ¬ Leads (EitherOf ByOld ByNew) m (total - (i + 1)) first

module _ (ByOld ByNew : ℕ → ℕ → Type 0) (first total : ℕ) where
  pub left_over : (at left : ℕ) (nodes : List ℕ) (sides : List Side) → IsOnTheWay ByOld ByNew first total at left nodes sides → Leads (EitherOf ByOld ByNew) at left first
  left_over at left nodes sides on =
      let same : total - length sides ≡ left = omega (arith, on.all) in
      subst (λ l. Leads (EitherOf ByOld ByNew) at l first) same (on.backs (length sides) at on.stands)

  module _ (at left next : ℕ) (side : Side) (nodes : List ℕ) (sides : List Side) (on : IsOnTheWay ByOld ByNew first total at (left + 1) nodes sides)
      (by : MovesOn side ByOld ByNew at next) (back : Leads (EitherOf ByOld ByNew) next left first) (choice : side ≡ New → (m : ℕ) → ByOld at m → ¬ Leads (EitherOf ByOld ByNew) m left first) where
    joined_more : (i n m : ℕ) (s : Side) → slice_get (nodes ++ next ∷ []) i ≡ Some n → slice_get (nodes ++ next ∷ []) (i + 1) ≡ Some m → slice_get (sides ++ side ∷ []) i ≡ Some s → MovesOn s ByOld ByNew n m
    joined_more i n m s here there is = elim (in_push sides side i s is) [
      | inl before ↦ (
          let lt = slice_get_within sides i s before in
          on.joined i n m s (listed i n (omega (arith, lt, on.long)) here) (listed (i + 1) m (omega (arith, lt, on.long)) there) before)
      | inr (last, same) ↦ (
          let was = listed i n (omega (arith, last, on.long)) here in
          let is_at : at ≡ n = same_Some at n (sym on.stands ∙ (ap (λ k. slice_get nodes k) (sym last) ∙ was)) in
          let place : i + 1 ≡ length nodes = omega (arith, last, on.long) in
          let is_next : next ≡ m = same_Some next m (sym (push_last nodes next) ∙ (ap (λ k. slice_get (nodes ++ next ∷ []) k) (sym place) ∙ there)) in
          subst (λ t. MovesOn t ByOld ByNew n m) same (subst (λ y. MovesOn side ByOld ByNew n y) is_next (subst (λ x. MovesOn side ByOld ByNew x next) is_at by)))
    ]
      where
        listed : (j x : ℕ) → j < length nodes → slice_get (nodes ++ next ∷ []) j ≡ Some x → slice_get nodes j ≡ Some x
        listed j x lt is = elim (in_push nodes next j x is) [ inl before ↦ before | inr (past, _) ↦ absurd (omega (arith, past, lt)) ]

    backs_more : (i n : ℕ) → slice_get (nodes ++ next ∷ []) i ≡ Some n → Leads (EitherOf ByOld ByNew) n (total - i) first
    backs_more i n is = elim (in_push nodes next i n is) [
      | inl before ↦ on.backs i n before
      | inr (last, same) ↦ (
          let few : left ≡ total - i = omega (arith, last, on.long, on.all) in
          subst (λ l. Leads (EitherOf ByOld ByNew) n l first) few (subst (λ x. Leads (EitherOf ByOld ByNew) x left first) same back))
    ]

    old_first_more : (i n m : ℕ) → slice_get (nodes ++ next ∷ []) i ≡ Some n → slice_get (sides ++ side ∷ []) i ≡ Some New → ByOld n m → ¬ Leads (EitherOf ByOld ByNew) m (total - (i + 1)) first
    old_first_more i n m here is by_old way = elim (in_push sides side i New is) [
      | inl before ↦ (
          let lt = slice_get_within sides i New before in
          elim (in_push nodes next i n here) [
            | inl was ↦ on.old_first i n m was before by_old way
            | inr (past, _) ↦ omega (arith, past, lt, on.long)
          ])
      | inr (last, same) ↦ elim (in_push nodes next i n here) [
        | inr (past, _) ↦ omega (arith, past, last, on.long)
        | inl was ↦ (
            let is_at : n ≡ at = same_Some n at (sym was ∙ (ap (λ k. slice_get nodes k) last ∙ on.stands)) in
            let few : total - (i + 1) ≡ left = omega (arith, last, on.all) in
            choice same m (subst (λ x. ByOld x m) is_at by_old) (subst (λ l. Leads (EitherOf ByOld ByNew) m l first) few way))
      ]
    ]

    pub one_hop_more : IsOnTheWay ByOld ByNew first total next left (nodes ++ next ∷ []) (sides ++ side ∷ [])
    one_hop_more =
        let many = length_push nodes next in
        let hops = length_push sides side in
        record {
          all = omega (arith, hops, on.all);
          long = omega (arith, many, hops, on.long);
          starts = push_left nodes next 0 first on.starts;
          stands = (let place : length nodes ≡ length (sides ++ side ∷ []) = omega (arith, hops, on.long) in ap (λ k. slice_get (nodes ++ next ∷ []) k) (sym place) ∙ push_last nodes next);
          backs = backs_more;
          joined = joined_more;
          old_first = old_first_more;
        }

  -- once nothing is left
  module _ (at : ℕ) (nodes : List ℕ) (sides : List Side) (on : IsOnTheWay ByOld ByNew first total at 0 nodes sides) (some : 0 < total) (none : (k : ℕ) → 0 < k → k < total → ¬ Leads (EitherOf ByOld ByNew) first k first) where
    side_joins : (side : Side) (n m : ℕ) → MovesOn side ByOld ByNew n m → EitherOf ByOld ByNew n m
    side_joins Old n m move = inl move
    side_joins New n m move = inr move

    along : (n i : ℕ) → slice_get nodes i ≡ Some n → Leads (EitherOf ByOld ByNew) first i n
    along n zero is = same_Some first n (sym on.starts ∙ is)
    along n (suc i) is =
        let lt = slice_get_within nodes (suc i) n is in
        let before = element nodes i (omega (arith, lt)) in
        let side = element sides i (omega (arith, lt, on.long)) in
        let here : slice_get nodes (i + 1) ≡ Some n = rw add-one is in
        one_more (EitherOf ByOld ByNew) first i before.0 n (along before.0 i before.1) (side_joins side.0 before.0 n (on.joined i before.0 n side.0 before.1 here side.1))

    pub closes : IsLeastOnCircle (EitherOf ByOld ByNew) first → IsMixedLoop ByOld ByNew nodes sides
    closes least =
        let all : length sides ≡ total = omega (arith, on.all) in
        let home : at ≡ first = left_over at 0 nodes sides on in
        record {
          first = first;
          least = least;
          some = omega (arith, all, some);
          long = on.long;
          starts = on.starts;
          closed = on.stands ∙ ap Some home;
          joined = on.joined;
          once = λ i j n less lt here there.
              (let way = both_ways (EitherOf ByOld ByNew) first i n (total - j) first (i + (total - j)) refl (along n i here) (on.backs j n there) in
              none (i + (total - j)) (omega (arith, lt, all)) (omega (arith, less, lt, all)) way);
          shortest = λ k way. elim (cases_lt (suc k) total) [ inl less ↦ absurd (none (suc k) (omega arith) less way) | inr le ↦ omega (arith, le, all) ];
          old_first = λ i n m here side move way.
              (let few : length sides - (i + 1) ≡ total - (i + 1) = omega (arith, all) in
              on.old_first i n m here side move (subst (λ l. Leads (EitherOf ByOld ByNew) m l first) few way));
        }
