-- How far the ends of moves by a table are, as it is noted place by place.
use Rattle.std.{proofs.Common.{◌≡◌, ℕ, zero, suc, ◌+◌, ◌-◌, ◌<◌, ◌≤◌, inl, inr, arith, refl, subst, sym, ◌∙◌, ap, List, length, Some, Option, get_or, slice_set, take, drop, ◌++◌}, proofs.lemmas.Bool.{cases_lt}, proofs.lemmas.List.{take_all, drop_all, append-nil}, proofs.lemmas.Option.{same_Some, slice_get-get_or}}
use Rattle.net_rules.{specs.Moves.{Leads}, specs.Circles.{EndsAfter, MovesBy, HasNoCircle, HasCircle, AreKnown, AreMovesToEnds}, proofs.Circling.{circle_in, shorter, both_ways, ends_once, circle_never_ends, table_only, table_within}}
use Rattle.net_tables.proofs.Elements.{in_set}

-- a way that is longer than the table goes round a circle
pub long_way : (table : List (Option ℕ)) (start count at : ℕ) → Leads (MovesBy table) start count at → length table < count → HasCircle (MovesBy table)
long_way table start count at way long = circle_in (MovesBy table) (length table) (table_within table) start count at way long

-- no end is further away than there are places
pub ends_soon : (table : List (Option ℕ)) (n k : ℕ) → EndsAfter (MovesBy table) n k → k ≤ length table
ends_soon table n k ends = elim (cases_lt (length table) k) [
  | inl long ↦ (
      let cut = shorter (MovesBy table) (length table) (table_within table) n k ends.0 ends.1 long in
      let same : k ≡ cut.0 = ends_once (MovesBy table) (table_only table) n k cut.0 ends (ends.0, cut.3, ends.2) in
      absurd (omega (arith, cut.1, same)))
  | inr short ↦ short
]

-- from a place on the way it is as far as the rest of the way
pub ends_behind : (table : List (Option ℕ)) (start count at rest : ℕ) → Leads (MovesBy table) start count at → EndsAfter (MovesBy table) at rest → EndsAfter (MovesBy table) start (count + rest)
ends_behind table start count at rest way ends = (ends.0, both_ways (MovesBy table) start count at rest ends.0 (count + rest) refl way ends.1, ends.2)

-- one move on, the end is one move nearer
pub ends_nearer : (table : List (Option ℕ)) (n p k : ℕ) → EndsAfter (MovesBy table) n k → MovesBy table n p → (0 < k) × EndsAfter (MovesBy table) p (k - 1)
ends_nearer table n p zero ends move = absurd (ends.2 p (subst (λ x. MovesBy table x p) ends.1 move))
ends_nearer table n p (suc k) ends move = (
  omega arith,
  (
    ends.0,
    let P : ℕ → Type 0 = λ l. Leads (MovesBy table) p l ends.0 in
        let same : k ≡ suc k - 1 = omega arith in
        subst P same (subst (λ x. Leads (MovesBy table) x k ends.0) (table_only table n ends.1.0 p ends.1.1 move) ends.1.2),
    ends.2,
  ),
)

-- one more number is noted
pub knows_more : (Move : ℕ → ℕ → Type 0) (known : List (Option ℕ)) (at left : ℕ) → at < length known → AreKnown Move known → EndsAfter Move at left → AreKnown Move (slice_set known at (Some left))
knows_more Move known at left within old ends n k is = elim (in_set known (Some left) at n (Some k) within is) [
  | inl (_, before) ↦ old n k before
  | inr (here, some) ↦ subst (λ (p : ℕ × ℕ). EndsAfter Move p.0 p.1) (ap (λ (x : ℕ). (x, left)) (sym here) ∙ ap (λ (x : ℕ). (n, x)) (same_Some left k some)) ends
]

-- where each place has its way to an end, none is on a circle
pub ends_circle_none : (table : List (Option ℕ)) (counts : List ℕ) → AreMovesToEnds (MovesBy table) (length table) counts → HasNoCircle (MovesBy table)
ends_circle_none table counts given n circle =
    let within = table_within table n circle.1.0 circle.1.1 in
    let ends = given.1 n (get_or counts n 0) (slice_get-get_or counts n 0 (omega (arith, within, given.0))) in
    circle_never_ends (MovesBy table) (table_only table) n (get_or counts n 0) ends.0 circle ends.1 ends.2

-- a list written over as a whole
pub written_whole : {X : Type 0} (n : ℕ) (new items : List X) → length new ≡ length items → n ≡ length items → take n (new ++ drop (length new) items) ≡ new
written_whole n new items long all =
    let none = drop_all (length new) items (omega (arith, long)) in
    ap (λ rest. take n (new ++ rest)) none ∙ (ap (λ xs. take n xs) (append-nil new) ∙ take_all n new (omega (arith, long, all)))
