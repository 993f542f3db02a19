-- The pieces ahead follow one another from an EID to an end.
use Rattle.std.{proofs.Common.{◌≡◌, ℕ, zero, suc, ◌+◌, ◌<◌, ◌≤◌, List, [], ◌∷◌, ◌++◌, length, refl, arith, inl, inr, ◌⊎◌}, specs.Prelude.{Option, Some, None, All, Any, AllPairs}, specs.List.{AllAdjacentBelow}, proofs.lemmas.Bool.{cases_lt}, proofs.lemmas.List.Elements.{All-nil, All-cons, All-weaker}, proofs.lemmas.List.Kept.{AllPairs-cons}}
use native.Mathlib.Numerals.{unary_clauses}
use Rattle.mctp_routing.{specs.declared.row.TableRow.{TableRow}, specs.declared.row.Hop.{Hop}, specs.Pieces.{PieceValue, LiesIn}, specs.PiecesLeft.{run, clipped, pieces_from}, proofs.PieceSteps.{run_some, run_none, row_parts, no_rows}}

-- what holds of some element of a list holds of its first or of some later one
pub any_cases : {X : Type 0} (P : X → Type 0) (x : X) (xs : List X) → Any P (x ∷ xs) → P x ⊎ Any P xs
any_cases P x xs (zero, y, lt, is, holds) = inl (rw is holds)
any_cases P x xs (suc k, y, lt, is, holds) = inr (k, y, omega arith, is, holds)

pub any_here : {X : Type 0} (P : X → Type 0) (x : X) (xs : List X) → P x → Any P (x ∷ xs)
any_here P x xs holds = (0, x, omega arith, refl, holds)

pub any_later : {X : Type 0} (P : X → Type 0) (x : X) (xs : List X) → Any P xs → Any P (x ∷ xs)
any_later P x xs (k, y, lt, is, holds) = (suc k, y, omega arith, is, holds)

pub any_none : {X : Type 0} (P : X → Type 0) → ¬ Any P []
any_none P (k, y, lt, is, holds) = absurd (omega arith)

-- the pieces have EIDs, each begins one after the one before, the first at an EID, and the last ends before the end
pub IsChain : (from end : ℕ) → List PieceValue → Type 0
IsChain from end [] = from ≡ end
IsChain from end (piece ∷ later) = (piece.first ≡ from) × (piece.first ≤ piece.last) × IsChain (piece.last + 1) end later

chain_run : (from stop : ℕ) (hop : Option Hop) → from ≤ stop → IsChain from stop (run from stop hop)
unfolding IsChain
chain_run from stop hop le =
    elim (cases_lt from stop) [
      | inl lt ↦ rw (run_some from stop hop lt) (refl, omega arith, omega arith)
      | inr past ↦ rw (run_none from stop hop past) (omega arith)
    ]

chain_append : (from stop end : ℕ) (xs ys : List PieceValue) → IsChain from stop xs → IsChain stop end ys → IsChain from end (xs ++ ys)
unfolding IsChain
chain_append from stop end [] ys is chain = rw is chain
chain_append from stop end (x ∷ xs) ys first second = (first.0, first.1, chain_append (x.last + 1) stop end xs ys first.2 second)

pub chain_ahead : (rows : List TableRow) (from end : ℕ) → from ≤ end → IsChain from end (pieces_from rows from end)
chain_ahead [] from end le = rw (no_rows from end) (chain_run from end None le)
chain_ahead (row ∷ rows) from end le =
    let begin = clipped from end row.first.value in
    let stop = clipped from end (row.first.value + row.size) in
    rw (row_parts row rows from end begin stop refl refl)
    (chain_append from begin end (run from begin None) _ (chain_run from begin None (omega arith))
    (chain_append begin stop end (run begin stop (Some row.hop)) _ (chain_run begin stop (Some row.hop) (omega arith))
    (chain_ahead rows stop end (omega arith))))

chain_up : (pieces : List PieceValue) (from end : ℕ) → IsChain from end pieces → from ≤ end
unfolding IsChain
chain_up [] from end chain = omega arith
chain_up (piece ∷ later) from end chain = let rest = chain_up later (piece.last + 1) end chain.2 in omega arith

chain_low : (pieces : List PieceValue) (from end : ℕ) → IsChain from end pieces → All (λ piece. from ≤ piece.first) pieces
unfolding IsChain
chain_low [] from end chain = All-nil _
chain_low (piece ∷ later) from end chain =
    All-cons (λ piece. from ≤ piece.first) piece later (omega arith)
    (All-weaker (λ other. piece.last + 1 ≤ other.first) (λ other. from ≤ other.first) (λ other low. omega arith) later (chain_low later (piece.last + 1) end chain.2))

pub chain_filled : (pieces : List PieceValue) (from end : ℕ) → IsChain from end pieces → All (λ piece. piece.first ≤ piece.last) pieces
unfolding IsChain
chain_filled [] from end chain = All-nil _
chain_filled (piece ∷ later) from end chain =
    All-cons (λ piece. piece.first ≤ piece.last) piece later chain.1 (chain_filled later (piece.last + 1) end chain.2)

pub chain_ascends : (pieces : List PieceValue) (from end : ℕ) → IsChain from end pieces → AllPairs (λ piece later. piece.last < later.first) pieces
unfolding IsChain
chain_ascends [] from end chain = λ i j d lt lj. absurd (omega arith)
chain_ascends (piece ∷ later) from end chain =
    AllPairs-cons (λ piece later. piece.last < later.first) piece later
    (All-weaker (λ other. piece.last + 1 ≤ other.first) (λ other. piece.last < other.first) (λ other low. omega arith) later (chain_low later (piece.last + 1) end chain.2))
    (chain_ascends later (piece.last + 1) end chain.2)

pub chain_joined : (pieces : List PieceValue) (from end : ℕ) → IsChain from end pieces → AllAdjacentBelow (λ piece later. later.first ≡ piece.last + 1) pieces (length pieces)
unfolding IsChain
chain_joined [] from end chain k d lt = absurd (omega arith)
chain_joined (piece ∷ []) from end chain k d lt = absurd (omega arith)
chain_joined (piece ∷ next ∷ later) from end chain zero d lt = chain.2.0
chain_joined (piece ∷ next ∷ later) from end chain (suc k) d lt =
    simp unary_clauses (simp unary_clauses at (chain_joined (next ∷ later) (piece.last + 1) end chain.2 k d (omega arith)))

-- an EID of the pieces lies between the two
pub chain_within : (pieces : List PieceValue) (from end e : ℕ) → IsChain from end pieces → Any (LiesIn e) pieces → (from ≤ e) × (e < end)
unfolding IsChain
chain_within [] from end e chain some = absurd (any_none (LiesIn e) some)
chain_within (piece ∷ later) from end e chain some =
    let up = chain_up later (piece.last + 1) end chain.2 in
    elim (any_cases (LiesIn e) piece later some) [
      | inl here ↦ (omega arith, omega arith)
      | inr there ↦ (let rest = chain_within later (piece.last + 1) end e chain.2 there in (omega arith, rest.1))
    ]

-- an EID between the two lies in a piece
pub chain_covers : (pieces : List PieceValue) (from end e : ℕ) → IsChain from end pieces → from ≤ e → e < end → Any (LiesIn e) pieces
unfolding IsChain
chain_covers [] from end e chain low high = absurd (omega arith)
chain_covers (piece ∷ later) from end e chain low high =
    elim (cases_lt piece.last e) [
      | inl past ↦ any_later (LiesIn e) piece later (chain_covers later (piece.last + 1) end e chain.2 (omega arith) high)
      | inr within ↦ any_here (LiesIn e) piece later (omega arith, within)
    ]
