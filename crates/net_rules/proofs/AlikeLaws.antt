-- Stretches of EIDs that the nodes send on alike.
use Rattle.std.{proofs.Common.{◌≡◌, ℕ, ◌<◌, ◌≤◌, List, [], ◌∷◌, length, Option, Some, None, refl, sym, ◌∙◌, subst, arith, inl, inr, min, ◌+◌, ◌⊎◌}, specs.Prelude.{Any, MatchOption, slice_get}, proofs.lemmas.Bool.{cases_lt}, proofs.Math.Nat.{min-eq_left, min-eq_right}}
use Rattle.mctp_routing.{specs.declared.row.Hop.{Hop}, specs.declared.pieces.Piece.{Piece}, proofs.PieceLoops.{at_place, looked_before, inside_interval}}
use Rattle.plan_values.specs.declared.plan.Plan.{Plan}
use Rattle.net_tables.{specs.Routing.{rows_of, NamesFor}, specs.Rows.{RowsAreApart}, specs.Tables.{IsHopOf, SendsAs}, proofs.TableLaws.{same_next}}
use Rattle.net_rules.{specs.MovingAlike.{MovesAlike, MoveAlike, HoldsAlike, HaveOneHop, HoldsBeside, HaveEdge, IsCutAt, IsCut}, proofs.EidMoves.{moves_within}}
use Rattle.mctp_routing.specs.declared.row.TableRow as bridge
use Rattle.mctp_routing.specs.Rows as rule
use Rattle.mctp_routing.specs.Pieces as cut

-- ---- the first piece

module _ (rows : List bridge.TableRow) (first last : ℕ) (piece : Piece) (later : List cut.PieceValue) (are : cut.ArePieces rows first last (cut.piece_value piece ∷ later)) where
  pub piece_inside : (first ≤ piece.first.value) × (piece.first.value ≤ piece.last.value) × (piece.last.value ≤ last)
  piece_inside = inside_interval rows first last (cut.piece_value piece ∷ later) 0 (cut.piece_value piece) are (omega arith) refl

  pub piece_begins : first ≤ last → piece.first.value ≡ first
  piece_begins ordered =
      let inside = piece_inside in
      elim (cases_lt first piece.first.value) [
        | inr le ↦ omega (arith, inside.0, le)
        | inl before ↦ (
            let none = looked_before rows first last (cut.piece_value piece ∷ later) are [] refl piece first (omega arith) refl (omega arith) before in
            absurd (omega (arith, none.2)))
      ]

  pub piece_hop : first ≤ last → HaveOneHop rows first piece.last.value
  piece_hop ordered =
      let routed = at_place (λ p. (e : ℕ) → cut.LiesIn e p → rule.IsNext rows e p.hop) (cut.piece_value piece ∷ later) 0 (cut.piece_value piece) are.routed (omega arith) refl in
      (piece.hop, λ e low high. routed e (omega (arith, low, piece_begins ordered), high))

  -- it ends with the interval, or at an edge
  ends_whole : last ≤ 255 → (hop : Option Hop) → MatchOption hop (cut.IsGap rows first last (cut.piece_value piece)) (λ h. Any (λ row. (row.hop ≡ h) × cut.IsPartOf first last (cut.piece_value piece) row) rows)
      → (piece.last.value ≡ last) ⊎ HaveEdge rows piece.last.value
  ends_whole small None gap = elim gap.above [
    | inl is ↦ inl is
    | inr (k, row, lt, at, covers) ↦ inr (
      k,
      row,
      lt,
      at,
      elim (cases_lt row.first.value (piece.last.value + 1)) [
        | inr from ↦ inr (omega (arith, from, covers.0))
        | inl before ↦
            absurd (gap.bare piece.last.value (piece_inside.1, omega arith) (k, row, lt, at, (omega (arith, before), omega (arith, covers.1), omega (arith, piece_inside.2, small))))
      ],
    )
  ]
  ends_whole small (Some h) (k, row, lt, at, (goes, part)) = elim (cases_lt piece.last.value last) [
    | inr from ↦ inl (omega (arith, from, piece_inside.2))
    | inl less ↦ (
        let covers = ((part piece.last.value).0 (piece_inside.1, omega arith)).2 in
        inr (
          k,
          row,
          lt,
          at,
          elim (cases_lt (piece.last.value + 1) (row.first.value + row.size)) [
            | inr past ↦ inl (omega (arith, past, covers.1))
            | inl more ↦ (
                let lies = (part (piece.last.value + 1)).1 (omega (arith, piece_inside.0, piece_inside.1), omega (arith, less), (omega (arith, covers.0), more, omega (arith, less, small))) in
                absurd (omega (arith, lies.1)))
          ],
        ))
  ]

  pub piece_ends : last ≤ 255 → (piece.last.value ≡ last) ⊎ HaveEdge rows piece.last.value
  piece_ends small = ends_whole small piece.hop (at_place (cut.IsWhole rows first last) (cut.piece_value piece ∷ later) 0 (cut.piece_value piece) are.whole (omega arith) refl)

-- an interval has a piece
pub some_piece : (rows : List bridge.TableRow) (first last : ℕ) → first ≤ last → ¬ cut.ArePieces rows first last []
some_piece rows first last ordered are = let found = (are.covering first).1 (omega arith, ordered) in omega (arith, found.2)

-- ---- a node's moves

same_names : (plan : Plan) (n d e m : ℕ) (hop : Option Hop) → RowsAreApart plan → IsHopOf (rows_of plan n) d hop → IsHopOf (rows_of plan n) e hop → NamesFor (rows_of plan n) d m → NamesFor (rows_of plan n) e m
same_names plan n d e m None apart one other names = absurd (one m names)
same_names plan n d e m (Some hop) apart one other names =
    let same : hop.next ≡ m = sym one.4 ∙ (same_next plan n d apart one.0 names.0 one.1 names.1 one.2 names.2 one.3 names.3 ∙ names.4) in
    subst (NamesFor (rows_of plan n) e) same other

pub alike : (plan : Plan) (n first last : ℕ) (table : List bridge.TableRow) → RowsAreApart plan → first ≤ last → SendsAs (rows_of plan n) table → HoldsAlike plan first last n → HaveOneHop table first last
    → MovesAlike plan first last n
alike plan n first last table apart ordered sends holds (hop, routed) e low high m =
    let one : IsHopOf (rows_of plan n) first hop = sends first hop (routed first (omega arith) ordered) in
    let other : IsHopOf (rows_of plan n) e hop = sends e hop (routed e low high) in
    let held = holds e low high in (
      λ move. (λ here. move.0 (held.1 here), same_names plan n first e m hop apart one other move.1),
      λ move. (λ here. move.0 (held.0 here), same_names plan n e first m hop apart other one move.1),
    )

-- from no other node does anything move
pub all_alike : (plan : Plan) (first last : ℕ) → ((n : ℕ) → n < length plan.nodes.items → MovesAlike plan first last n) → MoveAlike plan first last
all_alike plan first last each n e low high m = (
  λ move. (each n (moves_within plan first n m move) e low high m).0 move,
  λ move. (each n (moves_within plan e n m move) e low high m).1 move,
)

-- ---- where a stretch ends

-- what holds of two numbers holds of the lesser
pub of_lesser : (P : ℕ → Type 0) (a b least : ℕ) → least ≡ min a b → P a → P b → P least
of_lesser P a b least is one other = elim (cases_lt a b) [
  | inl before ↦ subst P (sym (is ∙ min-eq_left (omega (arith, before)))) one
  | inr from ↦ subst P (sym (is ∙ min-eq_right from)) other
]

-- with the node's own EID or with one of its rows
pub cut_by_held : (plan : Plan) (n e : ℕ) (rows : List bridge.TableRow) → (e ≡ 254) ⊎ HoldsBeside plan n e → (e ≡ 254) ⊎ IsCutAt plan n rows e
cut_by_held plan n e rows (inl is) = inl is
cut_by_held plan n e rows (inr held) = inr (inl held)

pub cut_by_row : (plan : Plan) (n e : ℕ) (rows : List bridge.TableRow) → (e ≡ 254) ⊎ HaveEdge rows e → (e ≡ 254) ⊎ IsCutAt plan n rows e
cut_by_row plan n e rows (inl is) = inl is
cut_by_row plan n e rows (inr edge) = inr (inr edge)

-- at one node, so at some
pub cut_by_node : (plan : Plan) (tables : List (List bridge.TableRow)) (n e : ℕ) (rows : List bridge.TableRow) → slice_get tables n ≡ Some rows → (e ≡ 254) ⊎ IsCutAt plan n rows e → (e ≡ 254) ⊎ IsCut plan tables e
cut_by_node plan tables n e rows is (inl last) = inl last
cut_by_node plan tables n e rows is (inr at) = inr (n, rows, is, at)
