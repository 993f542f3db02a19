-- Endpoint IDs that rows cover, as spans.
use Rattle.std.specs.Prelude.{◌≡◌, ◌⊎◌, ◌↔◌, ℕ, ◌<◌, ◌≤◌, List, Option, Some, None, slice_get, IsTrue}
use Rattle.plan_values.specs.declared.nodes.Row.{Row}
use Rattle.net_tables.{specs.Routing.{Covers, OfItem}, specs.Rows.{AreApart}}
use Rattle.net_rules.{specs.declared.span.Span.{Span}, specs.declared.spans.Joined.{Joined}, specs.Following.{Follow}}

-- one of the rows covers e
abbrev pub IsCovered : List Row → ℕ → Type 0
IsCovered rows e = (r : ℕ) × (row : Row) × (slice_get rows r ≡ Some row) × Covers row e

-- e lies in the span
abbrev pub IsInSpan : Span → ℕ → Type 0
IsInSpan span e = (span.first ≤ e) × (e < span.end)

-- e lies in one of the spans
abbrev pub IsInSpans : List Span → ℕ → Type 0
IsInSpans spans e = (k : ℕ) × (span : Span) × (slice_get spans k ≡ Some span) × IsInSpan span e

-- each span ends before any later one begins
abbrev pub SpansFollow : List Span → Type 0
SpansFollow spans = Follow (λ span. span.first) (λ span. span.end) spans

-- no two rows share an EID
abbrev pub PairsApart : List Row → Type 0
PairsApart rows = (i j : ℕ) (one other : Row) → i < j → slice_get rows i ≡ Some one
    → slice_get rows j ≡ Some other → AreApart one other

-- a row begins before an earlier one
abbrev pub HasTurn : List Row → Type 0
HasTurn rows = (i j : ℕ) × (one other : Row) × (i < j) × (slice_get rows i ≡ Some one) × (slice_get rows j ≡ Some other)
    × (other.first.value < one.first.value)

-- The spans are what the rows cover, and where it is said that the rows lie apart, they do.
pub record IsJoined (rows : List Row) (joined : Joined) : Type 0 where
  pub follow : SpansFollow joined.spans.items
  pub cover : (e : ℕ) → IsInSpans joined.spans.items e ↔ IsCovered rows e
  pub apart : IsTrue joined.apart → PairsApart rows

-- and there are none only of rows that don't ascend
abbrev pub AreJoined : List Row → Option Joined → Type 0
AreJoined rows None = HasTurn rows
AreJoined rows (Some joined) = IsJoined rows joined

-- The spans are those before, with one more.
pub record IsKept (before : List Span) (last : Span) (after : List Span) : Type 0 where
  pub follow : SpansFollow after
  pub below : (k : ℕ) → OfItem after k (λ span. span.end ≤ last.end)
  pub more : (e : ℕ) → IsInSpans after e ↔ (IsInSpans before e ⊎ IsInSpan last e)

-- The spans and the last one are those before, with one more: it is the last one, or the last one was lengthened.
pub record IsAdded (before : List Span) (last next : Span) (after : List Span) (new : Span) : Type 0 where
  pub follow : SpansFollow after
  pub below : (k : ℕ) → OfItem after k (λ span. span.end ≤ new.first)
  pub more : (e : ℕ) → (IsInSpans after e ⊎ IsInSpan new e) ↔ ((IsInSpans before e ⊎ IsInSpan last e) ⊎ IsInSpan next e)
  pub begins : (new.first ≡ last.first) ⊎ (new.first ≡ next.first)
