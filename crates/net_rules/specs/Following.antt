-- Items that follow one another along the endpoint IDs.
use Rattle.std.specs.Prelude.{◌≡◌, ℕ, ◌<◌, ◌≤◌, List, length, slice_get, Some}
use Rattle.net_tables.specs.Routing.{OfItem}

-- each item ends before any later one begins
abbrev pub Follow : {A : Type 0} → (A → ℕ) → (A → ℕ) → List A → Type 0
Follow {A} first past items =
    (i j : ℕ) (one other : A) → i < j → slice_get items i ≡ Some one → slice_get items j ≡ Some other
    → past one ≤ first other

-- so many of the items end by e, and the others past it
pub record EndedBy {A : Type 0} (past : A → ℕ) (items : List A) (e count : ℕ) : Type 0 where
  pub within : count ≤ length items
  pub ended : (k : ℕ) → k < count → OfItem items k (λ x. past x ≤ e)
  pub left : (k : ℕ) → count ≤ k → OfItem items k (λ x. e < past x)
