-- The rows before an index, and one more.
use Rattle.std.{proofs.Common.{◌≡◌, ℕ, ◌+◌, ◌<◌, List, length, get_or, take, Some, false, sym, ap, subst, ◌∙◌}, specs.Prelude.{◌↔◌, IsTrue, All, slice_get}, proofs.lemmas.Bool.{false≢true}, proofs.lemmas.List.{take_more}, proofs.lemmas.List.Elements.{All-more}, proofs.lemmas.List.Quantifiers.{all_pairs_push}, proofs.lemmas.Option.{slice_get-get_or}}
use Rattle.mctp_routing.{specs.declared.row.TableRow.{TableRow}, specs.Rows.{AreApart, IsLawful, AreLawful}, proofs.Apart.{turned}}

-- a test that fails refutes what it decides
pub refuted : {P : Type 0} → (IsTrue false ↔ P) → ¬ P
refuted decided p = false≢true (decided.1 p)

-- the element that was read is at its index
pub stands : (rows : List TableRow) (i : ℕ) (row : TableRow) → i < length rows → row ≡ get_or rows i row → slice_get rows i ≡ Some row
stands rows i row lt is = slice_get-get_or rows i row lt ∙ ap Some (sym is)

-- a lawful row that lies apart from the lawful rows before it
pub lawful_more : (rows : List TableRow) (i : ℕ) (row : TableRow) → i < length rows → row ≡ get_or rows i row → AreLawful (take i rows) → IsLawful row
    → All (AreApart row) (take i rows) → AreLawful (take (i + 1) rows)
lawful_more rows i row lt is before one apart = record {
  each = All-more IsLawful rows i row lt before.each (subst IsLawful is one);
  apart = rw (take_more rows i row lt, ← is) (all_pairs_push AreApart (take i rows) row before.apart (λ k d below. turned row (get_or (take i rows) k d) (apart k d below)));
}
