use Rattle.std.{proofs.Common.{◌≡◌, ℕ, ◌+◌, ◌<◌, ◌∷◌}, specs.Prelude.{slice_index}}
use Rattle.pdr_repository.proofs.lawful_list.ascend.Given as goal

abbrev pub invariant-loop-number : goal.invariant-loop-number
invariant-loop-number l = record {
  last : l.last ≡ slice_index (0 ∷ l.numbers) l.number-index;
  ascend : (k : ℕ) → k < l.number-index → slice_index (0 ∷ l.numbers) k < slice_index (0 ∷ l.numbers) (k + 1);
}
