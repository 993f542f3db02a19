-- What the nodes take, one after another.
use Rattle.std.{proofs.Common.{◌≡◌, ℕ, ◌+◌, ◌≤◌, List, [], ◌∷◌, ◌++◌, sum, Option, subst, inl, inr, arith}, proofs.lemmas.List.{length-append}, proofs.lemmas.List.Sums.{fold-append}}
use Rattle.mctp_transport.proofs.FirstIndexes.{get_cases}
use Rattle.toml.specs.Data.{Data}
use Rattle.board_values.specs.Owners.{Takes, HaveTaken}

sum_more : (xs : List ℕ) (x : ℕ) → sum (xs ++ x ∷ []) ≡ sum xs + x
sum_more xs x = fold-append ◌+◌ 0 xs (x ∷ [])

-- one node more
pub one_taken_more : (board : Data) (owner : Option ℕ) (count total taken all : ℕ) → HaveTaken board owner count total → Takes board owner count taken
    → all ≤ total + taken → HaveTaken board owner (count + 1) all
one_taken_more board owner count total taken all before here few = record {
  shares = before.shares ++ taken ∷ [];
  counted = omega (arith, length-append before.shares (taken ∷ []), before.counted);
  taken = λ n said at. elim (get_cases before.shares taken n said at) [
    | inl old ↦ before.taken n said old.0
    | inr new ↦ subst (λ i. Takes board owner i said) (let same : count ≡ n = omega (arith, new.0, before.counted) in same) (subst (λ t. Takes board owner count t) new.1 here)
  ];
  most = omega (arith, few, before.most, sum_more before.shares taken);
}
