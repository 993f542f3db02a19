-- The answer of a terminus, by its value.
use Rattle.std.proofs.Common.{◌≡◌, ℕ, List, Option, Some, None, ap, subst}
use Rattle.pdr_repository.{specs.Answers.{Answers}, specs.Records.{Entry}}
use Rattle.emulated_node.specs.Nodes.{TerminusValue}

abbrev with : ℕ → List Entry → TerminusValue
with tid records = record { tid = tid; records = records }

-- the terminus's answer, and what it holds then
abbrev AnswersThen : TerminusValue → List ℕ → Option (List ℕ) → TerminusValue → Type 0
AnswersThen t request reply new = (x : ℕ) × Answers t.tid t.records request reply x × (Some new ≡ Some (record t { tid = x }))

pub answered : (tid next : ℕ) (records kept : List Entry) (t : TerminusValue) (request : List ℕ) (reply : Option (List ℕ)) → record { tid = tid; records = records } ≡ t
    → Answers tid records request reply next → kept ≡ records → AnswersThen t request reply (record { tid = next; records = kept })
answered tid next records kept t request reply same answers keeps =
    let P : TerminusValue → Type 0 = λ t. AnswersThen t request reply (record { tid = next; records = kept }) in
    subst P same (next, answers, ap (λ (r : List Entry). Some (with next r)) keeps)

pub no_some : {A : Type 0} → (a : A) → Some a ≡ None → ⊥
no_some a is = cc
