-- What a part without a fault is.
use Rattle.std.{proofs.Common.{◌≡◌, ℕ, List, [], length, Option, Some, None, subst, inl, inr, ◌⊎◌, arith}, proofs.lemmas.Bool.Decides.{eqb_tells}, proofs.lemmas.List.{nil_from_length}}
use Rattle.pldm_message.specs.Pdrs.{PartRequest, Part}
use Rattle.pdr_repository.{specs.declared.walker.due.Due.{Due}, specs.declared.walk_fault.WalkFault.{WalkFault}, specs.Faults.{Room, Judges, HasWrongFlag}, specs.Dues.{request_of}}

pub same_room : (m n : Room) → m.max_records ≡ n.max_records → m.max_bytes ≡ n.max_bytes → m.records ≡ n.records → m.bytes ≡ n.bytes → m ≡ n
same_room m n a b c d = λ i. record { max_records = a i; max_bytes = b i; records = c i; bytes = d i }

pub judged : (m n : Room) (rs ss : List (List ℕ)) (bs ds : List ℕ) (r : PartRequest) (p : Part) (fault : Option WalkFault)
    → m ≡ n → rs ≡ ss → bs ≡ ds → Judges m rs bs r p fault → Judges n ss ds r p fault
judged m n rs ss bs ds r p fault rooms records before h =
    let P : Room → Type 0 = λ k. Judges k rs bs r p fault in
    let Q : List (List ℕ) → Type 0 = λ k. Judges n k bs r p fault in
    let R : List ℕ → Type 0 = λ k. Judges n ss k r p fault in
    subst R before (subst Q records (subst P rooms h))

right_flag : (m : Room) (rs : List (List ℕ)) (bs : List ℕ) (r : PartRequest) (p : Part) → Judges m rs bs r p None → ¬ HasWrongFlag r p
right_flag m rs bs r p (inl (_, e)) = absurd (let f : None ≡ Some _ = e in cc)
right_flag m rs bs r p (inr (right, _)) = right

-- a start is what was asked for first
pub starts_first : (m : Room) (rs : List (List ℕ)) (bs : List ℕ) (r : PartRequest) (p : Part) → Judges m rs bs r p None → (p.flag ≡ 0) ⊎ (p.flag ≡ 5) → r.operation ≡ 1
starts_first m rs bs r p h starts = elim (eqb_tells r.operation 1) [
  | inl same ↦ same.1
  | inr other ↦ absurd (right_flag m rs bs r p h (inl (λ fits. elim fits [
    | inl (first, _) ↦ other.1 first
    | inr (_, flag) ↦ unlike p.flag starts flag
  ])))
]
  where
    unlike : (flag : ℕ) → (flag ≡ 0) ⊎ (flag ≡ 5) → (flag ≡ 1) ⊎ (flag ≡ 4) → ⊥
    unlike flag (inl a) (inl b) = omega arith
    unlike flag (inl a) (inr b) = omega arith
    unlike flag (inr a) (inl b) = omega arith
    unlike flag (inr a) (inr b) = omega arith

-- so nothing is under way
pub nothing_before : (m : Room) (rs : List (List ℕ)) (bs : List ℕ) (count : ℕ) (due : Due) (p : Part) (held : Option Due)
    → held ≡ Some due → ((d : Due) → held ≡ Some d → d.operation.value ≡ 1 → length bs ≡ 0)
    → Judges m rs bs (request_of count due) p None → (p.flag ≡ 0) ⊎ (p.flag ≡ 5) → bs ≡ []
nothing_before m rs bs count due p held is fresh h starts = nil_from_length bs (fresh due is (starts_first m rs bs (request_of count due) p h starts))
