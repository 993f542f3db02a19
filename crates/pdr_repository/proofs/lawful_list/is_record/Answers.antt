use Rattle.std.{proofs.Common.{◌≡◌, ◌↔◌, ℕ, List, nat_eq, true, refl, sym, ap, ◌∙◌, arith}, proofs.lemmas.Bool.Decides.{nat_tests}}
use Rattle.pdr_record.{specs.Records.{RecordValue, IsOtherRecordOf}, specs.RecordLaws.{one_record}}
use Rattle.pdr_repository.specs.Records.{IsRecordOf}
use Rattle.pdr_repository.proofs.lawful_list.is_record.Goals as goal

same_handle : (own handle : ℕ) (bytes : List ℕ) → IsOtherRecordOf own bytes → IsRecordOf handle bytes → own ≡ handle
same_handle own handle bytes p q = sym p.3 ∙ ap (λ (r : RecordValue). r.handle) (one_record p.0 q.0 p.1.0 q.1.0 (sym p.1.1 ∙ q.1.1)) ∙ q.2

are_equal : (m n : ℕ) → (nat_eq m n ≡ true) ↔ (m ≡ n)
are_equal m n = (λ e. grind (arith, nat_tests), λ e. grind (arith, nat_tests))

pub returns-in-Some : goal.returns-in-Some
returns-in-Some c =
    let own = c.in-Some.own in
    let handle = c.args.handle in
    let p = (c.in-Some.ensures own).0 refl in
    (λ e. (p.0, p.1, p.3 ∙ (are_equal own handle).0 e), λ q. (are_equal own handle).1 (same_handle own handle c.args.bytes.now p q))
