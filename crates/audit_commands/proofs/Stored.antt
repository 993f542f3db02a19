-- The records of one node more.
use Rattle.std.{proofs.Common.{◌≡◌, ℕ, ◌+◌, List, [], ◌∷◌, ◌++◌, refl, ap, sym, ◌∙◌, subst, inl, inr, arith}, specs.Prelude.{Some}, proofs.lemmas.List.{length_push}}
use Rattle.plan_values.{specs.declared.certificate.Certificate.{Certificate}, specs.declared.plan.Plan.{Plan}}
use Rattle.net_tables.{specs.Repositories.{records_by_place}, proofs.Elements.{in_push}}
use Rattle.pdr_repository.specs.Records.{Entry}
use Rattle.audited_captures.specs.Audits.{AreRepositories}

pub none_stored : (plan : Plan) (cert : Certificate) → AreRepositories plan cert 0 []
none_stored plan cert = record { as_many = refl; each = λ n records is. absurd (cc) }

pub more_stored : (plan : Plan) (cert : Certificate) (count : ℕ) (repositories all : List (List Entry)) (records : List Entry) → AreRepositories plan cert count repositories
    → records ≡ records_by_place plan cert count → all ≡ repositories ++ records ∷ [] → AreRepositories plan cert (count + 1) all
more_stored plan cert count repositories all records before are joined =
    subst (λ (rs : List (List Entry)). AreRepositories plan cert (count + 1) rs) (sym joined) (record {
      as_many = omega (arith, length_push repositories records, before.as_many);
      each = λ n other is. elim (in_push repositories records n other is) [
        | inl old ↦ before.each n other old
        | inr (at, equal) ↦ (
            let place : count ≡ n = omega (arith, at, before.as_many) in
            sym equal ∙ are ∙ ap (records_by_place plan cert) place)
      ];
    })
