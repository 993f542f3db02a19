use Rattle.std.{proofs.Common.{arith, length, ◌≤◌, ◌<◌}, proofs.lemmas.Bool.Decides.{nat_tests}, proofs.lemmas.List.{length-map}}
use Rattle.pdr_repository.{specs.Records.{entries, entry_of}, proofs.LawfulLists.{lawful_list, from_lawful_list}}
use Rattle.pdr_repository.proofs.lawful_list.is_lawful_list.Goals as goal

pub returns : goal.returns
returns c =
    let records = c.args.records.now in
    let long = length-map records entry_of in
    let few : length records ≤ 4096 = omega (arith, c.if-records-gt-MAX_RECORDS.false) in
    let some : 0 < length records = grind (arith, nat_tests, c.if-is_empty.ensures) in (
      λ h. (few, lawful_list (entries records) (omega (arith, long, some)) (λ place within. c.are_lawful.ensures.0 h place (omega (arith, long, within)))),
      λ (_, lawful). c.are_lawful.ensures.1 (λ place within. from_lawful_list (entries records) lawful place (omega (arith, long, within))),
    )
