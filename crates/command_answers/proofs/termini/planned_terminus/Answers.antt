use Rattle.std.{proofs.Common.{◌≡◌, Some, length, option_map, ap, sym, ◌∙◌, arith}, proofs.lemmas.List.{length-map}}
use Rattle.pdr_repository.specs.Records.{entries, entry_of}
use Rattle.net_tables.specs.Repositories.{terminus_of}
use Rattle.command_answers.proofs.Places.{has_terminus, lawful_records}
use Rattle.command_answers.proofs.termini.planned_terminus.Goals as goal

pub new-requires : goal.new-requires
new-requires c =
    let plan = c.args.plan.now in
    let records = c.in_ok-records.records.items in
    let found : Some c.in-Some.tid.value ≡ option_map (λ t. t.tid) (terminus_of plan c.args.node) =
    ap (option_map (λ t. t.value)) (sym c.in-Some.is) ∙ c.tid_at.ensures in
    let facts = lawful_records plan c.args.certificate.now c.args.node (entries records) c.requires (has_terminus plan c.args.node c.in-Some.tid.value found)
    c.in_ok-records.ensures in
    let many : length (entries records) ≡ length records = length-map records entry_of in
    record { few = omega (arith, many, facts.0); lawful = facts.1 }
