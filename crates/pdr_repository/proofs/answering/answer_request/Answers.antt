use Rattle.std.proofs.Common.{[], ◌∷◌, ◌++◌, ap, ◌∙◌}
use Rattle.pldm_message.{specs.Headers.{header_bytes}, specs.HeaderValues.{header_value}}
use Rattle.pdr_repository.proofs.CommandLaws.{answered, answered_code}
use Rattle.pdr_repository.proofs.answering.answer_request.Goals as goal

pub returns-in-Ok-clause-answered : goal.returns-in-Ok-clause-answered
returns-in-Ok-clause-answered g c =
    let records = g.R.Repository.records c.args.records.now in
    answered (header_value c.in-Some.header) c.in-Ok.command _ records _ _ _ c.in-Some.ensures.0 c.in-Some.ensures.1 c.in-Ok.ensures c.reply.ensures

pub returns-in-Err-clause-answered : goal.returns-in-Err-clause-answered
returns-in-Err-clause-answered g c =
    let records = g.R.Repository.records c.args.records.now in
    answered_code (header_value c.in-Some.header) c.in-Err.code.value _ records _ _ c.in-Some.ensures.0 c.in-Some.ensures.1 c.in-Err.ensures
    (c.write.ensures ∙ ap (λ h. header_bytes h ++ c.in-Err.code.value ∷ []) c.answer-header.ensures)
