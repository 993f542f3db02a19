use Rattle.pldm_message.specs.declared.command.Command.TheVariants as command
use Rattle.pdr_repository.proofs.CommandLaws.{replied_as}
use Rattle.pdr_repository.proofs.answering.reply.Goals as goal

pub returns-in-SetTid : goal.returns-in-SetTid
returns-in-SetTid g c =
    let records = g.R.Repository.records c.args.records.now in
    replied_as c.args.command command.SetTid _ _ c.args.tid.now.value records c.args.request.now _ _ c.set_tid-outcome.new.held.value c.in-SetTid.is c.new-head.ensures c.write.ensures (c.set_tid-outcome.ensures records)

pub returns-in-GetTid : goal.returns-in-GetTid
returns-in-GetTid g c =
    let records = g.R.Repository.records c.args.records.now in
    replied_as c.args.command command.GetTid _ _ c.args.tid.now.value records c.args.request.now _ _ c.args.tid.now.value c.in-GetTid.is c.new-head.ensures c.write-in-GetTid.ensures (c.get_tid-outcome.ensures records)

pub returns-in-GetPldmTypes : goal.returns-in-GetPldmTypes
returns-in-GetPldmTypes g c =
    let records = g.R.Repository.records c.args.records.now in
    replied_as c.args.command command.GetPldmTypes _ _ c.args.tid.now.value records c.args.request.now _ _ c.args.tid.now.value c.in-GetPldmTypes.is c.new-head.ensures c.write-in-GetPldmTypes.ensures (c.get_pldm_types-outcome.ensures c.args.tid.now.value records)

pub returns-in-GetPdr : goal.returns-in-GetPdr
returns-in-GetPdr g c =
    let records = g.R.Repository.records c.args.records.now in
    replied_as c.args.command command.GetPdr _ _ c.args.tid.now.value records c.args.request.now _ _ c.args.tid.now.value c.in-GetPdr.is c.new-head.ensures c.write-in-GetPdr.ensures (c.get_pdr-outcome.ensures.answered c.args.tid.now.value)
