use Rattle.std.proofs.Common.{◌++◌, ◌∷◌, [], refl, sym, arith}
use Rattle.pldm_message.{specs.Headers.{header_bytes}, specs.Messages.{answer_header}, specs.Heads.{answer_head}, specs.Pdrs.{part_bytes}, specs.PdrValues.{part}, proofs.Writing.{written_behind}}
use Rattle.pldm_message.specs.declared.command.Command.TheVariants as command
use Rattle.pldm_message.proofs.get_pdr_answer.GetPdrAnswerWire.put.Goals as goal

pub returns-in-Ok-clause-front : goal.returns-in-Ok-clause-front
returns-in-Ok-clause-front c =
    let fits = rw c.in-Ok.is at c.requires in
    rw c.in-Ok.is
    (written_behind 5 c.put-in-Ok.result c.args.out.now c.put.new.out (header_bytes (answer_header command.GetPdr (answer_head c.args.self.now.head)) ++ 0 ∷ []) (part_bytes (part c.in-Ok.part))
    c.put-in-Ok.new.out refl (sym c.put-in-Ok.ensures.count) (omega (arith, fits, c.put-in-Ok.ensures.count)) c.put.ensures c.put-in-Ok.ensures.front)
