use Rattle.std.{proofs.Common.{◌++◌, refl, sym, arith}, specs.Option.{option_to_list}}
use Rattle.pldm_message.{specs.Pdrs.{part_numbers}, specs.PdrValues.{part}, proofs.Writing.{written_behind}}
use Rattle.pldm_message.proofs.pdr_part.PdrPartWire.put.Goals as goal

pub returns-clause-front : goal.returns-clause-front
returns-clause-front c =
    written_behind 11 c.put_checked.result c.args.out.now c.put_numbers.new.out (part_numbers (part c.args.self.now)) (c.args.self.now.bytes.now ++ option_to_list c.args.self.now.transfer_crc)
    c.put_checked.new.out refl (sym c.put_checked.ensures.count) (omega (arith, c.requires, c.put_checked.ensures.count)) c.put_numbers.ensures c.put_checked.ensures.front
