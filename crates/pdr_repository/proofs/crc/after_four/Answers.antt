use Rattle.std.proofs.Common.{rules}
use Rattle.pdr_repository.proofs.Crcs.{crc_four_is}
use Rattle.pdr_repository.proofs.crc.after_four.Goals as goal

pub returns : goal.returns
returns c =
    λ before known. crc_four_is before c.args.crc c.args.first c.args.second c.args.third c.args.fourth _ _ _ _
    (search rules) (search rules) (search rules) (search rules) (search rules)
    c.entry_before_three-first.ensures c.entry_before_two-second.ensures c.entry_before_one-third.ensures c.entry-fourth.ensures known
