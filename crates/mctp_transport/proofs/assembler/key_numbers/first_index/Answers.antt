use Rattle.std.proofs.Common.{◌==◌, arith}
use Rattle.mctp_transport.proofs.KeyNumberLaws.{first_found}
use Rattle.mctp_transport.proofs.assembler.key_numbers.first_index.Goals as goal

pub returns : goal.returns
returns c =
    first_found (λ number. number == c.args.wanted) c.args.numbers.now 64 c.loop-index.index c.loop-index.first c.loop-index.invariant (omega (arith, c.loop-index-test.false)) c.requires
