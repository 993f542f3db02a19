use Rattle.std.proofs.Common.{◌≡◌, ◌∙◌, Some, arith}
use Rattle.json.specs.Json.{skip_value}
use Rattle.net_pointers.{specs.PartTokens.{past_key}, proofs.PartTokens.{member_passed}}
use Rattle.net_pointers.proofs.tokens.pass_members.Goals as goal

pub loop-preserved : goal.loop-preserved
loop-preserved c =
    let named : past_key c.loop.reader ≡ Some c.pass_key.new.reader = grind arith in
    member_passed c.args.count c.loop.counter c.loop.reader c.pass_key.new.reader c.skip_value.new.self c.loop-test.true named (grind arith) ∙ c.loop.invariant
