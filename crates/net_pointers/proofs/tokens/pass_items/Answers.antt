use Rattle.std.proofs.Common.{◌∙◌, Some, arith}
use Rattle.json.specs.Json.{skip_value}
use Rattle.net_pointers.proofs.PartTokens.{item_passed}
use Rattle.net_pointers.proofs.tokens.pass_items.Goals as goal

pub loop-preserved : goal.loop-preserved
loop-preserved c =
    item_passed c.args.count c.loop.counter c.loop.reader c.skip_value.new.self c.loop-test.true (grind arith) ∙ c.loop.invariant
