use Rattle.std.proofs.Common.{arith}
use Rattle.net_questions.{specs.Lint.{IsOtherOn}, proofs.Exists.{found_item, item_not_found, item_more}}
use Rattle.net_questions.proofs.lints.ports.has_other_on.Goals as goal

pub returns-then-is_other_on : goal.returns-then-is_other_on
returns-then-is_other_on c =
    found_item c.ports_at-ports.result.now _ c.ports_at-ports.ensures (IsOtherOn c.args.bus c.args.other c.args.node c.args.port) c.loop-index.index c.index-ports-index.result (omega arith)
    c.index-ports-index.is (c.is_other_on.ensures.0 c.if-is_other_on.true)

pub loop-index-preserved : goal.loop-index-preserved
loop-index-preserved c =
    item_more c.ports_at-ports.result.now _ c.ports_at-ports.ensures (IsOtherOn c.args.bus c.args.other c.args.node c.args.port) c.loop-index.index c.index-ports-index.result (omega arith)
    c.index-ports-index.is (λ there. cc (c.is_other_on.ensures.1 there, c.if-is_other_on.false)) c.loop-index.invariant

pub returns : goal.returns
returns c =
    item_not_found c.ports_at-ports.result.now _ c.ports_at-ports.ensures (IsOtherOn c.args.bus c.args.other c.args.node c.args.port) c.loop-index.index (omega arith) c.loop-index.invariant
