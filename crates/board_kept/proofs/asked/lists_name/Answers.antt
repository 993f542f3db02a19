use Rattle.std.proofs.Common.{codes, arith}
use Rattle.toml.specs.View.{view}
use Rattle.board_values.specs.Said.{SaysText, item_at}
use Rattle.board_kept.proofs.More.{one_more, denied, among_first}
use Rattle.board_kept.proofs.asked.lists_name.Goals as goal

pub loop-index-preserved : goal.loop-index-preserved
loop-index-preserved c = one_more (λ i. ¬ SaysText (item_at (codes "reaches") i (view c.args.said.now)) c.args.name.now) c.loop-index.index
    c.loop-index.invariant (denied c.is_name_at.result c.is_name_at.ensures.1 c.if-is_name_at.false)

pub returns : goal.returns
returns c = λ lists. among_first (view c.args.said.now) (codes "reaches") c.args.name.now 64 c.has_item-are_more.result
    (λ i within. c.loop-index.invariant i (omega (arith, within, c.loop-index-test.false))) c.has_item-are_more.ensures lists.0 lists.1
