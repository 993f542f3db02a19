use Rattle.toml.specs.View.{view}
use Rattle.net_reached.specs.Wishes.{ReachesNode}
use Rattle.board_kept.{specs.Made.{AsksFor}, proofs.More.{one_more}}
use Rattle.board_kept.proofs.fit.judge_from.Goals as goal

pub loop-to-preserved : goal.loop-to-preserved
loop-to-preserved c =
    let board = view c.args.board.now in
    let plan = c.args.checked.now.0 in
    let from = c.args.from in
    one_more (λ b. AsksFor board plan from b → ReachesNode plan from b) c.loop-to.to c.loop-to.invariant c.in_ok-judge_asked.ensures
