use Rattle.report_commands.proofs.Hops.{hops_more}
use Rattle.report_commands.proofs.matrix.hops_from.Goals as goal

pub loop-to-preserved : goal.loop-to-preserved
loop-to-preserved c =
    let found = c.in_ok-hops_between in
    let before = c.loop-to in
    hops_more c.args.checked.now.0 c.args.from before.to before.hops.items c.push.new.self.items found.field-0 before.invariant.0 before.invariant.1
    found.ensures c.in_ok-push.ensures.items
