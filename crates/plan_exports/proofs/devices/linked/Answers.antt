use Rattle.plan_exports.proofs.Devicing.{is_linked, others_more, others_all, yes_of, no_of}
use Rattle.plan_exports.proofs.devices.linked.Goals as goal

pub returns-then-is_of : goal.returns-then-is_of
returns-then-is_of c =
    is_linked c.args.links.now c.args.name.now c.loop-link.link-index c.link-item.result c.loop-link-test.true c.link-item.is c.loop-link.invariant (yes_of _ _ _ c.is_of.ensures c.if-is_of.true)

pub loop-link-preserved : goal.loop-link-preserved
loop-link-preserved c =
    others_more c.args.links.now c.args.name.now c.loop-link.link-index c.link-item.result c.loop-link-test.true c.link-item.is c.loop-link.invariant (no_of _ _ _ c.is_of.ensures c.if-is_of.false)

pub returns : goal.returns
returns c = others_all c.args.links.now c.args.name.now c.loop-link.link-index c.loop-link-test.false c.loop-link.invariant
