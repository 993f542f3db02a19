use Rattle.pdr_repository.specs.BlockTermini.{block_tid, block_records}
use Rattle.net_runs.specs.Termini.{terminus_at_start}
use Rattle.net_sim.specs.Dealing.{resting}
use Rattle.command_answers.proofs.Places.{one_terminus_more}
use Rattle.command_answers.proofs.termini.planned_termini.Goals as goal

pub loop-node-preserved : goal.loop-node-preserved
loop-node-preserved c =
    one_terminus_more (resting block_tid block_records) (terminus_at_start c.args.plan.now c.args.certificate.now) c.loop-node.node _ _ _
    c.in_ok-planned_terminus.ensures c.loop-node.invariant c.in_ok-push_terminus.ensures
