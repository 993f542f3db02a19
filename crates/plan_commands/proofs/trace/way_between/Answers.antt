use Rattle.std.proofs.Common.{sym, subst}
use Rattle.command_answers.specs.Naming.{NameTheEnds}
use Rattle.plan_commands.proofs.trace.way_between.Goals as goal

pub returns-in-None-clause-memory : goal.returns-in-None-clause-memory
returns-in-None-clause-memory c =
    absurd (c.in-None.ensures (subst (NameTheEnds c.args.from.now c.args.to.now) (sym c.plan.ensures.plan) c.requires))
