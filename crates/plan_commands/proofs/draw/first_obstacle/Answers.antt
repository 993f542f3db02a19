use Rattle.plan_commands.proofs.draw.first_obstacle.Goals as goal

pub returns-in-Ok : goal.returns-in-Ok
returns-in-Ok c = (c.in-Ok._certificate, c.in-Ok.ensures.accepted)
