use Rattle.std.proofs.Common.{inl}
use Rattle.json_commands.proofs.explained.explained_plan.Goals as goal

pub returns-in_ok-sound_said-in-Ok : goal.returns-in_ok-sound_said-in-Ok
returns-in_ok-sound_said-in-Ok c =
    let told = c.in_ok-sound_said-in-Ok in
    inl (told.ensures.0, c.in-Ok.certificate, c.in-Ok.ensures.accepted, c.in-Ok.ensures.exact, told.ensures.1)
