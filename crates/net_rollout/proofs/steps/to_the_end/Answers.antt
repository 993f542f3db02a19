use Rattle.std.proofs.Common.{◌≡◌, ◌∙◌, ap}
use Rattle.net_rollout.{specs.Steps.{IsCertified, last_plan}, proofs.Made.{ends_so}}
use Rattle.net_rollout.proofs.steps.to_the_end.Goals as goal

pub returns-in_ok-nodes-in-Ok : goal.returns-in_ok-nodes-in-Ok
returns-in_ok-nodes-in-Ok c =
    let before = c.args.before.now in
    let here = c.plan_so_far-here.result.now in
    let new = c.args.after.now in
    let steps = c.args.steps.items in
    let is : here ≡ last_plan before steps = c.plan_so_far-here.ensures ∙ ap (last_plan before) c.deref.ensures.value in
    let made = c.in-Ok.ensures in
    let certified : IsCertified here new c.in-Ok.certificate = record { accepted = made.accepted; exact = made.exact; well_formed = made.well_formed; few = made.few } in
    (c.requires.none, c.requires.steps, ends_so before here new steps (record { nodes = c.in_ok-nodes-in-Ok.nodes; certificate = c.in-Ok.certificate }) is certified c.in_ok-nodes-in-Ok.ensures)
