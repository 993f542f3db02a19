use Rattle.std.{proofs.Common.{◌≡◌, ◌-◌, Some, length, rules}, specs.Prelude.{slice_get}}
use Rattle.net_rollout.proofs.Chains.{last_of}
use Rattle.net_rollout.proofs.steps.plan_so_far.Goals as goal

pub returns-in-Some : goal.returns-in-Some
returns-in-Some c =
    let steps = c.args.steps.now in
    let step = c.in-Some.step.now in
    let last : slice_get steps (length steps - 1) ≡ Some step = search rules in
    last_of c.args.before.now steps step last
