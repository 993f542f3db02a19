use Rattle.std.{proofs.Common.{◌≡◌, ◌-◌, ◌<◌, suc, length, take, Some, ap, refl, sym, ◌∙◌, arith}, specs.Prelude.{slice_get}, proofs.lemmas.Option.{slice_get_read}}
use Rattle.net_rollout.specs.Steps.{last_plan}
use Rattle.step_files.proofs.Along.{last_taken}
use Rattle.step_files.proofs.files.plan_before.Goals as goal

pub returns : goal.returns
returns c =
    let before = c.args.before.now in
    let steps = c.args.steps.now in
    let index = c.args.index in
    let step = c.index-steps-index.result in
    let within : index - 1 < length steps = omega arith in
    let at : slice_get steps (index - 1) ≡ Some step = slice_get_read steps (length steps) (index - 1) step refl within c.index-steps-index.is in
    let next : suc (index - 1) ≡ index = omega arith in
    ap (λ s. s.after) (sym c.index-steps-index.is) ∙ (last_taken before steps (index - 1) step at ∙ ap (λ n. last_plan before (take n steps)) next)
