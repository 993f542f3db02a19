use Rattle.std.{proofs.Common.{◌≡◌, length, map, Some, refl, sym, subst}, specs.Prelude.{slice_get}, proofs.lemmas.Option.{slice_get_read}}
use Rattle.net_rollout.specs.Steps.{IsCertified}
use Rattle.step_files.{specs.StepFiles.{file_value}, proofs.Along.{certified_at, files_there}}
use Rattle.step_files.proofs.files.files_at.Goals as goal

pub files_of_step-requires : goal.files_of_step-requires
files_of_step-requires c =
    let steps = c.args.steps.now in
    let step = c.index-steps-index.result in
    let at : slice_get steps c.args.index ≡ Some step = slice_get_read steps (length steps) c.args.index step refl c.requires.within c.index-steps-index.is in
    let is = c.plan_before-here.ensures in
    subst (λ p. IsCertified p step.after step.certificate) (sym is) (certified_at c.args.before.now c.args.after.now steps c.args.index step c.requires.steps at)

pub returns : goal.returns
returns c =
    let steps = c.args.steps.now in
    let step = c.index-steps-index.result in
    let at : slice_get steps c.args.index ≡ Some step = slice_get_read steps (length steps) c.args.index step refl c.requires.within c.index-steps-index.is in
    files_there (λ files. map file_value files.items) c.args.folder.now c.args.count c.args.before.now steps c.args.index step c.plan_before-here.result.now
    c.files_of_step.result at c.plan_before-here.ensures c.files_of_step.ensures
