-- Files of steps, one step after the other.
use Rattle.std.{proofs.Common.{◌≡◌, ◌+◌, ◌<◌, ℕ, zero, suc, List, [], ◌∷◌, ◌++◌, length, take, get_or, Some, Result, Ok, Err, ap, refl, sym, ◌∙◌, subst, arith}, specs.Prelude.{IfOk, slice_get}, proofs.Math.Seq.{take-suc}, proofs.lemmas.List.{append-nil, append_assoc, length-take}, proofs.lemmas.Option.{slice_get_within, get_or_from_slice_get, same_Some}}
use Rattle.plan_values.specs.declared.plan.Plan.{Plan}
use Rattle.net_rollout.{specs.declared.change.Step.{Step}, specs.Steps.{AreSteps, IsCertified, last_plan}}
use Rattle.step_files.specs.StepFiles.{AreFilesAlong, AreFilesAt, AreFilesOfStep, FileValue}

-- the plan after a step is the last one of the steps up to it
pub last_taken : (before : Plan) (steps : List Step) (i : ℕ) (step : Step) → slice_get steps i ≡ Some step → step.after ≡ last_plan before (take (suc i) steps)
last_taken before [] i step is = absurd (cc is)
last_taken before (s ∷ steps) zero step is = ap (λ x. x.after) (sym (same_Some s step is))
last_taken before (s ∷ steps) (suc i) step is = last_taken s.after steps i step is

-- each step is certified from the plan before it
pub certified_at : (before new : Plan) (steps : List Step) (i : ℕ) (step : Step) → AreSteps before new steps → slice_get steps i ≡ Some step
    → IsCertified (last_plan before (take i steps)) step.after step.certificate
certified_at before new [] i step are is = absurd (cc is)
certified_at before new (s ∷ steps) zero step are is = subst (λ x. IsCertified before x.after x.certificate) (same_Some s step is) are.0.0
certified_at before new (s ∷ steps) (suc i) step are is = certified_at s.after new steps i step are.1 is

module _ (folder : List ℕ) (count : ℕ) where
  -- the files of one step more
  files_more : (number : ℕ) (before : Plan) (steps : List Step) (step : Step) (files own : List FileValue) → AreFilesAlong folder count number before steps files
      → AreFilesOfStep folder count (number + length steps) (last_plan before steps) step.after step.certificate own
      → AreFilesAlong folder count number before (steps ++ step ∷ []) (files ++ own)
  files_more number before [] step files own none are =
      let here : AreFilesOfStep folder count number before step.after step.certificate own = subst (λ n. AreFilesOfStep folder count n before step.after step.certificate own) (omega arith) are in
      let whole : files ++ own ≡ own ++ [] = ap (λ fs. fs ++ own) none ∙ sym (append-nil own) in
      (own, [], here, refl, whole)
  files_more number before (s ∷ steps) step files own along are =
      let at : number + suc (length steps) ≡ suc number + length steps = omega arith in
      let here = subst (λ n. AreFilesOfStep folder count n (last_plan s.after steps) step.after step.certificate own) at are in
      let whole : files ++ own ≡ along.0 ++ (along.1 ++ own) = ap (λ fs. fs ++ own) along.4 ∙ append_assoc along.0 along.1 own in
      (along.0, along.1 ++ own, along.2, files_more (suc number) s.after steps step along.1 own along.3 here, whole)

  -- the same, up to an index
  pub files_up_to : (before : Plan) (steps : List Step) (k : ℕ) (files own : List FileValue) → AreFilesAlong folder count 1 before (take k steps) files
      → AreFilesAt folder count before steps k own → AreFilesAlong folder count 1 before (take (k + 1) steps) (files ++ own)
  files_up_to before steps k files own along at =
      let step = at.0 in
      let within : k < length steps = slice_get_within steps k step at.1 in
      let is : get_or steps k step ≡ step = get_or_from_slice_get steps k step step at.1 in
      let next : k + 1 ≡ suc k = omega arith in
      let one : take (k + 1) steps ≡ take k steps ++ (step ∷ []) = ap (λ n. take n steps) next ∙ (take-suc steps k step within ∙ ap (λ s. take k steps ++ (s ∷ [])) is) in
      let long : k + 1 ≡ 1 + length (take k steps) = omega (arith, length-take k steps, within) in
      let here = subst (λ n. AreFilesOfStep folder count n (last_plan before (take k steps)) step.after step.certificate own) long at.2 in
      subst (λ ss. AreFilesAlong folder count 1 before ss (files ++ own)) (sym one) (files_more 1 before (take k steps) step files own along here)

-- the files of a step whose index is read
pub files_there : {T E : Type 0} (files : T → List FileValue) (folder : List ℕ) (count : ℕ) (before : Plan) (steps : List Step) (k : ℕ) (step : Step) (here : Plan) (r : Result T E)
    → slice_get steps k ≡ Some step → here ≡ last_plan before (take k steps)
    → IfOk r (λ t. AreFilesOfStep folder count (k + 1) here step.after step.certificate (files t)) → IfOk r (λ t. AreFilesAt folder count before steps k (files t))
files_there files folder count before steps k step here (Ok t) at is are = (step, at, subst (λ p. AreFilesOfStep folder count (k + 1) p step.after step.certificate (files t)) is are)
files_there files folder count before steps k step here (Err e) at is are = tt
