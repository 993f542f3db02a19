use Rattle.std.{proofs.Common.{◌≡◌, ◌<◌, ℕ, Some}, specs.Prelude.{slice_get}}
use Rattle.net_rollout.{specs.declared.change.Part.{Part}, specs.Steps.{IsPartTold}}
use Rattle.net_rollout.proofs.changed_plan.are_told.Given as goal

abbrev pub invariant-loop-part : goal.invariant-loop-part
invariant-loop-part l = (i : ℕ) (part : Part) → i < l.part-index → slice_get l.parts i ≡ Some part → IsPartTold l.new part
