use Rattle.std.{proofs.Common.{◌≡◌, Some, length, arith, subst, inl, inr}, specs.Prelude.{slice_get}, proofs.lemmas.Bool.{cases_lt}, proofs.lemmas.Option.{slice_get_read, slice_get_within}}
use Rattle.net_rollout.specs.Steps.{IsPartTold}
use Rattle.mctp_transport.proofs.FirstIndexes.{same_element}
use Rattle.net_rollout.proofs.changed_plan.are_told.Goals as goal

pub loop-part-preserved : goal.loop-part-preserved
loop-part-preserved c i part lt there =
    let new = c.args.new.now in
    let parts = c.args.parts.now in
    let k = c.loop-part.part-index in
    let one = c.part-item.result in
    elim (cases_lt i k) [
      | inl less ↦ c.loop-part.invariant i part less there
      | inr ge ↦ (
          let here : slice_get parts k ≡ Some one = slice_get_read parts (length parts) k one (omega arith) (omega arith) c.part-item.is in
          let at : i ≡ k = omega (arith, lt, ge) in
          let same : one ≡ part = same_element parts k one part here (subst (λ x. slice_get parts x ≡ Some part) at there) in
          let told : IsPartTold new one = c.is_part_told.ensures c.if-not-is_part_told.false in
          subst (IsPartTold new) same told)
    ]

pub returns : goal.returns
returns c all i part there =
    let within = slice_get_within c.args.parts.now i part there in
    c.loop-part.invariant i part (omega (arith, within)) there
