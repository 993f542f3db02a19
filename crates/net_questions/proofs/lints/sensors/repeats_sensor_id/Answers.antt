use Rattle.std.proofs.Common.{◌≡◌, ℕ, sym, subst}
use Rattle.net_questions.specs.Lint.{HasEarlierSensor}
use Rattle.net_questions.proofs.lints.sensors.repeats_sensor_id.Goals as goal

pub returns-in-Some : goal.returns-in-Some
returns-in-Some c =
    let id = c.in-Some.id in (
      λ h. (id, c.in-Some.ensures.found, c.has_earlier_sensor.ensures.0 h),
      λ (k, is, earlier). (
          let same : id ≡ k = c.in-Some.ensures.all k is in
          c.has_earlier_sensor.ensures.1 (subst (λ (i : ℕ). HasEarlierSensor c.args.plan.now c.args.node c.args.index i) (sym same) earlier)),
    )

pub returns-in-None : goal.returns-in-None
returns-in-None c = (λ h. absurd (cc h), λ (k, is, earlier). absurd (c.in-None.ensures.all k is))
