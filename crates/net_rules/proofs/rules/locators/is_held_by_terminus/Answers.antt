use Rattle.std.proofs.Common.{subst}
use Rattle.plan_values.specs.declared.plan.Plan.{Plan}
use Rattle.net_tables.specs.Routing.{Holds}
use Rattle.net_rules.proofs.OtherSearches.{held_by, held_by_nobody}
use Rattle.net_rules.proofs.rules.locators.is_held_by_terminus.Goals as goal

pub returns-then-has_tid : goal.returns-then-has_tid
returns-then-has_tid c =
    let H : Plan → Type 0 = λ plan. Holds plan c.in-Some.holder c.args.eid.value in
    (λ _. held_by c.args.plan.now c.in-Some.holder c.args.tid c.args.eid.value (subst H c.requires c.in-Some.ensures.0) (c.has_tid.ensures.0 c.if-has_tid.true), λ _. c.if-has_tid.true)

pub returns-in-None : goal.returns-in-None
returns-in-None c =
    let H : Plan → Type 0 = λ plan. (n : _) → ¬ Holds plan n c.args.eid.value in
    (λ h. absurd (cc h), λ held. absurd (held_by_nobody c.args.plan.now c.args.tid c.args.eid.value (subst H c.requires c.in-None.ensures) held))
