use Rattle.std.proofs.Common.{◌∙◌, sym, subst, All, List, ℕ, ◌<◌, length}
use Rattle.net_rules.{specs.declared.certifying.walks.Walked.{Walked}, specs.declared.certifying.walks.Walked.TheVariants.{Ended}, specs.Circles.{IsWalked}, proofs.LevelLaws.{counts_small, are_levels}}
use Rattle.net_tables.specs.Ownership.{IsOwnedBy}
use Rattle.net_rules.proofs.certifying.levels.levels_of.Goals as goal

pub levels_from-requires : goal.levels_from-requires
levels_from-requires c =
    let P : List ℕ → Type 0 = λ counts. All (λ count. count < 64) counts in
    let Q : Walked → Type 0 = λ walked. IsWalked (IsOwnedBy c.args.plan.now) (length c.args.plan.now.nodes.items) walked in
    let walked : Q (Ended c.in-Ended.counts) = subst Q c.in-Ended.is c.in_ok-counts.ensures in
    subst P (sym c.deref.ensures.value) (counts_small c.args.plan.now c.in-Ended.counts.items walked.1)

pub returns-in_ok-levels_from-in-Ended-clause-levels : goal.returns-in_ok-levels_from-in-Ended-clause-levels
returns-in_ok-levels_from-in-Ended-clause-levels c =
    let Q : Walked → Type 0 = λ walked. IsWalked (IsOwnedBy c.args.plan.now) (length c.args.plan.now.nodes.items) walked in
    let walked : Q (Ended c.in-Ended.counts) = subst Q c.in-Ended.is c.in_ok-counts.ensures in
    let levels = c.in_ok-levels_from-in-Ended.field-0.items in
    are_levels c.args.plan.now c.in-Ended.counts.items levels (c.in_ok-levels_from-in-Ended.ensures ∙ c.deref.ensures.value) walked.0 walked.1
