use Rattle.std.{proofs.Common.{◌≡◌, ℕ, List, length, Some, refl, subst}, specs.Prelude.{slice_get}, proofs.lemmas.Option.{slice_get_read}}
use Rattle.plan_values.{specs.declared.plan.Plan.{Plan}, specs.declared.nodes.Row.{Row}}
use Rattle.net_tables.specs.Routing.{HasRow, rows_of}
use Rattle.net_rules.{specs.Spans.{IsInSpan}, proofs.CoveredLaws.{covered_has}}
use Rattle.net_rules.proofs.plan_index.PlanIndex.span_from.Goals as goal

pub returns-in-Some : goal.returns-in-Some
returns-in-Some c =
    let plan = c.self.inside.plan.now in
    let n = c.args.node in
    let lists = c.self.inside.rows.items in
    let rows = c.in-Some.rows.now in
    let L : List (List Row) → Type 0 = λ ls. slice_get ls n ≡ Some rows in
    let here : slice_get lists n ≡ Some rows = let look = c.in-Some.ensures.lookup in subst L c.deref.ensures.value (slice_get_read c.deref.result.now (length c.deref.result.now) n rows refl look.3.0 look.1) in
    let same : rows ≡ rows_of plan n = c.self.invariant.1 n rows here in
    let P : Plan → Type 0 = λ p. (e : ℕ) → IsInSpan c.span_from.result e → HasRow p n e in
    subst P c.self.view_is (λ e h. (covered_has plan n rows same e).0 (c.span_from.ensures e h))
