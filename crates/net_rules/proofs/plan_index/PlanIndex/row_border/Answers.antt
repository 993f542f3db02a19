use Rattle.std.{proofs.Common.{◌≡◌, ℕ, List, length, Some, refl, subst, arith}, specs.Prelude.{slice_get}, proofs.lemmas.Option.{slice_get_read}}
use Rattle.plan_values.{specs.declared.plan.Plan.{Plan}, specs.declared.nodes.Row.{Row}}
use Rattle.net_tables.specs.Routing.{HasRow, rows_of}
use Rattle.net_rules.{specs.Spans.{IsCovered}, proofs.CoveredLaws.{covered_has}, specs.Stretches.{IsStretch}, proofs.SpanLaws.{stretch_of}, proofs.StretchLaws.{one_alike}}
use Rattle.net_rules.proofs.plan_index.PlanIndex.row_border.Goals as goal

pub returns-in-Some : goal.returns-in-Some
returns-in-Some c =
    let plan = c.self.inside.plan.now in
    let n = c.args.node in
    let lists = c.self.inside.rows.items in
    let rows = c.in-Some.rows.now in
    let L : List (List Row) → Type 0 = λ ls. slice_get ls n ≡ Some rows in
    let here : slice_get lists n ≡ Some rows = let look = c.in-Some.ensures.lookup in subst L c.deref.ensures.value (slice_get_read c.deref.result.now (length c.deref.result.now) n rows refl look.3.0 look.1) in
    let same : rows ≡ rows_of plan n = c.self.invariant.1 n rows here in
    let e = c.args.eid.value in
    let P : Plan → Type 0 = λ p. IsStretch (HasRow p n) e c.border.result in
    subst P c.self.view_is (stretch_of (IsCovered rows) (HasRow plan n) (covered_has plan n rows same) e c.border.result c.border.ensures)

pub returns-in-None : goal.returns-in-None
returns-in-None c = one_alike (HasRow c.args.self.now c.args.node) c.args.eid.value _ (omega arith)
