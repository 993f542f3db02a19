use Rattle.std.proofs.Common.{subst}
use Rattle.serde_json.specs.View.{view}
use Rattle.plan_values.specs.declared.plan.Plan.{Plan}
use Rattle.json_commands.specs.Ways.{IsWayTold}
use Rattle.json_commands.proofs.ways.traced.Goals as goal

pub returns : goal.returns
returns c =
    let way = c.in_ok-way.way in
    let told = c.in_ok-way_said in
    let Tells : Plan → Type 0 = λ p. IsWayTold c.args.name.now c.args.given.now.text.items p c.args.eid way.steps.items way.last way.end (view told.field-0.value) in
    (told.ensures.0, (way.steps.items, way.last, way.end, c.in_ok-way.ensures.way, c.in_ok-way.ensures.within, subst Tells c.plan.ensures.plan told.ensures.1))
