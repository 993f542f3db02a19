use Rattle.std.{proofs.Common.{ℕ, Bool, ◌∙◌}, specs.Prelude.{◌==◌}, specs.List.{list_any}}
use Rattle.net_tables.specs.Routing.{ports_of}
use Rattle.plan_exports.proofs.Said.{filter_step}
use Rattle.plan_exports.proofs.linux.buses_at.Goals as goal

pub loop-bus-preserved : goal.loop-bus-preserved
loop-bus-preserved c =
    let test : ℕ → Bool = λ bus. list_any (λ port. port.bus == bus) (ports_of c.args.plan.now c.args.node) in
    c.in_ok-push_if.ensures ∙ filter_step test c.loop-bus.bus c.is_on_bus.result c.loop-bus.buses.items c.is_on_bus.ensures c.loop-bus.invariant
