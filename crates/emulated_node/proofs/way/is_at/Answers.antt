use Rattle.std.{proofs.Common.{◌≡◌, ◌<◌, length, Some, refl, sym, arith}, specs.Prelude.{slice_get}, proofs.lemmas.Option.{slice_get_read}}
use Rattle.plan_values.specs.declared.nodes.Port.{Port}
use Rattle.net_tables.proofs.RowSearches.{of_one_more, of_all_items}
use Rattle.emulated_node.specs.Ways.{IsPortAt}
use Rattle.emulated_node.proofs.way.is_at.Goals as goal

pub returns-then-is_port_at : goal.returns-then-is_port_at
returns-then-is_port_at c =
    let port = c.port-item.result in
    let ports = c.ports_at-ports.result.now in
    let index = c.loop-port.port-index in
    let within : index < length ports = omega arith in
    let there : slice_get ports index ≡ Some port = slice_get_read ports (length ports) index port refl within c.port-item.is in (
      λ _. (index, port, rw (sym c.ports_at-ports.ensures) there, c.is_port_at.ensures.0 c.if-is_port_at.true),
      λ _. refl,
    )

pub loop-port-preserved : goal.loop-port-preserved
loop-port-preserved c =
    of_one_more c.ports_at-ports.result.now c.loop-port.port-index c.port-item.result (λ (port : Port). ¬ IsPortAt port c.args.bus c.args.address.now) (omega arith) c.port-item.is
    (λ is. cc (c.is_port_at.ensures.1 is, c.if-is_port_at.false)) c.loop-port.invariant

pub returns : goal.returns
returns c =
    let ports = c.ports_at-ports.result.now in
    let none = of_all_items ports c.loop-port.port-index (λ (port : Port). ¬ IsPortAt port c.args.bus c.args.address.now) (omega arith) c.loop-port.invariant in (
      λ h. absurd (cc h),
      λ (p, port, at, is). absurd (none p port (rw c.ports_at-ports.ensures at) is),
    )
