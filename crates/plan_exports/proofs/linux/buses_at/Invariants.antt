use Rattle.std.{proofs.Common.{◌≡◌}, specs.Prelude.{filter, ◌==◌}, specs.List.{list_any, range_with_len}}
use Rattle.net_tables.specs.Routing.{ports_of}
use Rattle.plan_exports.proofs.linux.buses_at.Given as goal

abbrev pub invariant-loop-bus : goal.invariant-loop-bus
invariant-loop-bus l = l.buses.items ≡ filter (λ bus. list_any (λ port. port.bus == bus) (ports_of l.plan l.node)) (range_with_len 0 l.bus)
