use Rattle.std.proofs.Common.{◌≡◌, All, length}
use Rattle.mctp_transport.specs.Heard.{IsIdle}
use Rattle.mctp_transport.proofs.heard.idle_assemblers.Given as goal

abbrev pub invariant-loop : goal.invariant-loop
invariant-loop l = (length l.assemblers.items ≡ l.counter) × All IsIdle l.assemblers.items
