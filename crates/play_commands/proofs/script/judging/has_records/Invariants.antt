use Rattle.std.proofs.Common.{◌≡◌, ℕ, ◌<◌, length}
use Rattle.net_tables.{specs.Repositories.{records_of}, specs.Routing.{Holds}}
use Rattle.play_commands.proofs.script.judging.has_records.Given as goal

abbrev pub invariant-loop-node : goal.invariant-loop-node
invariant-loop-node l = (n : ℕ) → n < l.node → ¬ (Holds l.plan n l.eid.value × (length (records_of l.plan n) ≡ l.count))
