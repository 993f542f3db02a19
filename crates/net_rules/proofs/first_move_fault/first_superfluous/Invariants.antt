use Rattle.std.proofs.Common.{ℕ, ◌<◌, Option}
use Rattle.net_tables.specs.TwoPlans.{moving}
use Rattle.net_rules.{specs.Rules.{AtNodeOrEid}, specs.Superfluous.{NeedsWhatItIsGiven, NeedsItsRank}}
use Rattle.net_rules.proofs.first_move_fault.first_superfluous.Given as goal

abbrev pub invariant-loop-node : goal.invariant-loop-node
invariant-loop-node l =
    (k : ℕ) → k < l.node → (entry eid : Option ℕ) → AtNodeOrEid (NeedsWhatItIsGiven l.fn.index l.certificate k) (NeedsItsRank (moving l.fn.index l.fn.new_index) l.certificate k) entry eid
