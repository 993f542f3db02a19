use Rattle.net_rules.proofs.NewHandles.{AreTicked}
use Rattle.net_rules.proofs.rules.records.are_ticked_off_once.Given as goal

abbrev pub invariant-loop-record : goal.invariant-loop-record
invariant-loop-record l = AreTicked l.records l.record-index l.ticks.items
