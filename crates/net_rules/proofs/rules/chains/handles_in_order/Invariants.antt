use Rattle.net_rules.{specs.Handles.{AreFiled}, proofs.Handles.{values}}
use Rattle.net_rules.proofs.rules.chains.handles_in_order.Given as goal

abbrev pub invariant-loop-j : goal.invariant-loop-j
invariant-loop-j l = AreFiled l.records (values l.places) l.j l.handles.items
