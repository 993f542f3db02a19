use Rattle.std.proofs.Common.{string_bytes}
use Rattle.net_reached.specs.Matrices.{AreRows}
use Rattle.net_reached.proofs.matrix.rows_text.Given as goal

abbrev pub invariant-loop-node : goal.invariant-loop-node
invariant-loop-node l = AreRows l.checked.0 l.node (string_bytes l.text)
