use Rattle.std.proofs.Common.{string_bytes}
use Rattle.net_reached.specs.Matrices.{AreCells}
use Rattle.net_reached.proofs.matrix.cells_text.Given as goal

abbrev pub invariant-loop-to : goal.invariant-loop-to
invariant-loop-to l = AreCells l.checked.0 l.from l.to (string_bytes l.cells)
