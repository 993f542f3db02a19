use Rattle.std.proofs.Common.{◌≡◌, string_bytes}
use Rattle.net_reached.specs.Matrices.{head_cells}
use Rattle.net_reached.proofs.matrix.number_cells.Given as goal

abbrev pub invariant-loop-node : goal.invariant-loop-node
invariant-loop-node l = string_bytes l.cells ≡ head_cells l.node
