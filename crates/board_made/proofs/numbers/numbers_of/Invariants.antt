use Rattle.std.{proofs.Common.{◌≡◌, map, take}, specs.List.{flat_map}}
use Rattle.board_made.specs.Numbers.{number_value, numbers_of_node}
use Rattle.board_made.proofs.numbers.numbers_of.Given as goal

abbrev pub invariant-loop-node : goal.invariant-loop-node
invariant-loop-node l = map number_value l.numbers.items ≡ flat_map (numbers_of_node l.plan) (take l.node-index l.plan.nodes.items)
