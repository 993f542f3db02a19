use Rattle.std.specs.Prelude.{◌||◌}
use Rattle.net_rules.{specs.Circles.{next_in}, specs.MixedLoops.{leads_to_mark}, proofs.LoopLaws.{AreTested}}
use Rattle.net_rules.proofs.certifying.mixed_loops.one_move_back.Given as goal

abbrev pub invariant-loop-index : goal.invariant-loop-index
invariant-loop-index l = AreTested (λ n. leads_to_mark l.marks (next_in l.old n) || leads_to_mark l.marks (next_in l.new n)) l.index l.back.items
