use Rattle.std.specs.Prelude.{◌==◌}
use Rattle.net_rules.proofs.LoopLaws.{AreTested}
use Rattle.net_rules.proofs.certifying.mixed_loops.one_marked.Given as goal

abbrev pub invariant-loop-index : goal.invariant-loop-index
invariant-loop-index l = AreTested (λ n. n == l.place) l.index l.marks.items
