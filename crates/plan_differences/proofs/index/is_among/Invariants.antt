use Rattle.std.{proofs.Common.{map, take}, specs.Prelude.{Contains}}
use Rattle.plan_differences.specs.Facts.{fact_value}
use Rattle.plan_differences.proofs.index.is_among.Given as goal

abbrev pub invariant-loop-other : goal.invariant-loop-other
invariant-loop-other l = ¬ Contains (map fact_value (take l.other-index l.facts)) (fact_value l.fact)
