use Rattle.std.proofs.Common.{map, take}
use Rattle.plan_differences.specs.{Differences.{AreOnlyIn}, Facts.{fact_value}}
use Rattle.plan_differences.proofs.difference.only_in.Given as goal

abbrev pub invariant-loop-fact : goal.invariant-loop-fact
invariant-loop-fact l = AreOnlyIn (map fact_value (take l.fact-index l.facts)) (map fact_value l.others) l.only.items
