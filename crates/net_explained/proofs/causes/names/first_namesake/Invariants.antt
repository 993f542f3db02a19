use Rattle.std.proofs.Common.{ℕ, ◌<◌}
use Rattle.net_rules.specs.Names.{HaveOneName}
use Rattle.net_explained.proofs.causes.names.first_namesake.Given as goal

abbrev pub invariant-loop-earlier : goal.invariant-loop-earlier
invariant-loop-earlier l = (k : ℕ) → k < l.earlier → ¬ HaveOneName l.plan k l.node
