use Rattle.std.proofs.Common.{ℕ, ◌<◌, ◌≢◌, Some}
use Rattle.net_rules.specs.Names.{name_of}
use Rattle.command_answers.proofs.naming.first_named.Given as goal

abbrev pub invariant-loop-index : goal.invariant-loop-index
invariant-loop-index l = (n : ℕ) → n < l.index → name_of l.plan n ≢ Some l.name
