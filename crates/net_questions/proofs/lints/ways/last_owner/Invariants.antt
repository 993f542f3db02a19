use Rattle.net_rules.specs.Moves.{Leads}
use Rattle.net_tables.specs.Ownership.{IsOwnedBy}
use Rattle.net_questions.proofs.lints.ways.last_owner.Given as goal

abbrev pub invariant-loop-owners : goal.invariant-loop-owners
invariant-loop-owners l = Leads (IsOwnedBy l.plan) l.node l._owners l.last
