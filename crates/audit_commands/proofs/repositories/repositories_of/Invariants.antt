use Rattle.audited_captures.{specs.Audits.{AreRepositories}, specs.Repositories.{repository_values}}
use Rattle.audit_commands.proofs.repositories.repositories_of.Given as goal

abbrev pub invariant-loop-node : goal.invariant-loop-node
invariant-loop-node l = AreRepositories l.checked.0 l.checked.1 l.node (repository_values l.repositories.items)
