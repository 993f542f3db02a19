use Rattle.std.proofs.Common.{◌≡◌, ◌⊎◌, ℕ, ◌<◌, ◌≤◌}
use Rattle.net_rules.specs.MovingAlike.{MovesAlike, IsCut}
use Rattle.net_rules.proofs.certifying.stretches.stretch_from.Given as goal

abbrev pub invariant-loop-node : goal.invariant-loop-node
invariant-loop-node l = record {
  ordered : l.first.value ≤ l.last.value;
  within : l.last.value ≤ 254;
  alike : (n : ℕ) → n < l.node → MovesAlike l.plan l.first.value l.last.value n;
  ends : (l.last.value ≡ 254) ⊎ IsCut l.plan l.tables l.last.value;
}
