use Rattle.std.proofs.Common.{◌≡◌, ℕ, ◌≤◌, ◌+◌, Some}
use Rattle.net_rules.specs.FaultLists.{DemandsOf}
use Rattle.net_rules.proofs.all_faults.site.Site.last_broken.Given as goal

abbrev pub invariant-loop-number : goal.invariant-loop-number
invariant-loop-number l = record {
  next : l.last.value + 1 ≡ l.number;
  after : l.fn.first.value ≤ l.last.value;
  broken : (e : ℕ) → l.fn.first.value ≤ e → e ≤ l.last.value → ¬ DemandsOf l.self.judge.now.plan.now l.self.judge.now.ranks l.self.rule l.self.node l.self.entry (Some e);
}
