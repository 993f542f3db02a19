use Rattle.std.proofs.Common.{ℕ, List, Some, sym, subst}
use Rattle.plan_fixes.{specs.Fixes.{AreFixes, LeadsOn}, proofs.Led.{led_on}}
use Rattle.plan_fixes.proofs.fixing.fix.Goals as goal

pub loop-init : goal.loop-init
loop-init c =
    let text = c.args.text.items in
    let plan = c.args.plan in
    record {
      edits = subst (λ (lines : List ℕ). AreFixes text plan lines text plan) (sym c.new-lines.ensures.bytes) AreFixes.none;
      reads = c.requires;
    }

pub loop-preserved : goal.loop-preserved
loop-preserved c =
    let more : LeadsOn c.loop.draft c.in-Some.next = rw c.in-Some.is at c.in_ok-next.ensures in
    led_on c.args.text.items c.args.plan c.loop.draft c.in-Some.next c.loop.invariant more
