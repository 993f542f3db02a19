use Rattle.plan_fixes.specs.Fixes.{IsDraftOf}
use Rattle.plan_fixes.proofs.fixing.fix.Given as goal

abbrev pub invariant-loop : goal.invariant-loop
invariant-loop l = IsDraftOf l.fn.text.items l.fn.plan l.draft
