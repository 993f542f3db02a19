-- Drafts, one after the other.
use Rattle.std.proofs.Common.{ℕ, List, sym, subst}
use Rattle.plan_values.specs.declared.plan.Plan.{Plan}
use Rattle.plan_fixes.{specs.Fixes.{AreFixes, IsDraftOf, LeadsOn}, specs.declared.fixing.Draft.{Draft}}

-- one more edit
pub led_on : (text : List ℕ) (plan : Plan) (last next : Draft) → IsDraftOf text plan last → LeadsOn last next → IsDraftOf text plan next
led_on text plan last next led (tried, made, fix) = record {
  edits = subst (λ lines. AreFixes text plan lines next.text.items next.plan) (sym made.told) (AreFixes.more tried led.edits fix made.spliced made.reads);
  reads = made.reads;
}
