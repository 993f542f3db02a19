use Rattle.std.proofs.Common.{◌≡◌, ◌≤◌, ℕ, List, length, string_bytes, Result, Ok, Err, IfOk, ap, ◌∙◌}
use Rattle.net_tables.specs.Ranks.{rank}
use Rattle.plan_values.{specs.declared.plan.Plan.{Plan}, specs.declared.certificate.Certificate.{Certificate}}
use Rattle.net_questions.{specs.declared.step.WayStep.{WayStep}, specs.declared.way.End.{End}, specs.Ways.{IsWay}, proofs.Packets.{keeps_to_ways}}
use Rattle.net_rules.specs.Rules.{Accepts}
use Rattle.plan_commands.specs.Tracing.{IsWayText}
use Rattle.question_texts.specs.WayLines.{trace_text}
use Rattle.plan_commands.proofs.trace.way_text.Goals as goal

-- the lines of the way are its text
lines_of : {A E : Type 0} (text : A → List ℕ) (plan read : Plan) (certificate : Certificate) (n e : ℕ) (steps : List WayStep) (last : ℕ) (end : End) (result : Result A E)
    → Accepts plan certificate → IsWay plan e n steps last end → length steps ≤ rank certificate n e → read ≡ plan
    → IfOk result (λ lines. text lines ≡ trace_text read steps last end) → IfOk result (λ lines. IsWayText plan certificate n e (text lines))
lines_of text plan read certificate n e steps last end (Err error) accepted way within is written = tt
lines_of text plan read certificate n e steps last end (Ok lines) accepted way within is written = record {
  steps = steps;
  last = last;
  end = end;
  way = way;
  within = within;
  kept = keeps_to_ways plan certificate accepted;
  written = written ∙ ap (λ p. trace_text p steps last end) is;
}

pub returns : goal.returns
returns c =
    let checked = c.args.checked.now in
    let made = c.in_ok-way in
    lines_of (λ lines. string_bytes lines) checked.0 c.plan.result.now checked.1 c.args.from c.args.eid.value made.way.steps.items made.way.last made.way.end
    c.trace_lines.result c.plan.ensures.accepted made.ensures.way made.ensures.within c.plan.ensures.plan c.trace_lines.ensures
