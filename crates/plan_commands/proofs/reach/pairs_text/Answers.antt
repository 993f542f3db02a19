use Rattle.std.proofs.Common.{◌≡◌, ℕ, List, string_bytes, Result, Ok, Err, IfOk, ap, ◌∙◌}
use Rattle.plan_values.{specs.declared.plan.Plan.{Plan}, specs.declared.certificate.Certificate.{Certificate}}
use Rattle.net_questions.{specs.declared.pair.Pair.{Pair}, specs.Reaching.{ArePairs}, proofs.Packets.{keeps_to_ways}, proofs.WayLaws.{ways_reach}}
use Rattle.net_rules.specs.Rules.{Accepts}
use Rattle.plan_commands.specs.Reaching.{IsReachText}
use Rattle.question_texts.specs.PairLines.{reach_text}
use Rattle.plan_commands.proofs.reach.pairs_text.Goals as goal

-- the lines of the plan's pairs are its text
lines_of : {A E : Type 0} (text : A → List ℕ) (plan read : Plan) (certificate : Certificate) (pairs : List Pair) (result : Result A E)
    → Accepts plan certificate → ArePairs plan certificate pairs → read ≡ plan
    → IfOk result (λ lines. text lines ≡ reach_text read pairs) → IfOk result (λ lines. IsReachText plan certificate (text lines))
lines_of text plan read certificate pairs (Err error) accepted asked is written = tt
lines_of text plan read certificate pairs (Ok lines) accepted asked is written = record {
  pairs = pairs;
  asked = asked;
  arriving = λ e n moves. ways_reach plan certificate e n moves accepted;
  kept = keeps_to_ways plan certificate accepted;
  written = written ∙ ap (λ p. reach_text p pairs) is;
}

pub returns : goal.returns
returns c =
    let checked = c.args.checked.now in
    let made = c.in_ok-pairs in
    let lines = rw c.deref.ensures.value at c.reach_lines.ensures in
    lines_of (λ lines. string_bytes lines) checked.0 c.plan.result.now checked.1 made.pairs.items c.reach_lines.result c.plan.ensures.accepted made.ensures c.plan.ensures.plan lines
