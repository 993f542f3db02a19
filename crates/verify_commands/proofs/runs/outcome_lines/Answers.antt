use Rattle.std.{proofs.Common.{◌∙◌, ◌++◌, map, ap, arith}, proofs.lemmas.List.{length-map, take_all}}
use Rattle.net_sim.specs.Outcomes.{outcome_value}
use Rattle.run_texts.specs.OutcomeLines.{outcome_lines}
use Rattle.verify_commands.proofs.Played.{all_lines}
use Rattle.verify_commands.proofs.runs.outcome_lines.Goals as goal

pub loop-index-preserved : goal.loop-index-preserved
loop-index-preserved c =
    c.in_ok-push_str.ensures.bytes
    ∙ (ap (λ z. z ++ c.deref.result.now) c.loop-index.invariant
    ∙ all_lines c.args.plan.now c.args.outcomes.now c.loop-index.index c.index-outcomes-index.result c.loop-index-test.true c.index-outcomes-index.is
    c.deref.result.now (c.deref.ensures ∙ c.in_ok-outcome_line.ensures))

pub returns : goal.returns
returns c =
    let all = map outcome_value c.args.outcomes.now in
    c.loop-index.invariant
    ∙ ap (outcome_lines c.args.plan.now) (take_all c.loop-index.index all (omega (arith, c.loop-index-test.false, length-map c.args.outcomes.now outcome_value)))
