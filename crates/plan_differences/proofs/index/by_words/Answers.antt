use Rattle.std.{proofs.Common.{◌<◌, ◌∙◌, ap, length, arith}, proofs.lemmas.List.{take_all}}
use Rattle.plan_differences.{specs.DifferenceLines.{fact_text}, specs.Indexes.{of_words}, proofs.Indexes.{listed_more}}
use Rattle.plan_differences.proofs.index.by_words.Goals as goal

pub loop-fact-preserved : goal.loop-fact-preserved
loop-fact-preserved c = λ words.
    let facts = c.args.facts.now in
    let k = c.loop-fact.fact-index in
    let within : k < length facts = omega arith in
    listed_more fact_text facts k c.fact-item.result words _ _ _ within c.fact-item.is c.in_ok-fact_text.ensures (c.in_ok-note.ensures words) (c.loop-fact.invariant words)

pub returns : goal.returns
returns c = λ words. c.loop-fact.invariant words ∙ ap (λ xs. of_words fact_text xs words) (take_all c.loop-fact.fact-index c.args.facts.now (omega arith))
