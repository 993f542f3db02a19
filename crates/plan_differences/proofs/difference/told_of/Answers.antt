use Rattle.std.proofs.Common.{◌≡◌, ◌<◌, ◌++◌, ◌∙◌, length, ap, arith, rules}
use Rattle.plan_differences.{specs.Differences.{alike, of_fact}, specs.DifferenceLines.{thing_text}, specs.Facts.{fact_value}, specs.Indexes.{of_words}, proofs.Telling.{told_more}}
use Rattle.plan_differences.proofs.difference.told_of.Goals as goal

pub loop-fact-preserved : goal.loop-fact-preserved
loop-fact-preserved c =
    let facts = c.args.facts.now in
    let others = c.args.others.now in
    let k = c.loop-fact.fact-index in
    let f = c.fact-item.result in
    let within : k < length facts = omega arith in
    let words = c.deref.result.now in
    let own : words ≡ thing_text (fact_value f) = search rules in
    let its : c.in_ok-alike.alike.items ≡ alike others f = c.in_ok-alike.ensures ∙ (c.in_ok-index.ensures words ∙ ap (of_words thing_text others) own) in
    let same : c.deref-in-loop-fact.result.now ≡ c.in_ok-alike.alike.items = search rules in
    let grown : c.extend_from_slice.new.self.items ≡ c.loop-fact.told.items ++ c.in_ok-of_fact.field-0.items = search rules in
    grown ∙ told_more c.args.side facts others k f c.loop-fact.told.items c.in_ok-of_fact.field-0.items within c.fact-item.is (c.in_ok-of_fact.ensures ∙ ap (of_fact c.args.side f) (same ∙ its)) c.loop-fact.invariant
