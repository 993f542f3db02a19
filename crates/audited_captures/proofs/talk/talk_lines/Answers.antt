use Rattle.std.{proofs.Common.{[], List, subst, sym, ap, ◌∙◌, map}, specs.Prelude.{Option}, proofs.lemmas.List.{map-append}}
use Rattle.audited_captures.{specs.Lines.{line_value}, specs.Talk.{Saying, AreLinesBy, AreTalkLines, Empty}, specs.Words.{word_value}, specs.declared.lines.Line.{Line}, proofs.TalkLaws.{next_talk}}
use Rattle.audited_captures.proofs.talk.talk_lines.Goals as goal

pub loop-i-init : goal.loop-i-init
loop-i-init c = subst (λ (ls : List Line). AreTalkLines c.args.plan.now [] (map line_value ls)) (sym c.new-lines.ensures.items) Empty

pub loop-i-preserved : goal.loop-i-preserved
loop-i-preserved c =
    let plan = c.args.plan.now in
    let item = c.index-words-i.result in
    let old = c.loop-i.lines.items in
    let more = c.in_ok-more.more.items in
    next_talk plan c.args.words.now c.loop-i.i item (map line_value old) (map line_value more) _ c.loop-i-test.true c.index-words-i.is c.loop-i.invariant
    (subst (λ (o : Option Saying). AreLinesBy plan (word_value item) o (map line_value more)) c.saying_of-saying.ensures c.in_ok-more.ensures)
    (ap (map line_value) c.in_ok-append.ensures.items ∙ map-append line_value old more)
