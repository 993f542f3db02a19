use Rattle.std.{proofs.Common.{rules, ◌≡◌, ◌<◌, ◌≤◌, [], List, length, slice_index_or, subst, sym, ap, ◌∙◌, map}, proofs.lemmas.List.{map-append, take_all}}
use Rattle.audited_captures.{specs.Exchanges.{exchange_value}, specs.Lines.{line_value}, specs.Strangers.{AreStrangerLines, Empty}, specs.declared.exchanges.Exchange.{Exchange}, specs.declared.lines.Line.{Line}, proofs.StrangerLaws.{next_answer}}
use Rattle.audited_captures.proofs.strangers.stranger_lines.Goals as goal

pub loop-exchange-init : goal.loop-exchange-init
loop-exchange-init c = subst (λ (ls : List Line). AreStrangerLines c.args.plan.now [] (map line_value ls)) (sym c.new-lines.ensures.items) Empty

pub loop-exchange-preserved : goal.loop-exchange-preserved
loop-exchange-preserved c =
    let items = c.args.exchanges.now in
    let i = c.loop-exchange.exchange-index in
    let item = c.exchange-item.result in
    let within : i < length items = search rules in
    let is : item ≡ slice_index_or items i item = search rules in
    let old = c.loop-exchange.lines.items in
    let more = c.in_ok-more.more.items in
    next_answer c.args.plan.now items i item (map line_value old) (map line_value more) _ within is c.loop-exchange.invariant c.in_ok-more.ensures
    (ap (map line_value) c.in_ok-append.ensures.items ∙ map-append line_value old more)

pub returns : goal.returns
returns c =
    let items = c.args.exchanges.now in
    let i = c.loop-exchange.exchange-index in
    let past : length items ≤ i = search rules in
    subst (λ (xs : List Exchange). AreStrangerLines c.args.plan.now (map exchange_value xs) (map line_value c.loop-exchange.lines.items)) (take_all i items past) c.loop-exchange.invariant
