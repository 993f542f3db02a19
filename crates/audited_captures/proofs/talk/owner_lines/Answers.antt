use Rattle.std.{proofs.Common.{rules, ◌≡◌, ◌<◌, ◌≤◌, [], List, length, slice_index_or, subst, sym, ap, ◌∙◌, map}, proofs.lemmas.List.{map-append, take_all}}
use Rattle.heard_captures.{specs.Messages.{message_value}, specs.declared.messages.Message.{Message}}
use Rattle.audited_captures.{specs.Lines.{line_value}, specs.Talk.{AreOwnerLines, Nothing}, specs.declared.lines.Line.{Line}, proofs.TalkLaws.{next_owner}}
use Rattle.audited_captures.proofs.talk.owner_lines.Goals as goal

pub loop-message-init : goal.loop-message-init
loop-message-init c = subst (λ (ls : List Line). AreOwnerLines c.args.plan.now [] (map line_value ls)) (sym c.new-lines.ensures.items) Nothing

pub loop-message-preserved : goal.loop-message-preserved
loop-message-preserved c =
    let items = c.args.messages.now in
    let i = c.loop-message.message-index in
    let item = c.message-item.result in
    let within : i < length items = search rules in
    let is : item ≡ slice_index_or items i item = search rules in
    let old = c.loop-message.lines.items in
    let more = c.in_ok-more.more.items in
    next_owner c.args.plan.now items i item (map line_value old) (map line_value more) _ within is c.loop-message.invariant c.in_ok-more.ensures
    (ap (map line_value) c.in_ok-append.ensures.items ∙ map-append line_value old more)

pub returns : goal.returns
returns c =
    let items = c.args.messages.now in
    let i = c.loop-message.message-index in
    let past : length items ≤ i = search rules in
    subst (λ (ms : List Message). AreOwnerLines c.args.plan.now (map message_value ms) (map line_value c.loop-message.lines.items)) (take_all i items past) c.loop-message.invariant
