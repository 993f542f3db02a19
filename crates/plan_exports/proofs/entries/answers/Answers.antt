use Rattle.std.{proofs.Common.{rules, ◌<◌, ◌++◌, ◌∷◌, [], Some, map, slice_index, sym, ap, subst, ◌∙◌}, proofs.lemmas.List.{map-append}}
use Rattle.mctp_control.{specs.Devices.{DeviceValue, device_value}, specs.EntryLists.{values_of}}
use Rattle.mctp_bridge.specs.Readers.{handle_after}
use Rattle.plan_exports.{specs.TableAnswers.{IsAnswer}, proofs.Answering.{HasAnswered, left_of, next_due, more_answered}}
use Rattle.plan_exports.proofs.entries.answers.Goals as goal

pub loop-due-smaller : goal.loop-due-smaller
loop-due-smaller c =
    let table = values_of c.args.table.now in
    let is = c.handle_after-due.ensures ∙ ap (λ m. handle_after (slice_index m 4)) c.deref.ensures.0 in
    let next = next_due _ table c.requires.short c.in-Some.handle _ c.answer_to-message.ensures.answer c.handle_after-due.result is in
    subst (λ due. left_of table c.handle_after-due.result < left_of table due) (sym c.in-Some.is) next.0

pub loop-due-preserved : goal.loop-due-preserved
loop-due-preserved c =
    let kept = c.loop-due.invariant in
    let table = values_of c.args.table.now in
    let device = device_value c.args.bridge.now in
    let message = c.answer_to-message.result.items in
    let answer : IsAnswer device table c.in-Some.handle message = subst (λ (d : DeviceValue). IsAnswer d table c.in-Some.handle message) kept.0 c.answer_to-message.ensures.answer in
    let is = c.handle_after-due.ensures ∙ ap (λ m. handle_after (slice_index m 4)) c.deref.ensures.0 in
    let next = next_due device table c.requires.short c.in-Some.handle message answer c.handle_after-due.result is in
    let before = subst (λ due. HasAnswered device table due (map (λ m. m.items) c.loop-due.messages.items)) c.in-Some.is kept.2 in
    let more = more_answered device table c.in-Some.handle _ message before answer in
    let due_is = subst (λ due. HasAnswered device table due (map (λ m. m.items) c.loop-due.messages.items ++ message ∷ [])) (sym next.2) more in
    (c.answer_to-message.ensures.same ∙ kept.0, next.1, subst (λ ms. HasAnswered device table c.handle_after-due.result ms) (sym (ap (map (λ m. m.items)) (search rules) ∙ map-append (λ m. m.items) c.loop-due.messages.items (c.answer_to-message.result ∷ []))) due_is)
