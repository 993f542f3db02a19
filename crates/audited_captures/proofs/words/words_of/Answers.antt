use Rattle.std.proofs.Common.{rules, ◌≡◌, ◌<◌, [], List, length, slice_index_or, subst, sym, map}
use Rattle.audited_captures.{specs.Words.{word_value, AreWords, None}, specs.declared.words.Word.{Word}, proofs.WordLaws.{next_word}}
use Rattle.audited_captures.proofs.words.words_of.Goals as goal

pub loop-message-init : goal.loop-message-init
loop-message-init c = subst (λ (words : List Word). AreWords [] (map word_value words)) (sym c.new-words.ensures.items) None

pub loop-message-preserved : goal.loop-message-preserved
loop-message-preserved c =
    let items = c.args.messages.now in
    let i = c.loop-message.message-index in
    let item = c.message-item.result in
    let within : i < length items = search rules in
    let is : item ≡ slice_index_or items i item = search rules in
    next_word items i item _ _ within is c.loop-message.invariant c.in_ok-add_word.ensures
