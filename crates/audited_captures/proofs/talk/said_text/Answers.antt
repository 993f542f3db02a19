use Rattle.std.{proofs.Common.{rules, ◌≡◌, ◌∙◌, ◌++◌, List, ℕ, ap, subst, string_bytes}, specs.Prelude.{IfOk, codes}}
use Rattle.audited_captures.{specs.Names.{IsNameOf}, specs.Talk.{tagged_words}, specs.Words.{word_value}, proofs.TalkLaws.{said_so}}
use Rattle.audited_captures.proofs.talk.said_text.Goals as goal

pub returns : goal.returns
returns c =
    let plan = c.args.plan.now in
    let w = word_value c.args.word.now in
    let why = c.args.why.now in
    let from = string_bytes c.in_ok-from.from in
    let to = string_bytes c.in_ok-to.to in
    let tagged = string_bytes c.in_ok-tagged.tagged in
    let kind = c.kind_words-kind.result.now in
    let from_named = subst (λ (e : ℕ). IsNameOf plan e from) c.sender.ensures c.in_ok-from.ensures in
    let to_named = subst (λ (e : ℕ). IsNameOf plan e to) c.receiver.ensures c.in_ok-to.ensures in
    let is_tagged : tagged ≡ tagged_words to w = c.in_ok-tagged.ensures ∙ ap (λ (n : List ℕ). tagged_words n w) c.deref.ensures in
    let is : IfOk c.format.result (λ text. string_bytes text ≡ kind ++ (codes " from " ++ (from ++ (codes " to " ++ (tagged ++ (codes ": " ++ why)))))) = search rules in
    said_so string_bytes plan w why from to tagged kind c.format.result from_named to_named is_tagged c.kind_words-kind.ensures is
