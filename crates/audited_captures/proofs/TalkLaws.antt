-- Requests and answers that don't go together.
use Rattle.std.{proofs.Common.{◌≡◌, ◌⊎◌, ℕ, ◌<◌, ◌+◌, ◌==◌, ◌&&◌, Bool, true, false, List, [], ◌∷◌, ◌++◌, length, arith, refl, ap, sym, ◌∙◌, subst, inl, inr, map, take, get_or, append_assoc}, specs.Prelude.{Option, Some, None, Result, Ok, Err, IfOk, codes, if◌then◌else◌}}
use Rattle.plan_values.specs.declared.plan.Plan.{Plan}
use Rattle.heard_captures.{specs.Messages.{MessageValue, message_value}, specs.declared.messages.Message.{Message}}
use Rattle.audited_captures.{specs.Counting.{difference_count, has_compared}, specs.Exchanges.{concerns, last_that}, specs.Lines.{LineValue}, specs.Names.{IsNameOf}, specs.Talk.{IsSaidText, kind_words, receiver, sender, tagged_words, Saying, AskedAgain, AnsweredAgain, Unasked, saying_by, saying_of, AreLinesBy, AreTalkLines, Empty, More, HasEarlier, AreAllAsked, AreOwnerLinesOf, AreOwnerLines, Nothing, Also, AreAllOwned}, specs.Words.{WordValue, word_value, is_question, IsNotMisowned}, specs.declared.words.Word.{Word}, proofs.ExchangeLaws.{last_among, last_passing}, proofs.LineLaws.{Quiet, quiet_both, none_compared}, proofs.MatchLaws.{AllDiffer, all_both, zero_left, zero_right, zero_both}, proofs.PacketLaws.{among_left, among_right, among_split}, proofs.WordLaws.{mapped_more}}

-- ---- one word

abbrev pub unasked : Option Saying → Bool
unasked None = false
unasked (Some AskedAgain) = false
unasked (Some AnsweredAgain) = false
unasked (Some (Unasked earlier)) = true

module _ (before : List WordValue) (w : WordValue) where
  abbrev found : Option WordValue
  found = last_that (concerns w) before

  earlier_by : (asks : Bool) (o : Option WordValue) → asks ≡ false → found ≡ o → unasked (saying_by asks before w o) ≡ false → HasEarlier before w
  earlier_by true o question is told = absurd (cc)
  earlier_by false None answers is told = absurd (cc)
  earlier_by false (Some e) answers is told = (let there = last_among (concerns w) before e is in (e, there.0, there.1))

  -- an answer that isn't told as unasked has an earlier word
  pub has_earlier : is_question w.body ≡ false → unasked (saying_of before w) ≡ false → HasEarlier before w
  has_earlier answers told = earlier_by (is_question w.body) found answers refl told

  again : (b : Bool) → unasked (if b then Some AskedAgain else None) ≡ false
  again true = refl
  again false = refl

  once : (b : Bool) → unasked (if b then None else Some AnsweredAgain) ≡ false
  once true = refl
  once false = refl

  fine_by : (asks : Bool) (o : Option WordValue) → found ≡ o → (asks ≡ false → HasEarlier before w) → unasked (saying_by asks before w o) ≡ false
  fine_by true None is has = refl
  fine_by true (Some e) is has = again (is_question e.body && e.responder == w.responder)
  fine_by false None is has = (let e = has refl in absurd (last_passing (concerns w) before e.0 e.1 e.2 is))
  fine_by false (Some e) is has = once (is_question e.body)

  pub is_fine : (is_question w.body ≡ false → HasEarlier before w) → unasked (saying_of before w) ≡ false
  is_fine has = fine_by (is_question w.body) found refl has

module _ (plan : Plan) where
  zero_fine : (w : WordValue) (o : Option Saying) (ls : List LineValue) → AreLinesBy plan w o ls → difference_count ls ≡ 0 → unasked o ≡ false
  zero_fine w None ls are zero = refl
  zero_fine w (Some AskedAgain) ls are zero = refl
  zero_fine w (Some AnsweredAgain) ls are zero = refl
  zero_fine w (Some (Unasked e)) ls (why, is, (text, said, told)) zero =
      let one : difference_count ls ≡ 1 = ap difference_count told in
      absurd (omega (arith, one, zero))

  fine_zero : (w : WordValue) (o : Option Saying) (ls : List LineValue) → AreLinesBy plan w o ls → unasked o ≡ false → difference_count ls ≡ 0
  fine_zero w None ls are fine = ap difference_count are
  fine_zero w (Some AskedAgain) ls (why, is, (text, said, told)) fine = ap difference_count told
  fine_zero w (Some AnsweredAgain) ls (why, is, (text, said, told)) fine = ap difference_count told
  fine_zero w (Some (Unasked e)) ls are fine = absurd (cc)

  quiet_by : (w : WordValue) (o : Option Saying) (ls : List LineValue) → AreLinesBy plan w o ls → Quiet ls
  quiet_by w None ls are zero is = none_compared (sym (ap has_compared are) ∙ is)
  quiet_by w (Some AskedAgain) ls (why, told_why, (text, said, told)) zero is = (let silent : has_compared ls ≡ false = ap has_compared told in cc)
  quiet_by w (Some AnsweredAgain) ls (why, told_why, (text, said, told)) zero is = (let silent : has_compared ls ≡ false = ap has_compared told in cc)
  quiet_by w (Some (Unasked e)) ls (why, told_why, (text, said, told)) zero is =
      let one : difference_count ls ≡ 1 = ap difference_count told in
      omega (arith, one, zero)

  -- ---- all words

  -- the next word of a list
  pub next_talk : (items : List Word) (i : ℕ) (item : Word) (old more new : List LineValue) → i < length items → item ≡ get_or items i item
      → AreTalkLines plan (map word_value (take i items)) old → AreLinesBy plan (word_value item) (saying_of (map word_value (take i items)) (word_value item)) more → new ≡ old ++ more
      → AreTalkLines plan (map word_value (take (i + 1) items)) new
  next_talk items i item old more new within is are of_one joined =
      subst (λ ws. AreTalkLines plan ws new) (sym (mapped_more word_value items i item within is))
      (subst (λ ls. AreTalkLines plan (map word_value (take i items) ++ word_value item ∷ []) ls) (sym joined)
      (More (map word_value (take i items)) old (word_value item) more are of_one))

  pub talk_quiet : {ws : List WordValue} {ls : List LineValue} → AreTalkLines plan ws ls → Quiet ls
  talk_quiet Empty zero is = none_compared is
  talk_quiet (More ws ls w more are of_one) zero is = quiet_both ls more (talk_quiet are) (quiet_by w (saying_of ws w) more of_one) zero is

-- a list with one item more, cut at an item
cut_last : {A : Type 0} (xs before after : List A) (v w : A) → xs ++ v ∷ [] ≡ before ++ w ∷ after → ((xs ≡ before) × (v ≡ w)) ⊎ ((rest : List A) × (xs ≡ before ++ w ∷ rest))
cut_last [] [] after v w is = inl (refl, cc)
cut_last [] (b ∷ []) after v w is = absurd (cc)
cut_last [] (b ∷ c ∷ bs) after v w is = absurd (cc)
cut_last (x ∷ xs) [] after v w is = inr (xs, cc)
cut_last (x ∷ xs) (b ∷ bs) after v w is =
    let rest : xs ++ v ∷ [] ≡ bs ++ w ∷ after = cc in
    let first : x ≡ b = cc in
    elim (cut_last xs bs after v w rest) [
      | inl last ↦ inl (ap (λ ys. x ∷ ys) last.0 ∙ ap (λ y. y ∷ bs) first, last.1)
      | inr inside ↦ inr (inside.0, ap (λ ys. x ∷ ys) inside.1 ∙ ap (λ y. y ∷ (bs ++ w ∷ inside.0)) first)
    ]

no_cut : {A : Type 0} (before after : List A) (w : A) → [] ≡ before ++ w ∷ after → ⊥
no_cut [] after w is = cc
no_cut (b ∷ bs) after w is = cc

module _ (plan : Plan) where
  pub all_asked : {ws : List WordValue} {ls : List LineValue} → AreTalkLines plan ws ls → difference_count ls ≡ 0 → AreAllAsked ws
  all_asked Empty zero before after w is answers = absurd (no_cut before after w is)
  all_asked (More ws ls v more are of_one) zero before after w is answers = elim (cut_last ws before after v w is) [
    | inl last ↦ (
        let here = has_earlier ws v (ap (λ (x : WordValue). is_question x.body) last.1 ∙ answers) (zero_fine plan v (saying_of ws v) more of_one (zero_right ls more zero)) in
        subst (λ (x : WordValue). HasEarlier before x) last.1 (subst (λ (xs : List WordValue). HasEarlier xs v) last.0 here))
    | inr inside ↦ all_asked are (zero_left ls more zero) before inside.0 w inside.1 answers
  ]

  pub none_unasked : {ws : List WordValue} {ls : List LineValue} → AreTalkLines plan ws ls → AreAllAsked ws → difference_count ls ≡ 0
  none_unasked Empty asked = refl
  none_unasked (More ws ls v more are of_one) asked =
      zero_both ls more
      (none_unasked are (λ before after w is. asked before (after ++ v ∷ []) w (ap (λ xs. xs ++ v ∷ []) is ∙ append_assoc before (w ∷ after) (v ∷ []))))
      (fine_zero plan v (saying_of ws v) more of_one (is_fine ws v (asked ws [] v refl)))

  -- ---- who owns the tag

  -- the next message of a list
  pub next_owner : (items : List Message) (i : ℕ) (item : Message) (old more new : List LineValue) → i < length items → item ≡ get_or items i item
      → AreOwnerLines plan (map message_value (take i items)) old → AreOwnerLinesOf plan (message_value item) more → new ≡ old ++ more
      → AreOwnerLines plan (map message_value (take (i + 1) items)) new
  next_owner items i item old more new within is are of_one joined =
      subst (λ ms. AreOwnerLines plan ms new) (sym (mapped_more message_value items i item within is))
      (subst (λ ls. AreOwnerLines plan (map message_value (take i items) ++ message_value item ∷ []) ls) (sym joined)
      (Also (map message_value (take i items)) old (message_value item) more are of_one))

  one_owned : (m : MessageValue) (ls : List LineValue) → AreOwnerLinesOf plan m ls → difference_count ls ≡ 0 → IsNotMisowned m
  one_owned m ls (inl (none, told)) zero = none
  one_owned m ls (inr (w, is, (text, said, told))) zero =
      let one : difference_count ls ≡ 1 = ap difference_count told in
      absurd (omega (arith, one, zero))

  owned_zero : (m : MessageValue) (ls : List LineValue) → AreOwnerLinesOf plan m ls → IsNotMisowned m → difference_count ls ≡ 0
  owned_zero m ls (inl (none, told)) owned = ap difference_count told
  owned_zero m ls (inr (w, is, said)) owned = absurd (owned w is)

  one_differs : (m : MessageValue) (ls : List LineValue) → AreOwnerLinesOf plan m ls → AllDiffer ls
  one_differs m ls (inl (none, told)) = subst AllDiffer (sym told) refl
  one_differs m ls (inr (w, is, (text, said, told))) = subst AllDiffer (sym told) refl

  pub all_owned : {ms : List MessageValue} {ls : List LineValue} → AreOwnerLines plan ms ls → difference_count ls ≡ 0 → AreAllOwned ms
  all_owned Nothing zero m among = absurd among
  all_owned (Also ms ls n more are of_one) zero m among = elim (among_split m ms (n ∷ []) among) [
    | inl before ↦ all_owned are (zero_left ls more zero) m before
    | inr last ↦ elim last [
      | inl same ↦ subst (λ x. IsNotMisowned x) same (one_owned n more of_one (zero_right ls more zero))
      | inr none ↦ absurd none
    ]
  ]

  pub none_misowned : {ms : List MessageValue} {ls : List LineValue} → AreOwnerLines plan ms ls → AreAllOwned ms → difference_count ls ≡ 0
  none_misowned Nothing owned = refl
  none_misowned (Also ms ls n more are of_one) owned =
      zero_both ls more (none_misowned are (λ m among. owned m (among_left m ms (n ∷ []) among)))
      (owned_zero n more of_one (owned n (among_right n ms (n ∷ []) (inl refl))))

  pub owners_differ : {ms : List MessageValue} {ls : List LineValue} → AreOwnerLines plan ms ls → AllDiffer ls
  owners_differ Nothing = refl
  owners_differ (Also ms ls n more are of_one) = all_both ls more (owners_differ are) (one_differs n more of_one)

-- the text of a word's line, from its parts
pub said_so : {T E : Type 0} (bytes_of : T → List ℕ) (plan : Plan) (w : WordValue) (why from to tagged kind : List ℕ) (result : Result T E) → IsNameOf plan (sender w) from
    → IsNameOf plan (receiver w) to → tagged ≡ tagged_words to w → kind ≡ kind_words (is_question w.body)
    → IfOk result (λ t. bytes_of t ≡ kind ++ (codes " from " ++ (from ++ (codes " to " ++ (tagged ++ (codes ": " ++ why)))))) → IfOk result (λ t. IsSaidText plan w why (bytes_of t))
said_so bytes_of plan w why from to tagged kind (Ok t) from_named to_named is_tagged is_kind is = record {
  from = from;
  to = to;
  from_named = from_named;
  to_named = to_named;
  told = is ∙ ap (λ k. k ++ (codes " from " ++ (from ++ (codes " to " ++ (tagged ++ (codes ": " ++ why)))))) is_kind
      ∙ ap (λ words. kind_words (is_question w.body) ++ (codes " from " ++ (from ++ (codes " to " ++ (words ++ (codes ": " ++ why)))))) is_tagged;
}
said_so bytes_of plan w why from to tagged kind (Err e) from_named to_named is_tagged is_kind is = tt
