-- A terminus has one answer to a message.
use Rattle.std.proofs.Common.{◌≡◌, ◌≢◌, ◌⊎◌, ℕ, false, List, ◌++◌, length, drop, Option, Some, refl, sym, ap, ◌∙◌, subst, inl, inr, arith}
use Rattle.pldm_message.{specs.declared.command.Command.{Command}, specs.declared.command.Command.TheVariants.{SetTid, GetTid, GetPldmTypes, GetPdr}, specs.declared.kind.MessageKind.TheVariants.{Request}, specs.Headers.{HeaderValue, header_bytes}, specs.HeaderLaws.{one_header}, specs.Messages.{RequestMessage, outcome_bytes}, specs.Pdrs.{PartRequest, IsPartRequest, part_request_bytes, part_bytes, get_pdr_request_bytes}, specs.PdrLaws.{one_get_pdr_request}}
use Rattle.pdr_repository.{specs.Records.{Entry, IsLawful}, specs.Parts.{PartAnswer, AnswersPart}, specs.Answers.{IsOf, request_length, AnswersCode, AnswersData, AnswersCommand, Answers, reply_header}, specs.Walkers.{asked_under}, proofs.OneAnswers.{one_answer}}

one_command : (c d : Command) (h : HeaderValue) → IsOf c h → IsOf d h → c ≡ d
one_command SetTid SetTid h x y = refl
one_command SetTid GetTid h x y = absurd (omega (arith, x.1, y.1))
one_command SetTid GetPldmTypes h x y = absurd (omega (arith, x.1, y.1))
one_command SetTid GetPdr h x y = absurd (omega (arith, x.1, y.1))
one_command GetTid SetTid h x y = absurd (omega (arith, x.1, y.1))
one_command GetTid GetTid h x y = refl
one_command GetTid GetPldmTypes h x y = absurd (omega (arith, x.1, y.1))
one_command GetTid GetPdr h x y = absurd (omega (arith, x.1, y.1))
one_command GetPldmTypes SetTid h x y = absurd (omega (arith, x.1, y.1))
one_command GetPldmTypes GetTid h x y = absurd (omega (arith, x.1, y.1))
one_command GetPldmTypes GetPldmTypes h x y = refl
one_command GetPldmTypes GetPdr h x y = absurd (omega (arith, x.1, y.1))
one_command GetPdr SetTid h x y = absurd (omega (arith, x.1, y.1))
one_command GetPdr GetTid h x y = absurd (omega (arith, x.1, y.1))
one_command GetPdr GetPldmTypes h x y = absurd (omega (arith, x.1, y.1))
one_command GetPdr GetPdr h x y = refl

one_request : (r s : PartRequest) → IsPartRequest r → IsPartRequest s → part_request_bytes r ≡ part_request_bytes s → r ≡ s
one_request r s known known' same =
    let bytes : get_pdr_request_bytes (asked_under 0 r) ≡ get_pdr_request_bytes (asked_under 0 s) = ap (λ xs. header_bytes (record { kind = Request; reserved = false; instance = 0; pldm_type = 2; command = 0x51 }) ++ xs) same in
    let asked : asked_under 0 r ≡ asked_under 0 s = one_get_pdr_request (asked_under 0 r) (asked_under 0 s) (omega arith, known) (omega arith, known') bytes in
    ap (λ (m : RequestMessage PartRequest). m.body) asked

module _ (tid : ℕ) (records : List Entry) (lawful : IsLawful records) where
  one_data : (c : Command) (asked reply other : List ℕ) (next next' : ℕ) → AnswersData c tid records asked reply next → AnswersData c tid records asked other next' → (reply ≡ other) × (next ≡ next')
  one_data SetTid asked reply other next next' (a, is, inl (_, x)) (b, is', inl (_, y)) = (x.0 ∙ sym y.0, x.1 ∙ sym y.1)
  one_data SetTid asked reply other next next' (a, is, inl (not, x)) (b, is', inr (may, y)) = (let same : a ≡ b = (let e = sym is ∙ is' in cc) in absurd (may (rw (← same) not)))
  one_data SetTid asked reply other next next' (a, is, inr (may, x)) (b, is', inl (not, y)) = (let same : a ≡ b = (let e = sym is ∙ is' in cc) in absurd (may (rw same not)))
  one_data SetTid asked reply other next next' (a, is, inr (_, x)) (b, is', inr (_, y)) = (let same : a ≡ b = (let e = sym is ∙ is' in cc) in (x.0 ∙ sym y.0, x.1 ∙ (same ∙ sym y.1)))
  one_data GetTid asked reply other next next' x y = (x.0 ∙ sym y.0, x.1 ∙ sym y.1)
  one_data GetPldmTypes asked reply other next next' x y = (x.0 ∙ sym y.0, x.1 ∙ sym y.1)
  one_data GetPdr asked reply other next next' (r, a, known, is, answers, replies, stays) (s, b, known', is', answers', replies', stays') =
      let request : r ≡ s = one_request r s known known' (sym is ∙ is') in
      let P : PartRequest → Type 0 = λ q. AnswersPart records q a in
      let same : a ≡ b = one_answer records s a b lawful (subst P request answers) answers' in
      (replies ∙ (ap (λ (x : PartAnswer). outcome_bytes part_bytes x) same ∙ sym replies'), stays ∙ sym stays')

  one_reply : (h : HeaderValue) (asked reply other : List ℕ) (next next' : ℕ) → AnswersCommand h tid records asked reply next → AnswersCommand h tid records asked other next' → (reply ≡ other) × (next ≡ next')
  one_reply h asked reply other next next' (inl (_, x)) (inl (_, y)) = (x.0 ∙ sym y.0, x.1 ∙ sym y.1)
  one_reply h asked reply other next next' (inl (unknown, _)) (inr (known, _)) = absurd (known unknown)
  one_reply h asked reply other next next' (inr (known, _)) (inl (unknown, _)) = absurd (known unknown)
  one_reply h asked reply other next next' (inr (_, inl (_, x))) (inr (_, inl (_, y))) = (x.0 ∙ sym y.0, x.1 ∙ sym y.1)
  one_reply h asked reply other next next' (inr (_, inl (none, _))) (inr (_, inr (some, _))) = absurd (some none)
  one_reply h asked reply other next next' (inr (_, inr (some, _))) (inr (_, inl (none, _))) = absurd (some none)
  one_reply h asked reply other next next' (inr (_, inr (_, (c, of, x)))) (inr (_, inr (_, (d, of', y)))) =
      let same : d ≡ c = one_command d c h of' of in
      by_length c x (rest d c same y)
    where
      Rest : Command → List ℕ → ℕ → Type 0
      Rest c reply next = ((length asked ≢ request_length c) × AnswersCode 0x03 tid reply next) ⊎ (¬ (length asked ≢ request_length c) × AnswersData c tid records asked reply next)

      rest : (d c : Command) → d ≡ c → Rest d other next' → Rest c other next'
      rest d c same y = let P : Command → Type 0 = λ k. Rest k other next' in subst P same y

      by_length : (c : Command) → Rest c reply next → Rest c other next' → (reply ≡ other) × (next ≡ next')
      by_length c (inl (_, x)) (inl (_, y)) = (x.0 ∙ sym y.0, x.1 ∙ sym y.1)
      by_length c (inl (long, _)) (inr (fits, _)) = absurd (fits long)
      by_length c (inr (fits, _)) (inl (long, _)) = absurd (fits long)
      by_length c (inr (_, x)) (inr (_, y)) = one_data c asked reply other next next' x y

  pub one_answering : (request : List ℕ) (a b : Option (List ℕ)) (next next' : ℕ) → Answers tid records request a next → Answers tid records request b next' → (a ≡ b) × (next ≡ next')
  one_answering request a b next next' (inl (_, x)) (inl (_, y)) = (x.0 ∙ sym y.0, x.1 ∙ sym y.1)
  one_answering request a b next next' (inl (not, _)) (inr (asked, _)) = absurd (asked not)
  one_answering request a b next next' (inr (asked, _)) (inl (not, _)) = absurd (asked not)
  one_answering request a b next next' (inr (_, (h, reply, begins, is, x))) (inr (_, (g, other, begins', is', y))) =
      let same : g ≡ h = one_header g h begins'.0 begins.0 (sym begins'.1 ∙ begins.1) in
      let P : HeaderValue → Type 0 = λ k. AnswersCommand k tid records (drop 4 request) other next' in
      let Q : HeaderValue → Type 0 = λ k. b ≡ Some (header_bytes (reply_header k) ++ other) in
      let replies = one_reply h (drop 4 request) reply other next next' x (subst P same y) in
      (is ∙ (ap (λ xs. Some (header_bytes (reply_header h) ++ xs)) replies.0 ∙ sym (subst Q same is')), replies.1)
