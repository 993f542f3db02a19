-- A request for a part has one answer.
use Rattle.std.{proofs.Common.{◌≡◌, ◌≢◌, inl, inr, ℕ, ◌+◌, List, length, Option, Some, None, Ok, refl, ap, sym, ◌∙◌, subst, arith}, specs.Prelude.{MatchOption}, proofs.lemmas.Bool.{cases_lt}}
use Rattle.pldm_message.specs.Pdrs.{PartRequest, Part}
use Rattle.pdr_repository.{specs.Crc.{IsCrc}, specs.Records.{Entry, handle_at}, specs.Parts.{PartAnswer, AnswersFrom, IsPartOf, offset_of, OneAnswer}, proofs.Crcs.{one_crc}, proofs.Dues.{means_place, means_entry}}

same_part : (p q : Part) → p.next ≡ q.next → p.transfer ≡ q.transfer → p.flag ≡ q.flag → p.bytes ≡ q.bytes → p.crc ≡ q.crc → p ≡ q
same_part p q n t f b c = λ i. record { next = n i; transfer = t i; flag = f i; bytes = b i; crc = c i }

abbrev Checked : List ℕ → ℕ → Option ℕ → Type 0
Checked bytes flag crc = MatchOption crc (flag ≢ 4) (λ k. (flag ≡ 4) × IsCrc bytes k)

same_check : (bytes : List ℕ) (flag other : ℕ) (a b : Option ℕ) → flag ≡ other → Checked bytes flag a → Checked bytes other b → a ≡ b
same_check bytes flag other None None is h k = refl
same_check bytes flag other None (Some k) is h (four, _) = absurd (h (is ∙ four))
same_check bytes flag other (Some j) None is (four, _) k = absurd (k (sym is ∙ four))
same_check bytes flag other (Some j) (Some k) is (_, one) (_, two) = ap Some (one_crc bytes j k one two)

one_part : (next : ℕ) (bytes : List ℕ) (r : PartRequest) (p q : Part) → IsPartOf next bytes r p → IsPartOf next bytes r q → p ≡ q
one_part next bytes r p q a b =
    let taken : p.bytes ≡ q.bytes = a.taken ∙ sym b.taken in
    let long : length p.bytes ≡ length q.bytes = ap length taken in
    elim (cases_lt (offset_of r + length p.bytes) (length bytes)) [
      | inl more ↦
          let x = a.more more in
          let y = b.more (omega (arith, more, long)) in
          let flag : p.flag ≡ q.flag = x.0 ∙ sym y.0 in
          same_part p q (a.follows ∙ sym b.follows) (omega (arith, x.1, y.1, long)) flag taken (same_check bytes p.flag q.flag p.crc q.crc flag a.crc b.crc)
      | inr over ↦
          let x = a.last over in
          let y = b.last (omega (arith, over, long)) in
          let flag : p.flag ≡ q.flag = x.0 ∙ sym y.0 in
          same_part p q (a.follows ∙ sym b.follows) (x.1 ∙ sym y.1) flag taken (same_check bytes p.flag q.flag p.crc q.crc flag a.crc b.crc)
    ]

one_from : (next : ℕ) (bytes : List ℕ) (r : PartRequest) (a b : PartAnswer) → AnswersFrom next bytes r a → AnswersFrom next bytes r b → a ≡ b
one_from next bytes r a b (inl (_, is)) (inl (_, same)) = is ∙ sym same
one_from next bytes r a b (inl (other, _)) (inr (right, _)) = absurd (right other)
one_from next bytes r a b (inr (right, _)) (inl (other, _)) = absurd (right other)
one_from next bytes r a b (inr (_, inl (_, is))) (inr (_, inl (_, same))) = is ∙ sym same
one_from next bytes r a b (inr (_, inl (outside, _))) (inr (_, inr (right, _))) = absurd (right outside)
one_from next bytes r a b (inr (_, inr (right, _))) (inr (_, inl (outside, _))) = absurd (right outside)
one_from next bytes r a b (inr (_, inr (_, (p, is, x)))) (inr (_, inr (_, (q, same, y)))) = is ∙ ap Ok (one_part next bytes r p q x y) ∙ sym same

pub one_answer : OneAnswer
one_answer records r a b lawful (inl (_, is)) (inl (_, same)) = is ∙ sym same
one_answer records r a b lawful (inl (unknown, _)) (inr (known, _)) = absurd (known unknown)
one_answer records r a b lawful (inr (known, _)) (inl (unknown, _)) = absurd (known unknown)
one_answer records r a b lawful (inr (_, inl (_, is))) (inr (_, inl (_, same))) = is ∙ sym same
one_answer records r a b lawful (inr (_, inl (none, _))) (inr (_, inr (some, _))) = absurd (some none)
one_answer records r a b lawful (inr (_, inr (some, _))) (inr (_, inl (none, _))) = absurd (some none)
one_answer records r a b lawful (inr (_, inr (_, inl (_, is)))) (inr (_, inr (_, inl (_, same)))) = is ∙ sym same
one_answer records r a b lawful (inr (_, inr (_, inl (unmeant, _)))) (inr (_, inr (_, inr (meant, _)))) = absurd (meant unmeant)
one_answer records r a b lawful (inr (_, inr (_, inr (meant, _)))) (inr (_, inr (_, inl (unmeant, _)))) = absurd (meant unmeant)
one_answer records r a b lawful (inr (_, inr (_, inr (_, (i, e, one, x))))) (inr (_, inr (_, inr (_, (j, f, two, y))))) =
    let P : ℕ → Type 0 = λ n. AnswersFrom (handle_at records (n + 1)) f.bytes r b in
    let Q : Entry → Type 0 = λ g. AnswersFrom (handle_at records (i + 1)) g.bytes r b in
    one_from (handle_at records (i + 1)) e.bytes r a b x (subst Q (means_entry records lawful r.handle j i f e two one) (subst P (means_place records lawful r.handle j i f e two one) y))
