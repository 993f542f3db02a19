-- Each list of numbers has a check byte, and no other number is one.
use Rattle.std.{proofs.Common.{◌≡◌, ℕ, zero, suc, ◌*◌, ◌/◌, ◌%◌, ◌≤◌, List, [], ◌∷◌, ◌++◌, ap, ◌∙◌, subst, inl, inr, arith}, proofs.lemmas.Bool.{cases_lt}}
use Rattle.pdr_repository.{specs.Crc.{polynomial, IsCrc}, proofs.Crcs.{one_crc, polynomial_more}, proofs.SomeAnswers.{EachByte, some_crc}, proofs.AnswerBytes.{bytes_append}, proofs.Deciding.{OrNot, same_or_not}}

-- each number is the polynomial of some bytes
digits : (most n : ℕ) → n ≤ most → (bytes : List ℕ) × EachByte bytes × (polynomial bytes ≡ n)
digits zero n small = ([], tt, omega arith)
digits (suc most) n small = elim (cases_lt 0 n) [
  | inr none ↦ ([], tt, omega arith)
  | inl some ↦
      let rest = digits most (n / 256) (omega arith) in
      (rest.0 ++ n % 256 ∷ [], bytes_append rest.0 (n % 256 ∷ []) rest.1 (omega arith, tt), polynomial_more rest.0 (n % 256) ∙ omega (arith, rest.2))
]

same_crc : (xs ys : List ℕ) (crc : ℕ) → polynomial xs ≡ polynomial ys → IsCrc xs crc → IsCrc ys crc
unfolding IsCrc
same_crc xs ys crc same (q, sum, small) = (q, sum ∙ ap (λ n. 256 * n) same, small)

crc_there : (bytes : List ℕ) → (crc : ℕ) × IsCrc bytes crc
crc_there bytes =
    let d = digits (polynomial bytes) (polynomial bytes) (omega arith) in
    let c = some_crc d.0 d.1 in
    (c.0, same_crc d.0 bytes c.0 d.2 c.1)

pub crc_or_not : (bytes : List ℕ) (crc : ℕ) → OrNot (IsCrc bytes crc)
crc_or_not bytes crc =
    let c = crc_there bytes in
    let C : ℕ → Type 0 = IsCrc bytes in
    elim (same_or_not c.0 crc) [ inl same ↦ inl (subst C same c.1) | inr other ↦ inr (λ is. other (one_crc bytes c.0 crc c.1 is)) ]
