-- Facts that hold or don't.
use Rattle.std.{proofs.Common.{◌≡◌, ◌⊎◌, ℕ, ◌<◌, ◌≤◌, List, [], ◌∷◌, Option, Some, None, refl, inl, inr, arith}, specs.Prelude.{IsSomeAnd}, proofs.lemmas.Bool.{cases_lt, cases_order}}

abbrev pub OrNot : Type 0 → Type 0
OrNot P = P ⊎ ¬ P

pub both_or_not : (P Q : Type 0) → OrNot P → OrNot Q → OrNot (P × Q)
both_or_not P Q (inl p) (inl q) = inl (p, q)
both_or_not P Q (inl p) (inr q) = inr (λ h. q h.1)
both_or_not P Q (inr p) q = inr (λ h. p h.0)

pub either_or_not : (P Q : Type 0) → OrNot P → OrNot Q → OrNot (P ⊎ Q)
either_or_not P Q (inl p) q = inl (inl p)
either_or_not P Q (inr p) (inl q) = inl (inr q)
either_or_not P Q (inr p) (inr q) = inr (λ h. elim h [ inl x ↦ p x | inr y ↦ q y ])

pub implied_or_not : (P Q : Type 0) → OrNot P → OrNot Q → OrNot (P → Q)
implied_or_not P Q p (inl q) = inl (λ _. q)
implied_or_not P Q (inl p) (inr q) = inr (λ f. q (f p))
implied_or_not P Q (inr p) (inr q) = inl (λ x. absurd (p x))

pub not_or_not : (P : Type 0) → OrNot P → OrNot (¬ P)
not_or_not P (inl p) = inr (λ not. not p)
not_or_not P (inr p) = inl p

pub same_or_not : (m n : ℕ) → OrNot (m ≡ n)
same_or_not m n = elim (cases_order m n) [
  | inl same ↦ inl same
  | inr different ↦ inr (λ same. elim different [ inl less ↦ omega arith | inr more ↦ omega arith ])
]

pub less_or_not : (m n : ℕ) → OrNot (m < n)
less_or_not m n = elim (cases_lt m n) [ inl less ↦ inl less | inr more ↦ inr (λ h. omega arith) ]

pub at_most_or_not : (m n : ℕ) → OrNot (m ≤ n)
at_most_or_not m n = elim (cases_lt n m) [ inl more ↦ inr (λ h. omega arith) | inr less ↦ inl (omega arith) ]

pub some_and_or_not : {A : Type 0} (o : Option A) (P : A → Type 0) → ((a : A) → OrNot (P a)) → OrNot (IsSomeAnd o P)
some_and_or_not None P test = inr (λ h. absurd h)
some_and_or_not (Some a) P test = test a

pub none_or_not : {A : Type 0} (o : Option A) → OrNot (o ≡ None)
none_or_not None = inl refl
none_or_not (Some a) = inr (λ e. cc)

pub empty_or_not : {A : Type 0} (xs : List A) → OrNot (xs ≡ [])
empty_or_not [] = inl refl
empty_or_not (x ∷ xs) = inr (λ e. cc)
