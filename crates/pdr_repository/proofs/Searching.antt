-- Searches among the numbers below a bound, and among those that have a least.
use Rattle.std.{proofs.Common.{◌≡◌, ◌⊎◌, ℕ, zero, suc, ◌<◌, ◌≤◌, List, [], ◌∷◌, ap, subst, inl, inr, arith}, specs.Prelude.{All}, specs.List.{AllByRecursion}, proofs.lemmas.Bool.{cases_lt, cases_order}, proofs.lemmas.List.Elements.{All-from_recursion, recursion_from_All}}
use Rattle.pdr_repository.proofs.Deciding.{OrNot, both_or_not}

-- one of the numbers below the bound is such, or each is otherwise
pub search_below : (P Q : ℕ → Type 0) → ((n : ℕ) → P n ⊎ Q n) → (bound : ℕ) → ((n : ℕ) × (n < bound) × P n) ⊎ ((n : ℕ) → n < bound → Q n)
search_below P Q test zero = inr (λ n small. absurd (omega arith))
search_below P Q test (suc bound) = elim (search_below P Q test bound) [
  | inl (n, small, is) ↦ inl (n, omega arith, is)
  | inr others ↦ elim (test bound) [
    | inl is ↦ inl (bound, omega arith, is)
    | inr last ↦ inr (λ n small. elim (cases_order n bound) [
      | inl same ↦ subst Q (back n bound same) last
      | inr (inl below) ↦ others n below
      | inr (inr above) ↦ absurd (omega arith)
    ])
  ]
]
  where
    back : (n bound : ℕ) → n ≡ bound → bound ≡ n
    back n bound same = omega arith

-- what holds from a bound on holds of all numbers, or not
pub all_or_not : (P : ℕ → Type 0) → ((n : ℕ) → OrNot (P n)) → (bound : ℕ) → ((n : ℕ) → bound ≤ n → P n) → OrNot ((n : ℕ) → P n)
all_or_not P test bound beyond = elim (search_below (λ n. ¬ P n) P (λ n. turned (P n) (test n)) bound) [
  | inl (n, small, not) ↦ inr (λ all. not (all n))
  | inr below ↦ inl (λ n. elim (cases_lt n bound) [ inl small ↦ below n small | inr large ↦ beyond n large ])
]
  where
    turned : (Q : Type 0) → OrNot Q → (¬ Q) ⊎ Q
    turned Q (inl is) = inr is
    turned Q (inr not) = inl not

-- one of the numbers below the bound has the property and the least measure, or none has the property
pub least_below : (P : ℕ → Type 0) (measure : ℕ → ℕ) → ((n : ℕ) → OrNot (P n)) → (bound : ℕ)
    → ((n : ℕ) × (n < bound) × P n × ((other : ℕ) → other < bound → P other → measure n ≤ measure other)) ⊎ ((n : ℕ) → n < bound → ¬ P n)
least_below P measure test zero = inr (λ n small. absurd (omega arith))
least_below P measure test (suc bound) = elim (least_below P measure test bound) [
  | inr none ↦ elim (test bound) [
    | inr not ↦ inr (λ n small is. elim (cases_lt n bound) [
      | inl below ↦ none n below is
      | inr at ↦ let same : n ≡ bound = omega arith in not (subst P same is)
    ])
    | inl is ↦ inl (
      bound,
      omega arith,
      is,
      λ other small has. elim (cases_lt other bound) [
        | inl below ↦ absurd (none other below has)
        | inr at ↦ let same : other ≡ bound = omega arith in let m = ap measure same in omega arith
      ],
    )
  ]
  | inl (best, small, is, least) ↦ elim (test bound) [
    | inr not ↦ inl (
      best,
      omega arith,
      is,
      λ other below has. elim (cases_lt other bound) [
        | inl earlier ↦ least other earlier has
        | inr at ↦ let same : other ≡ bound = omega arith in absurd (not (subst P same has))
      ],
    )
    | inl last ↦ elim (cases_lt (measure bound) (measure best)) [
      | inl less ↦ inl (
        bound,
        omega arith,
        last,
        λ other below has. elim (cases_lt other bound) [
          | inl earlier ↦ omega (arith, least other earlier has)
          | inr at ↦ let same : other ≡ bound = omega arith in let m = ap measure same in omega arith
        ],
      )
      | inr most ↦ inl (
        best,
        omega arith,
        is,
        λ other below has. elim (cases_lt other bound) [
          | inl earlier ↦ least other earlier has
          | inr at ↦ let same : other ≡ bound = omega arith in let m = ap measure same in omega arith
        ],
      )
    ]
  ]
]

pub three_or_not : (P Q R : Type 0) → OrNot P → OrNot Q → OrNot R → OrNot (P × Q × R)
three_or_not P Q R p q r = elim (both_or_not P (Q × R) p (both_or_not Q R q r)) [
  | inl (x, (y, z)) ↦ inl (x, y, z)
  | inr not ↦ inr (λ (x, y, z). not (x, (y, z)))
]

pub four_or_not : (P Q R S : Type 0) → OrNot P → OrNot Q → OrNot R → OrNot S → OrNot (P × Q × R × S)
four_or_not P Q R S p q r s = elim (both_or_not P (Q × R × S) p (three_or_not Q R S q r s)) [
  | inl (x, (y, z, u)) ↦ inl (x, y, z, u)
  | inr not ↦ inr (λ (x, y, z, u). not (x, (y, z, u)))
]

-- each item is such, or one isn't
pub each_or_not : {A : Type 0} (P : A → Type 0) → ((a : A) → OrNot (P a)) → (xs : List A) → OrNot (AllByRecursion P xs)
each_or_not P test [] = inl tt
each_or_not P test (x ∷ xs) = both_or_not _ _ (test x) (each_or_not P test xs)

pub items_or_not : {A : Type 0} (P : A → Type 0) → ((a : A) → OrNot (P a)) → (xs : List A) → OrNot (All P xs)
items_or_not P test xs = elim (each_or_not P test xs) [
  | inl all ↦ inl (All-from_recursion P xs all)
  | inr not ↦ inr (λ all. not (recursion_from_All P xs all))
]
