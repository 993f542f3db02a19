-- Lists of all that is so, in order, made one after another.
use Rattle.std.{proofs.Common.{◌≡◌, ℕ, zero, suc, ◌+◌, ◌<◌, List, [], ◌∷◌, ◌++◌, refl, sym, ap, ◌∙◌, subst, arith, inl, inr, ◌⊎◌, append-nil, append_assoc}, specs.Prelude.{Contains, AllPairs}, proofs.lemmas.Bool.{cases_lt}, proofs.lemmas.List.Elements.{All-nil, All-append, All-contains_itself, Contains-append_left, Contains-append_right, Contains-append_cases}, proofs.lemmas.List.Kept.{AllPairs-cons}}
use Rattle.plan_values.specs.declared.plan.Plan.{Plan}
use Rattle.net_rules.specs.Faults.{LessByFirstDifference}
use Rattle.net_questions.{specs.declared.finding.Finding.{Finding}, specs.Findings.{IsSo, key_of, ComesBefore, BeginsWith, Ascend, Adds, IsUnder}}

-- ks begins with p, and its next number is less than n
abbrev pub NextBelow : List ℕ → ℕ → List ℕ → Type 0
NextBelow [] n [] = ⊥
NextBelow [] n (k ∷ ks) = k < n
NextBelow (x ∷ p) n [] = ⊥
NextBelow (x ∷ p) n (k ∷ ks) = (x ≡ k) × NextBelow p n ks

pub none_below : (p ks : List ℕ) → ¬ NextBelow p 0 ks
none_below [] [] below = below
none_below [] (k ∷ ks) below = omega (arith, below)
none_below (x ∷ p) [] below = below
none_below (x ∷ p) (k ∷ ks) below = none_below p ks below.1

pub below_or_at : (p : List ℕ) (n : ℕ) (ks : List ℕ) → NextBelow p (n + 1) ks → NextBelow p n ks ⊎ BeginsWith (p ++ n ∷ []) ks
below_or_at [] n [] below = absurd below
below_or_at [] n (k ∷ ks) below = elim (cases_lt k n) [
  | inl lt ↦ inl lt
  | inr past ↦ inr (omega (arith, below, past), tt)
]
below_or_at (x ∷ p) n [] below = absurd below
below_or_at (x ∷ p) n (k ∷ ks) below = elim (below_or_at p n ks below.1) [
  | inl lt ↦ inl (below.0, lt)
  | inr at ↦ inr (below.0, at)
]

pub below_more : (p : List ℕ) (n : ℕ) (ks : List ℕ) → NextBelow p n ks → NextBelow p (n + 1) ks
below_more [] n [] below = below
below_more [] n (k ∷ ks) below = omega (arith, below)
below_more (x ∷ p) n [] below = below
below_more (x ∷ p) n (k ∷ ks) below = (below.0, below_more p n ks below.1)

pub at_below : (p : List ℕ) (n : ℕ) (ks : List ℕ) → BeginsWith (p ++ n ∷ []) ks → NextBelow p (n + 1) ks
at_below [] n [] at = at
at_below [] n (k ∷ ks) at = omega (arith, at.0)
at_below (x ∷ p) n [] at = at
at_below (x ∷ p) n (k ∷ ks) at = (at.0, at_below p n ks at.1)

pub begins : (p : List ℕ) (n : ℕ) (ks : List ℕ) → NextBelow p n ks → BeginsWith p ks
begins [] n ks below = tt
begins (x ∷ p) n [] below = below
begins (x ∷ p) n (k ∷ ks) below = (below.0, begins p n ks below.1)

pub below_before : (p : List ℕ) (n : ℕ) (ks ls : List ℕ) → NextBelow p n ks → BeginsWith (p ++ n ∷ []) ls → LessByFirstDifference ks ls
below_before [] n [] ls below at = absurd below
below_before [] n (k ∷ ks) [] below at = absurd at
below_before [] n (k ∷ ks) (l ∷ ls) below at = inl (omega (arith, below, at.0))
below_before (x ∷ p) n [] ls below at = absurd below
below_before (x ∷ p) n (k ∷ ks) [] below at = absurd at
below_before (x ∷ p) n (k ∷ ks) (l ∷ ls) below at = inr (sym below.0 ∙ at.0, below_before p n ks ls below.1 at.1)

ascends_join : (xs ys : List Finding) → Ascend xs → Ascend ys → ((x y : Finding) → Contains xs x → Contains ys y → ComesBefore x y) → Ascend (xs ++ ys)
ascends_join [] ys up up' before = up'
ascends_join (x ∷ xs) ys up up' before = (
  All-append (λ y. ComesBefore x y) xs ys up.0 (λ k d lt. before x _ (0, omega arith, refl) (All-contains_itself ys k d lt)),
  ascends_join xs ys up.1 up' (λ a b at bt. before a b (suc at.0, omega (arith, at.1), at.2) bt),
)

pub all_pairs : (xs : List Finding) → Ascend xs → AllPairs (λ x y. ComesBefore x y) xs
all_pairs [] up = λ i j d lt within. absurd (omega (arith, within))
all_pairs (x ∷ xs) up = AllPairs-cons (λ x y. ComesBefore x y) x xs up.0 (all_pairs xs up.1)

pub nothing : (P : Finding → Type 0) (old : List Finding) → ((x : Finding) → ¬ P x) → Adds P old old
nothing P old none = ([], sym (append-nil old), record { exact = λ x. (λ at. absurd (omega (arith, at.1)), λ p. absurd (none x p)); ascend = tt })

only_one : (x y : Finding) → Contains (x ∷ []) y → x ≡ y
only_one x y (zero, lt, is) = is
only_one x y (suc k, lt, is) = absurd (omega (arith, lt))

pub one : (P : Finding → Type 0) (x : Finding) (old : List Finding) → P x → ((y : Finding) → P y → x ≡ y) → Adds P old (old ++ x ∷ [])
one P x old p alone = (
  x ∷ [],
  refl,
  record {
    exact = λ y. (λ at. subst P (only_one x y at) p, λ q. (0, omega arith, alone y q));
    ascend = (All-nil (λ y. ComesBefore x y), tt);
  },
)

pub alike : (P Q : Finding → Type 0) (old new : List Finding) → ((x : Finding) → P x → Q x) → ((x : Finding) → Q x → P x) → Adds P old new → Adds Q old new
alike P Q old new to from (more, is, lists) = (more, is, record { exact = λ x. (λ at. to x ((lists.exact x).0 at), λ q. (lists.exact x).1 (from x q)); ascend = lists.ascend })

pub join : (P Q R : Finding → Type 0) (old mid new : List Finding) → ((x y : Finding) → P x → Q y → ComesBefore x y) → ((x : Finding) → P x → R x) → ((x : Finding) → Q x → R x)
    → ((x : Finding) → R x → P x ⊎ Q x) → Adds P old mid → Adds Q mid new → Adds R old new
join P Q R old mid new before first second either (xs, is, lists) (ys, is', lists') = (
  xs ++ ys,
  is' ∙ (ap (λ zs. zs ++ ys) is ∙ append_assoc old xs ys),
  record {
    exact = λ x. (
      λ at. elim (Contains-append_cases xs ys x at) [
        | inl here ↦ first x ((lists.exact x).0 here)
        | inr there ↦ second x ((lists'.exact x).0 there)
      ],
      λ r. elim (either x r) [
        | inl p ↦ Contains-append_left xs ys x ((lists.exact x).1 p)
        | inr q ↦ Contains-append_right xs ys x ((lists'.exact x).1 q)
      ],
    );
    ascend = ascends_join xs ys lists.ascend lists'.ascend (λ x y at bt. before x y ((lists.exact x).0 at) ((lists'.exact y).0 bt));
  },
)

module _ (plan : Plan) where
  abbrev pub Below : List ℕ → ℕ → Finding → Type 0
  Below p n x = IsSo plan x × NextBelow p n (key_of x)

  pub start : (p : List ℕ) (old : List Finding) → Adds (Below p 0) old old
  start p old = nothing (Below p 0) old (λ x is. none_below p (key_of x) is.1)

  pub more : (p : List ℕ) (n : ℕ) (old mid new : List Finding) → Adds (Below p n) old mid → Adds (IsUnder plan (p ++ n ∷ [])) mid new → Adds (Below p (n + 1)) old new
  more p n old mid new = join (Below p n) (IsUnder plan (p ++ n ∷ [])) (Below p (n + 1)) old mid new
      (λ x y is at. below_before p n (key_of x) (key_of y) is.1 at.1) (λ x is. (is.0, below_more p n (key_of x) is.1)) (λ x at. (at.0, at_below p n (key_of x) at.1))
      (λ x is. elim (below_or_at p n (key_of x) is.1) [ inl below ↦ inl (is.0, below) | inr at ↦ inr (is.0, at) ])

  pub all : (p : List ℕ) (n : ℕ) (old new : List Finding) → ((x : Finding) → IsSo plan x → BeginsWith p (key_of x) → NextBelow p n (key_of x)) → Adds (Below p n) old new → Adds (IsUnder plan p) old new
  all p n old new within = alike (Below p n) (IsUnder plan p) old new (λ x is. (is.0, begins p n (key_of x) is.1)) (λ x at. (at.0, within x at.0 at.1))
