-- The last item that passes.
use Rattle.std.{proofs.Common.{◌≡◌, ℕ, ◌<◌, ◌≤◌, ◌+◌, ◌-◌, Bool, true, false, List, [], ◌∷◌, ◌++◌, inl, inr, refl, ap, sym, ◌∙◌, subst, arith, length, map, take, get_or}, specs.Prelude.{Option, None, Some, if◌then◌else◌, option_to_list}, specs.Option.{option_or}, proofs.lemmas.Option.{same_Some}}
use Rattle.audited_captures.{specs.AsPlanned.{IsAmong}, specs.Words.{word_value}, specs.declared.words.Word.{Word}, specs.Exchanges.{last_that, ExchangeValue, exchange_of, AreExchanges, More}, proofs.WordLaws.{mapped_more}}

or_assoc : {A : Type 0} (a b c : Option A) → option_or (option_or a b) c ≡ option_or a (option_or b c)
or_assoc None b c = refl
or_assoc (Some x) b c = refl

or_none : {A : Type 0} (a : Option A) → a ≡ option_or a None
or_none None = refl
or_none (Some x) = refl

pub last_of_more : {A : Type 0} (test : A → Bool) (xs : List A) (x : A) → last_that test (xs ++ x ∷ []) ≡ option_or (if test x then Some x else None) (last_that test xs)
last_of_more test [] x = or_none (if test x then Some x else None)
last_of_more test (y ∷ xs) x =
    ap (λ found. option_or found (if test y then Some y else None)) (last_of_more test xs x)
    ∙ or_assoc (if test x then Some x else None) (last_that test xs) (if test y then Some y else None)

last_before : {A B : Type 0} (f : A → B) (test : B → Bool) (items : List A) (at : ℕ) (item : A) → 0 < at → at ≤ length items → item ≡ get_or items (at - 1) item
    → last_that test (map f (take at items)) ≡ option_or (if test (f item) then Some (f item) else None) (last_that test (map f (take (at - 1) items)))
last_before f test items at item some within is =
    let next : at - 1 + 1 ≡ at = omega (arith, some) in
    ap (λ n. last_that test (map f (take n items))) (sym next)
    ∙ ap (last_that test) (mapped_more f items (at - 1) item (omega (arith, some, within)) is)
    ∙ last_of_more test (map f (take (at - 1) items)) (f item)

-- the item before a place passes, so it is the last before it that does
pub last_passes : {A B : Type 0} (f : A → B) (test : B → Bool) (items : List A) (at : ℕ) (item : A) → 0 < at → at ≤ length items → item ≡ get_or items (at - 1) item
    → test (f item) ≡ true → Some (f item) ≡ last_that test (map f (take at items))
last_passes f test items at item some within is passes =
    sym (last_before f test items at item some within is ∙ ap (λ b. option_or (if b then Some (f item) else None) (last_that test (map f (take (at - 1) items)))) passes)

-- it doesn't pass, so the last is one before
pub last_fails : {A B : Type 0} (f : A → B) (test : B → Bool) (items : List A) (at : ℕ) (item : A) → 0 < at → at ≤ length items → item ≡ get_or items (at - 1) item
    → test (f item) ≡ false → last_that test (map f (take at items)) ≡ last_that test (map f (take (at - 1) items))
last_fails f test items at item some within is fails =
    last_before f test items at item some within is ∙ ap (λ b. option_or (if b then Some (f item) else None) (last_that test (map f (take (at - 1) items)))) fails

-- what is found is among the items, and passes
abbrev Found : {A : Type 0} → (A → Bool) → List A → A → Type 0
Found test xs x = IsAmong x xs × (test x ≡ true)

found_first : {A : Type 0} (test : A → Bool) (ys : List A) (x y : A) (b : Bool) → test y ≡ b → (if b then Some y else None) ≡ Some x → Found test (y ∷ ys) x
found_first test ys x y true passes so = (let same = same_Some y x so in (inl same, ap test (sym same) ∙ passes))
found_first test ys x y false fails so = absurd (cc)

found_later : {A : Type 0} (test : A → Bool) (ys : List A) (x y : A) (o : Option A) → ((z : A) → o ≡ Some z → Found test ys z) → option_or o (if test y then Some y else None) ≡ Some x
    → Found test (y ∷ ys) x
found_later test ys x y None later so = found_first test ys x y (test y) refl so
found_later test ys x y (Some z) later so =
    let same = same_Some z x so in
    let there = later z refl in
    (inr (subst (λ u. IsAmong u ys) same there.0), ap test (sym same) ∙ there.1)

pub last_among : {A : Type 0} (test : A → Bool) (xs : List A) (x : A) → last_that test xs ≡ Some x → IsAmong x xs × (test x ≡ true)
last_among test [] x is = absurd (cc)
last_among test (y ∷ ys) x is = found_later test ys x y (last_that test ys) (λ z found. last_among test ys z found) is

none_first : {A : Type 0} (test : A → Bool) (y : A) → test y ≡ true → (if test y then Some y else None) ≡ None → ⊥
none_first test y passes so = (let first : (if test y then Some y else None) ≡ Some y = ap (λ (b : Bool). if b then Some y else None) passes in cc)

none_later : {A : Type 0} (test : A → Bool) (ys : List A) (x y : A) (o : Option A) → (IsAmong x ys → o ≡ None → ⊥) → test x ≡ true → IsAmong x (y ∷ ys)
    → option_or o (if test y then Some y else None) ≡ None → ⊥
none_later test ys x y (Some z) later passes among so = cc
none_later test ys x y None later passes (inr there) so = later there refl
none_later test ys x y None later passes (inl same) so = none_first test y (ap test same ∙ passes) so

-- where an item passes, one is found
pub last_passing : {A : Type 0} (test : A → Bool) (xs : List A) (x : A) → IsAmong x xs → test x ≡ true → last_that test xs ≡ None → ⊥
last_passing test [] x among passes is = among
last_passing test (y ∷ ys) x among passes is = none_later test ys x y (last_that test ys) (λ there none. last_passing test ys x there passes none) passes among is

-- the next word of a list
pub next_exchange : (items : List Word) (i : ℕ) (item : Word) (old new : List ExchangeValue) → i < length items → item ≡ get_or items i item
    → AreExchanges (map word_value (take i items)) old → new ≡ old ++ option_to_list (exchange_of (map word_value (take i items)) (word_value item))
    → AreExchanges (map word_value (take (i + 1) items)) new
next_exchange items i item old new within is are more =
    subst (λ ws. AreExchanges ws new) (sym (mapped_more word_value items i item within is))
    (subst (λ xs. AreExchanges (map word_value (take i items) ++ word_value item ∷ []) xs) (sym more) (More (map word_value (take i items)) old (word_value item) are))
