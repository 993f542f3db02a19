-- Fields that are added one part after another.
use Rattle.std.{proofs.Common.{◌≡◌, ◌+◌, ◌<◌, ◌≤◌, ℕ, List, ◌++◌, Result, Ok, Err, OnOk, All, length, map, take, get_or, ap, subst, ◌∙◌}, proofs.lemmas.List.{append_assoc, map_more, take_all}, proofs.lemmas.List.Elements.{All-push}}
use Rattle.record_fields.specs.Named.{Named}

-- three parts
pub three : {T E : Type 0} (r : Result T E) (new second first old a b c one two last : List Named) → first ≡ old ++ a → second ≡ first ++ b
    → OnOk r (new ≡ second ++ c) → a ≡ one → b ≡ two → c ≡ last → OnOk r (new ≡ old ++ (one ++ (two ++ last)))
three (Err e) new second first old a b c one two last is next more at then after = tt
three (Ok x) new second first old a b c one two last is next more at then after =
    rw (← at, ← then, ← after)
    (more ∙ ap (λ m. m ++ c) (next ∙ ap (λ m. m ++ b) is) ∙ append_assoc (old ++ a) b c ∙ append_assoc old a (b ++ c))

-- four parts
pub four : {T E : Type 0} (r : Result T E) (new third second first old a b c d one two : List Named) → first ≡ old ++ a
    → second ≡ first ++ b → third ≡ second ++ c → OnOk r (new ≡ third ++ d) → a ≡ one → b ≡ two
    → OnOk r (new ≡ old ++ (one ++ (two ++ (c ++ d))))
four (Err e) new third second first old a b c d one two is next further more at then = tt
four (Ok x) new third second first old a b c d one two is next further more at then =
    rw (← at, ← then)
    (more ∙ ap (λ m. m ++ d) (further ∙ ap (λ m. m ++ c) (next ∙ ap (λ m. m ++ b) is)) ∙ append_assoc ((old ++ a) ++ b) c d
    ∙ append_assoc (old ++ a) b (c ++ d) ∙ append_assoc old a (b ++ (c ++ d)))

-- of each of the first elements, and of one more
pub all_more : {X : Type 0} (P : List ℕ → Type 0) (f : X → List ℕ) (xs : List X) (i : ℕ) (x : X) → i < length xs → get_or xs i x ≡ x
    → All P (map f (take i xs)) → P (f x) → All P (map f (take (i + 1) xs))
all_more P f xs i x within is before now =
    rw (map_more f xs i x within, is) (All-push P (map f (take i xs)) (f x) before now)

-- of all of them, where the first ones are all
pub all_words : {X : Type 0} (Q : List Named → List ℕ → Type 0) (found fields : List Named) (f : X → List ℕ) (xs : List X) (i : ℕ) → length xs ≤ i
    → found ≡ fields → All (Q found) (map f (take i xs)) → All (Q fields) (map f xs)
all_words Q found fields f xs i over same all =
    subst (λ g. All (Q g) (map f xs)) same (subst (λ ys. All (Q found) (map f ys)) (take_all i xs over) all)
