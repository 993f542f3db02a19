-- That no name stands twice.
use Rattle.std.{proofs.Common.{◌≡◌, ◌≢◌, ℕ, suc, List, [], ◌∷◌, ◌++◌, Bool, true, false, not, ◌&&◌, ◌||◌, refl, sym, ap, ◌∙◌, true≢false, arith, AllPairs}, proofs.lemmas.Bool.{not-true}, proofs.lemmas.List.Elements.{All-from_recursion, recursion_from_All}, proofs.lemmas.List.Kept.{AllPairs-cons}, proofs.lemmas.Slice.Eq.{bytes_eq-Decides}, specs.List.{AllByRecursion}, specs.Str.{bytes_eq}}
use Rattle.net_plan.{specs.Json.{is_among}, specs.Names.{are_new, names_differ}, proofs.Telling.{both}}

-- a name that is not among these and one more is not among these, and not that one
not_among-push : (seen : List (List ℕ)) (n q : List ℕ) → is_among (seen ++ n ∷ []) q ≡ false → (is_among seen q ≡ false) × (n ≢ q)
not_among-push [] n q e = (refl, λ same. true≢false (sym (ap (λ b. b || false) ((bytes_eq-Decides q n).1 (sym same))) ∙ e))
not_among-push (m ∷ seen) n q e = by (bytes_eq q m) e (not_among-push seen n q)
  where
    by : (b : Bool) → (b || is_among (seen ++ n ∷ []) q) ≡ false → (is_among (seen ++ n ∷ []) q ≡ false → (is_among seen q ≡ false) × (n ≢ q)) → ((b || is_among seen q) ≡ false) × (n ≢ q)
    by true e rest = absurd (true≢false e)
    by false e rest = rest e

among-push : (seen : List (List ℕ)) (n q : List ℕ) → is_among seen q ≡ false → n ≢ q → is_among (seen ++ n ∷ []) q ≡ false
among-push [] n q e other = by (bytes_eq q n) refl
  where
    by : (b : Bool) → bytes_eq q n ≡ b → (b || false) ≡ false
    by true d = absurd (other (sym ((bytes_eq-Decides q n).0 d)))
    by false d = refl
among-push (m ∷ seen) n q e other = by (bytes_eq q m) e (λ left. among-push seen n q left other)
  where
    by : (b : Bool) → (b || is_among seen q) ≡ false → (is_among seen q ≡ false → is_among (seen ++ n ∷ []) q ≡ false) → (b || is_among (seen ++ n ∷ []) q) ≡ false
    by true e rest = absurd (true≢false e)
    by false e rest = rest e

abbrev AreUnseen : List (List ℕ) → List (List ℕ) → Type 0
AreUnseen seen ns = AllByRecursion (λ q. is_among seen q ≡ false) ns

unseen_before : (seen : List (List ℕ)) (n : List ℕ) (ns : List (List ℕ)) → AreUnseen (seen ++ n ∷ []) ns → AreUnseen seen ns × AllByRecursion (λ q. n ≢ q) ns
unseen_before seen n [] h = (tt, tt)
unseen_before seen n (q ∷ ns) h =
    let here = not_among-push seen n q h.0 in
    let rest = unseen_before seen n ns h.1 in
    ((here.0, rest.0), (here.1, rest.1))

unseen_after : (seen : List (List ℕ)) (n : List ℕ) (ns : List (List ℕ)) → AreUnseen seen ns → AllByRecursion (λ q. n ≢ q) ns → AreUnseen (seen ++ n ∷ []) ns
unseen_after seen n [] h other = tt
unseen_after seen n (q ∷ ns) h other = (among-push seen n q h.0 other.0, unseen_after seen n ns h.1 other.1)

new_sound : (seen ns : List (List ℕ)) → are_new seen ns ≡ true → AreUnseen seen ns × AllPairs (λ a b. a ≢ b) ns
new_sound seen [] e = (tt, λ i j d below within. absurd (omega arith))
new_sound seen (n ∷ ns) e =
    let p = both (not (is_among seen n)) (are_new (seen ++ n ∷ []) ns) e in
    let rest = new_sound (seen ++ n ∷ []) ns p.1 in
    let before = unseen_before seen n ns rest.0 in
    ((not-true (is_among seen n) p.0, before.0), AllPairs-cons (λ a b. a ≢ b) n ns (All-from_recursion (λ q. n ≢ q) ns before.1) rest.1)

new_whole : (seen ns : List (List ℕ)) → AreUnseen seen ns → AllPairs (λ a b. a ≢ b) ns → are_new seen ns ≡ true
new_whole seen [] unseen h = refl
new_whole seen (n ∷ ns) unseen h =
    let other : AllByRecursion (λ q. n ≢ q) ns = recursion_from_All (λ q. n ≢ q) ns (λ k d within. h 0 (suc k) d (omega arith) (omega arith)) in
    ap (λ b. not b && are_new (seen ++ n ∷ []) ns) unseen.0 ∙ new_whole (seen ++ n ∷ []) ns (unseen_after seen n ns unseen.1 other) (λ i j d below within. h (suc i) (suc j) d (omega arith) (omega arith))

none_seen : (ns : List (List ℕ)) → AreUnseen [] ns
none_seen [] = tt
none_seen (n ∷ ns) = (refl, none_seen ns)

pub differ_sound : (names : List (List ℕ)) → names_differ names ≡ true → AllPairs (λ a b. a ≢ b) names
differ_sound names e = (new_sound [] names e).1

pub differ_whole : (names : List (List ℕ)) → AllPairs (λ a b. a ≢ b) names → names_differ names ≡ true
differ_whole names h = new_whole [] names (none_seen names) h
