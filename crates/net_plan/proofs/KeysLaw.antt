-- That an object has exactly some keys.
use Rattle.std.{proofs.Common.{◌≡◌, ℕ, zero, suc, ◌<◌, arith, List, [], ◌∷◌, length, Bool, true, false, not, ◌||◌, Some, is_some, Ok, Ordering, Less, Equal, Greater, refl, sym, ap, ◌∙◌, true≢false, Contains, IsSome, slice_index_or}, proofs.lemmas.Bool.{not-true, not-false, or_right}, proofs.lemmas.Map.Text.{is_eq-slice_cmp}, proofs.lemmas.Slice.Eq.{bytes_eq-Decides}, proofs.lemmas.Map.Views.{Contains-from_any}, proofs.lemmas.Cmp.{nat_list_cmp_total, tied_itself}, specs.Cmp.Lexicographic.{slice_cmp}, specs.List.{list_any}, specs.Ordering.{match_ordering, is_eq, nat_cmp}, specs.Str.{bytes_eq}}
use Rattle.serde_json.{specs.Data.{Data, object, Members, no_members, member}, specs.Find.{get_member}}
use Rattle.net_plan.{specs.Json.{is_among, has_unknown_key, lacks_key, keyed, demand}, specs.JsonWords.{HasKeys}, specs.Reading.{then_with}, specs.declared.error.ValueFault.TheVariants.{UnknownKey, MissingKey}, proofs.Telling.{no_value, then_Ok, demanded}}

pub among_Contains : (keys : List (List ℕ)) (k : List ℕ) → is_among keys k ≡ true → Contains keys k
among_Contains keys k e = Contains-from_any (λ x y. (bytes_eq-Decides x y).0) k keys e

any_at : (p : List ℕ → Bool) (xs : List (List ℕ)) (i : ℕ) (x : List ℕ) → i < length xs → slice_index_or xs i x ≡ x → p x ≡ true → list_any p xs ≡ true
any_at p [] i x within is e = absurd (omega arith)
any_at p (y ∷ ys) zero x within is e = ap (λ b. b || list_any p ys) (ap p is ∙ e)
any_at p (y ∷ ys) (suc i) x within is e = or_right (p y) (list_any p ys) (any_at p ys i x (omega arith) is e)

pub Contains_among : (keys : List (List ℕ)) (k : List ℕ) → Contains keys k → is_among keys k ≡ true
Contains_among keys k h = any_at (bytes_eq k) keys h.0 k h.1 h.2 ((bytes_eq-Decides k k).1 refl)

same_text : (k : List ℕ) → slice_cmp nat_cmp k k ≡ Equal
same_text k = tied_itself nat_list_cmp_total k

ordered : (o : Ordering) (k l : List ℕ) → slice_cmp nat_cmp k l ≡ o → is_eq o ≡ true → k ≡ l
ordered o k l e h = (bytes_eq-Decides k l).0 (sym (is_eq-slice_cmp k l) ∙ ap is_eq e ∙ h)

-- a key that is found is among those that no key is beyond
known : (keys : List (List ℕ)) (ms : Members) → has_unknown_key keys ms ≡ false → (k : List ℕ) → IsSome (get_member k ms) → is_among keys k ≡ true
known keys no_members none k there = absurd (true≢false (sym there))
known keys (member l d ms) none k there = by (is_among keys l) (slice_cmp nat_cmp k l) refl refl none there (λ left some. known keys ms left k some)
  where
    by : (b : Bool) (o : Ordering) → is_among keys l ≡ b → slice_cmp nat_cmp k l ≡ o → (not b || has_unknown_key keys ms) ≡ false
        → is_some (match_ordering o (get_member k ms) (Some d) (get_member k ms)) ≡ true → (has_unknown_key keys ms ≡ false → IsSome (get_member k ms) → is_among keys k ≡ true) → is_among keys k ≡ true
    by false o a e none some rest = absurd (true≢false none)
    by true Less a e none some rest = rest none some
    by true Greater a e none some rest = rest none some
    by true Equal a e none some rest = ap (is_among keys) (ordered Equal k l e refl) ∙ a

-- a key that stands among the members is found
more : (k l : List ℕ) (d : Data) (ms : Members) → IsSome (get_member k ms) → IsSome (get_member k (member l d ms))
more k l d ms there = by (slice_cmp nat_cmp k l)
  where
    by : (o : Ordering) → is_some (match_ordering o (get_member k ms) (Some d) (get_member k ms)) ≡ true
    by Less = there
    by Equal = refl
    by Greater = there

none_unknown : (keys : List (List ℕ)) (ms : Members) → ((k : List ℕ) → IsSome (get_member k ms) → is_among keys k ≡ true) → has_unknown_key keys ms ≡ false
none_unknown keys no_members h = refl
none_unknown keys (member l d ms) h =
    let here : IsSome (get_member l (member l d ms)) = ap (λ o. is_some (match_ordering o (get_member l ms) (Some d) (get_member l ms))) (same_text l) in
    ap (λ b. not b || has_unknown_key keys ms) (h l here) ∙ none_unknown keys ms (λ k there. h k (more k l d ms there))

pub any_false : (p : List ℕ → Bool) (xs : List (List ℕ)) → list_any p xs ≡ false → (x : List ℕ) → Contains xs x → p x ≡ false
any_false p xs none x h = by (p x) refl
  where
    by : (b : Bool) → p x ≡ b → b ≡ false
    by false e = refl
    by true e = absurd (true≢false (sym (any_at p xs h.0 x h.1 h.2 e) ∙ none))

all_false : (p : List ℕ → Bool) (xs : List (List ℕ)) → ((x : List ℕ) → is_among xs x ≡ true → p x ≡ false) → list_any p xs ≡ false
all_false p [] h = refl
all_false p (x ∷ xs) h = ap (λ b. b || list_any p xs) (h x (ap (λ b. b || is_among xs x) ((bytes_eq-Decides x x).1 refl)))
    ∙ all_false p xs (λ y among. h y (or_right (bytes_eq y x) (is_among xs y) among))

keys_sound_at : (keys : List (List ℕ)) (ms : Members) → has_unknown_key keys ms ≡ false → lacks_key keys ms ≡ false → HasKeys keys (object ms)
keys_sound_at keys ms unknown lacked =
    (ms, refl, λ k. (λ there. among_Contains keys k (known keys ms unknown k there), λ among. not-false (is_some (get_member k ms)) (any_false (λ key. not (is_some (get_member key ms))) keys lacked k among)))

pub keys_sound : (keys : List (List ℕ)) (d : Data) (u : Unit {0}) → keyed keys d ≡ Ok u → HasKeys keys d
keys_sound keys (object ms) u e =
    let p = then_Ok (demand UnknownKey (not (has_unknown_key keys ms))) (λ _. demand MissingKey (not (lacks_key keys ms))) u e in
    keys_sound_at keys ms (not-true (has_unknown_key keys ms) (demanded UnknownKey (not (has_unknown_key keys ms)) p.0 p.1)) (not-true (lacks_key keys ms) (demanded MissingKey (not (lacks_key keys ms)) u p.2))
keys_sound keys d u e = absurd (no_value e)

pub keys_whole : (keys : List (List ℕ)) (d : Data) → HasKeys keys d → keyed keys d ≡ Ok tt
keys_whole keys d h =
    let ms = h.0 in
    let unknown : has_unknown_key keys ms ≡ false = none_unknown keys ms (λ k there. Contains_among keys k ((h.2 k).0 there)) in
    let lacked : lacks_key keys ms ≡ false = all_false (λ key. not (is_some (get_member key ms))) keys (λ k among. ap not ((h.2 k).1 (among_Contains keys k among))) in
    ap (keyed keys) h.1 ∙ ap (λ b. then_with (demand UnknownKey (not b)) (λ _. demand MissingKey (not (lacks_key keys ms)))) unknown ∙ ap (λ b. demand MissingKey (not b)) lacked
