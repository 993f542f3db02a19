-- Places of a table, and how many keys there are.
use Rattle.std.{proofs.Common.{◌≡◌, ◌≢◌, ◌⊎◌, ℕ, zero, suc, ◌<◌, ◌≤◌, Bool, true, false, List, [], ◌∷◌, length, slice_get, set, position, Option, Some, None, is_none, is_some, cond, count_by, fold, ◌+◌, refl, sym, ap, ◌∙◌, arith, inl, inr}, specs.Prelude.{All, AllPairs, nat_lt}, specs.List.{position_or_len}, proofs.lemmas.Bool.{true≢false, cases_Bool, ltb-false, ltb-true}, proofs.lemmas.Option.{same_Some, none-some, slice_get_within, slice_get_cases, get_or_from_slice_get, cond_some}, proofs.lemmas.List.Quantifiers.{position-Some}, proofs.lemmas.List.Sums.{fails_before_first}, proofs.lemmas.List.Elements.{All-head, All-tail, All-cons, All-nil, All-weaker}}
use Rattle.mctp_transport.{specs.PacketValues.{KeyValue}, specs.Tables.{Partial, Holds, Table}}

pub get_set_same : {A : Type 0} (xs : List A) (i : ℕ) (y : A) → i < length xs → slice_get (set xs i y) i ≡ Some y
get_set_same [] i y h = absurd (omega arith)
get_set_same (x ∷ xs) zero y h = refl
get_set_same (x ∷ xs) (suc i) y h = get_set_same xs i y (omega arith)

pub get_set_other : {A : Type 0} (xs : List A) (i j : ℕ) (y : A) → i ≢ j → slice_get (set xs i y) j ≡ slice_get xs j
get_set_other [] i j y n = refl
get_set_other (x ∷ xs) zero zero y n = absurd (n refl)
get_set_other (x ∷ xs) zero (suc j) y n = refl
get_set_other (x ∷ xs) (suc i) zero y n = refl
get_set_other (x ∷ xs) (suc i) (suc j) y n = get_set_other xs i j y (λ e. n (ap suc e))

-- where nothing passes
pub position-none : {A : Type 0} (p : A → Bool) (xs : List A) → position p xs ≡ None → (j : ℕ) (x : A) → slice_get xs j ≡ Some x → p x ≡ false
position-none p xs e j x a =
    let past : nat_lt (position_or_len p xs) (length xs) ≡ false = elim (cases_Bool (nat_lt (position_or_len p xs) (length xs))) [
      | inl y ↦ absurd (none-some (position_or_len p xs) (sym (rw y at e)))
      | inr n ↦ n
    ] in
    let all = ltb-false (position_or_len p xs) (length xs) past in
    let within = slice_get_within xs j x a in
    ap p (sym (get_or_from_slice_get xs j x x a)) ∙ fails_before_first p xs j x (omega arith)

-- where the first one passes
pub position-some : {A : Type 0} (p : A → Bool) (xs : List A) (i : ℕ) → position p xs ≡ Some i → (x : A) × (slice_get xs i ≡ Some x) × (p x ≡ true)
position-some p xs i e = elim (slice_get_cases xs i).1 [
  | inl h ↦ let at = position-Some p xs i h.0 e in (h.0, h.2, ap p (sym h.3) ∙ at.1)
  | inr h ↦
      let c = cond_some (nat_lt (position_or_len p xs) (length xs)) (position_or_len p xs) i e in
      let within = ltb-true (position_or_len p xs) (length xs) c.0 in
      let same = c.1 in
      absurd (omega (arith, h.0))
]

-- a key among others
abbrev pub Among : KeyValue → List KeyValue → Type 0
Among key [] = ⊥
Among key (k ∷ keys) = (key ≡ k) ⊎ Among key keys

-- the others without one key
without : (key : KeyValue) (keys : List KeyValue) → Among key keys
    → (rest : List KeyValue) × (length keys ≡ suc (length rest)) × ((other : KeyValue) → other ≢ key → Among other keys → Among other rest)
without key [] m = absurd m
without key (k ∷ keys) (inl e) = (keys, refl, λ other apart m. elim m [ inl f ↦ absurd (apart (f ∙ sym e)) | inr r ↦ r ])
without key (k ∷ keys) (inr m) =
    let w = without key keys m in
    (k ∷ w.0, ap suc w.1, λ other apart n. elim n [ inl f ↦ inl f | inr r ↦ inr (w.2 other apart r) ])

pub pairs_tail : (key : KeyValue) (keys : List KeyValue) → AllPairs ◌≢◌ (key ∷ keys) → AllPairs ◌≢◌ keys
pairs_tail key keys a = λ i j d lt within. a (suc i) (suc j) d (omega arith) (omega arith)

pub pairs_head : (key : KeyValue) (keys : List KeyValue) → AllPairs ◌≢◌ (key ∷ keys) → All (λ k. k ≢ key) keys
pairs_head key keys a = λ k d within e. a 0 (suc k) d (omega arith) (omega arith) (sym e)

pub pairs_cons : (key : KeyValue) (keys : List KeyValue) → All (λ k. k ≢ key) keys → AllPairs ◌≢◌ keys → AllPairs ◌≢◌ (key ∷ keys)
pairs_cons key keys all pairs zero zero d lt within e = omega arith
pairs_cons key keys all pairs zero (suc j) d lt within e = all j d (omega arith) (sym e)
pairs_cons key keys all pairs (suc i) zero d lt within e = omega arith
pairs_cons key keys all pairs (suc i) (suc j) d lt within e = pairs i j d (omega arith) (omega arith) e

both : (P Q : KeyValue → Type 0) (keys : List KeyValue) → All P keys → All Q keys → All (λ k. P k × Q k) keys
both P Q keys a b = λ k d within. (a k d within, b k d within)

-- different keys among these are no more than these
pub no_more : (keys others : List KeyValue) → AllPairs ◌≢◌ keys → All (λ k. Among k others) keys → length keys ≤ length others
no_more [] others pairs all = omega arith
no_more (key ∷ keys) others pairs all =
    let w = without key others (All-head (λ k. Among k others) key keys all) in
    let rest = no_more keys w.0 (pairs_tail key keys pairs)
    (All-weaker (λ k. (k ≢ key) × Among k others) (λ k. Among k w.0) (λ k h. w.2 k h.0 h.1) keys
    (both (λ k. k ≢ key) (λ k. Among k others) keys (pairs_head key keys pairs) (All-tail (λ k. Among k others) key keys all))) in
    let size = w.1 in
    omega arith

-- the keys that a table holds
abbrev pub held_keys : Table → List KeyValue
held_keys [] = []
held_keys (None ∷ t) = held_keys t
held_keys (Some q ∷ t) = q.key ∷ held_keys t

pub keys_most : (t : Table) → length (held_keys t) ≤ length t
keys_most [] = omega arith
keys_most (None ∷ t) = let h = keys_most t in omega arith
keys_most (Some q ∷ t) = let h = keys_most t in omega arith

pub keys_fewer : (t : Table) (i : ℕ) → slice_get t i ≡ Some None → length (held_keys t) < length t
keys_fewer [] i e = absurd (none-some None e)
keys_fewer (None ∷ t) i e = let h = keys_most t in omega arith
keys_fewer (Some q ∷ t) zero e = absurd (none-some q (sym (same_Some (Some q) None e)))
keys_fewer (Some q ∷ t) (suc i) e = let h = keys_fewer t i e in omega arith

pub keys_all : (t : Table) → ((j : ℕ) (x : Option Partial) → slice_get t j ≡ Some x → is_none x ≡ false) → length (held_keys t) ≡ length t
keys_all [] full = refl
keys_all (None ∷ t) full = absurd (true≢false (full 0 None refl))
keys_all (Some q ∷ t) full = ap suc (keys_all t (λ j x e. full (suc j) x e))

pub keys_among : (t : Table) (j : ℕ) (q : Partial) → Holds t j q → Among q.key (held_keys t)
keys_among [] j q e = absurd (none-some (Some q) e)
keys_among (None ∷ t) zero q e = absurd (none-some q (same_Some None (Some q) e))
keys_among (None ∷ t) (suc j) q e = keys_among t j q e
keys_among (Some r ∷ t) zero q e = inl (ap (λ (x : Partial). x.key) (sym (same_Some r q (same_Some (Some r) (Some q) e))))
keys_among (Some r ∷ t) (suc j) q e = inr (keys_among t j q e)

pub keys_have : (P : KeyValue → Type 0) (t : Table) → ((j : ℕ) (q : Partial) → Holds t j q → P q.key) → All P (held_keys t)
keys_have P [] f = All-nil P
keys_have P (None ∷ t) f = keys_have P t (λ j q e. f (suc j) q e)
keys_have P (Some r ∷ t) f = All-cons P r.key (held_keys t) (f 0 r refl) (keys_have P t (λ j q e. f (suc j) q e))

pub keys_apart : (t : Table) → ((i j : ℕ) (q r : Partial) → Holds t i q → Holds t j r → q.key ≡ r.key → i ≡ j) → AllPairs ◌≢◌ (held_keys t)
keys_apart [] once = λ i j d lt within e. omega arith
keys_apart (None ∷ t) once = keys_apart t (λ i j q r a b e. let h = once (suc i) (suc j) q r a b e in omega arith)
keys_apart (Some s ∷ t) once =
    pairs_cons s.key (held_keys t) (keys_have (λ k. k ≢ s.key) t (λ j q a e. let h = once (suc j) 0 q s a refl e in omega arith))
    (keys_apart t (λ i j q r a b e. let h = once (suc i) (suc j) q r a b e in omega arith))

-- how many slots hold a message
pub keys_count : (t : Table) → length (held_keys t) ≡ count_by is_some t
keys_count t = omega (arith, counted 0 t)
  where
    counted : (n : ℕ) (t : Table) → n + length (held_keys t) ≡ fold (λ a x. a + cond (is_some x) 1 0) n t
    counted n [] = omega arith
    counted n (None ∷ t) = omega (arith, counted (n + 0) t)
    counted n (Some q ∷ t) = omega (arith, counted (n + 1) t)
