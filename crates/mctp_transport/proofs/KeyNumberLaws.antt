-- A slot is found by its number.
use Rattle.std.{proofs.Common.{◌≡◌, ℕ, zero, suc, ◌+◌, ◌*◌, ◌<◌, ◌≤◌, Bool, true, false, not, cond, nat_eq, nat_lt, get_or, List, [], ◌∷◌, length, take, map, set, replicate, position, Option, Some, None, is_none, refl, sym, ap, ◌∙◌, arith, inl, inr}, specs.Prelude.{All}, specs.List.{position_or_len}, proofs.lemmas.Bool.{eq-eqb, true≢false, false≢true, lt-ltb, le-ltb, ne_eqb}, proofs.lemmas.List.Sums.{position_or_len_is}, proofs.lemmas.List.{map-set, length-set}, proofs.lemmas.List.Elements.{All-head, All-tail}, proofs.Math.Seq.{take-set-lt, map-set_same}}
use Rattle.mctp_transport.{specs.declared.address.Key.{Key}, specs.declared.assembler.open_message.OpenMessage.{OpenMessage}, specs.PacketValues.{KeyValue, bit}, specs.Bits.{bit_most, bit_one}, specs.Packets.{key_value}, specs.Tables.{is_at}, specs.Assembly.{partial_of}, specs.KeyNumbers.{key_number, slot_number, IsGoneOnFrom}, proofs.FirstIndexes.{key_cases}}

-- the source, the owner bit and the tag are known from a number
source_is : (s o t s' o' t' : ℕ) → o ≤ 1 → t < 8 → o' ≤ 1 → t' < 8 → 16 * s + 8 * o + t ≡ 16 * s' + 8 * o' + t' → s ≡ s'
source_is s o t s' o' t' ho ht ho' ht' e = omega arith

owner_is : (s o t s' o' t' : ℕ) → o ≤ 1 → t < 8 → o' ≤ 1 → t' < 8 → 16 * s + 8 * o + t ≡ 16 * s' + 8 * o' + t' → o ≡ o'
owner_is s o t s' o' t' ho ht ho' ht' e = omega arith

tag_is : (s o t s' o' t' : ℕ) → o ≤ 1 → t < 8 → o' ≤ 1 → t' < 8 → 16 * s + 8 * o + t ≡ 16 * s' + 8 * o' + t' → t ≡ t'
tag_is s o t s' o' t' ho ht ho' ht' e = omega arith

one_key : (a b : Key) → key_number a ≡ key_number b → key_value a ≡ key_value b
one_key a b e =
    let s = source_is a.source.value (bit a.owner) a.tag.value b.source.value (bit b.owner) b.tag.value (bit_most a.owner) a.tag.in_range (bit_most b.owner) b.tag.in_range e in
    let o = bit_one a.owner b.owner (owner_is a.source.value (bit a.owner) a.tag.value b.source.value (bit b.owner) b.tag.value (bit_most a.owner) a.tag.in_range (bit_most b.owner) b.tag.in_range e) in
    let t = tag_is a.source.value (bit a.owner) a.tag.value b.source.value (bit b.owner) b.tag.value (bit_most a.owner) a.tag.in_range (bit_most b.owner) b.tag.in_range e in
    λ i. record { source = s i; tag = t i; owner = o i }

one_number : (a b : Key) → key_value a ≡ key_value b → key_number a ≡ key_number b
one_number a b e = ap (λ (k : KeyValue). 16 * k.source + 8 * bit k.owner + k.tag) e

small_number : (k : Key) → key_number k < 4096
small_number k = let o = bit_most k.owner in omega (arith, k.source.in_range, k.tag.in_range)

-- the key's message is in the slots of its number
pub at_number : (key : Key) (o : Option OpenMessage) (bytes : List ℕ) → is_at (key_value key) (partial_of o bytes) ≡ nat_eq (slot_number o) (key_number key)
at_number key None bytes = sym (ne_eqb 4096 (key_number key) (λ (e : 4096 ≡ key_number key). omega (arith, small_number key)))
at_number key (Some m) bytes = elim (key_cases (key_value m.key) (key_value key)) [
  | inl h ↦ h.0 ∙ sym (eq-eqb (key_number m.key) (key_number key) (one_number m.key key h.1))
  | inr h ↦ h.0 ∙ sym (ne_eqb (key_number m.key) (key_number key) (λ e. h.1 (one_key m.key key e)))
]

-- and nothing in those of the number that no key has
pub free_number : (o : Option OpenMessage) (bytes : List ℕ) → is_none (partial_of o bytes) ≡ nat_eq (slot_number o) 4096
free_number None bytes = refl
free_number (Some m) bytes = sym (ne_eqb (key_number m.key) 4096 (λ (e : key_number m.key ≡ 4096). omega (arith, small_number m.key)))

-- a slot and its number are set
pub number_set : (os : List (Option OpenMessage)) (ns : List ℕ) (i : ℕ) (o : Option OpenMessage) (n : ℕ) → take (length os) ns ≡ map slot_number os → i < length os → n ≡ slot_number o
    → take (length (set os i o)) (set ns i n) ≡ map slot_number (set os i o)
number_set os ns i o n same within e =
    ap (λ k. take k (set ns i n)) (length-set os i o) ∙ take-set-lt (length os) ns i n within ∙ ap (λ xs. set xs i n) same ∙ ap (λ m. set (map slot_number os) i m) e ∙ sym (map-set slot_number os i o)

-- a message that goes on keeps its number
number_stays : (message : OpenMessage) (before : Option OpenMessage) → IsGoneOnFrom message before → key_number message.key ≡ slot_number before
number_stays message None h = absurd h
number_stays message (Some m) h = ap key_number (sym h.0)

pub number_kept : (os : List (Option OpenMessage)) (ns : List ℕ) (i : ℕ) (o before : Option OpenMessage) (message : OpenMessage) → take (length os) ns ≡ map slot_number os
    → o ≡ Some message → before ≡ get_or os i before → IsGoneOnFrom message before → take (length (set os i o)) ns ≡ map slot_number (set os i o)
number_kept os ns i o before message same is there h =
    ap (λ k. take k ns) (length-set os i o) ∙ same ∙ sym (map-set_same slot_number os i o before (ap slot_number is ∙ number_stays message before h ∙ ap slot_number there))

-- nothing is open
pub numbers_free : (os : List (Option OpenMessage)) (k : ℕ) → All (λ o. o ≡ None) os → length os ≤ k → take (length os) (replicate k 4096) ≡ map slot_number os
numbers_free [] k empty few = refl
numbers_free (o ∷ os) zero empty few = absurd (omega arith)
numbers_free (o ∷ os) (suc k) empty few =
    let head : 4096 ≡ slot_number o = sym (ap slot_number (All-head (λ x. x ≡ None) o os empty)) in
    let rest = numbers_free os k (All-tail (λ x. x ≡ None) o os empty) (omega arith) in
    cc

-- the index of a number among the first ones
abbrev pub FoundWithin : ℕ → ℕ → ℕ → Type 0
FoundWithin count index found = (index < count → found ≡ index) × (count ≤ index → found ≡ count)

first_or_later : (b : Bool) (c : Bool) (k index found : ℕ) → b ≡ c → FoundWithin k index found → FoundWithin (suc k) (cond (not b) (1 + index) 0) (cond (not c) (1 + found) 0)
first_or_later true true k index found e h = (λ small. refl, λ large. absurd (omega arith))
first_or_later false false k index found e h = (λ small. ap (λ n. 1 + n) (h.0 (omega arith)), λ large. (let rest = h.1 (omega arith) in omega arith))
first_or_later true false k index found e h = absurd (true≢false e)
first_or_later false true k index found e h = absurd (false≢true e)

pub found_within : {O : Type 0} (test : ℕ → Bool) (number : O → ℕ) (os : List O) (ns : List ℕ) → take (length os) ns ≡ map number os
    → FoundWithin (length os) (position_or_len test ns) (position_or_len (λ o. test (number o)) os)
found_within test number [] ns same = (λ small. absurd (omega arith), λ large. refl)
found_within test number (o ∷ os) [] same = absurd (cc)
found_within test number (o ∷ os) (n ∷ ns) same =
    let head : n ≡ number o = cc in
    let rest : take (length os) ns ≡ map number os = cc in
    first_or_later (test n) (test (number o)) (length os) (position_or_len test ns) (position_or_len (λ x. test (number x)) os) (ap test head) (found_within test number os ns rest)

-- it is that of the slot
pub position_within : {O : Type 0} (test : ℕ → Bool) (number : O → ℕ) (os : List O) (ns : List ℕ) (index : ℕ) → take (length os) ns ≡ map number os
    → index ≡ position_or_len test ns → index < length os → Some index ≡ position (λ o. test (number o)) os
position_within test number os ns index same e small =
    let found = (found_within test number os ns same).0 (omega arith) in
    let at : position_or_len (λ o. test (number o)) os ≡ index = found ∙ sym e in
    let inside : nat_lt (position_or_len (λ o. test (number o)) os) (length os) ≡ true = ap (λ k. nat_lt k (length os)) at ∙ lt-ltb index (length os) small in
    sym (ap (λ b. cond b (Some (position_or_len (λ o. test (number o)) os)) None) inside ∙ ap Some at)

pub position_past : {O : Type 0} (test : ℕ → Bool) (number : O → ℕ) (os : List O) (ns : List ℕ) (index : ℕ) → take (length os) ns ≡ map number os
    → index ≡ position_or_len test ns → length os ≤ index → None ≡ position (λ o. test (number o)) os
position_past test number os ns index same e large =
    let found = (found_within test number os ns same).1 (omega arith) in
    let outside : nat_lt (position_or_len (λ o. test (number o)) os) (length os) ≡ false = ap (λ k. nat_lt k (length os)) found ∙ le-ltb (length os) (length os) (omega arith) in
    sym (ap (λ b. cond b (Some (position_or_len (λ o. test (number o)) os)) None) outside)

-- the first index of a number among all, from a search that goes over them
pub record IsFirstSoFar (test : ℕ → Bool) (ns : List ℕ) (count at first : ℕ) : Type 0 where
  pub most : first ≤ count
  pub before : (k : ℕ) → k < first → k < at → test (get_or ns k 0) ≡ false
  pub here : first < count → (first < at) × (test (get_or ns first 0) ≡ true)

pub first_found : (test : ℕ → Bool) (ns : List ℕ) (count at first : ℕ) → IsFirstSoFar test ns count at first → count ≤ at → length ns ≡ count → first ≡ position_or_len test ns
first_found test ns count at first h all long =
    sym (position_or_len_is test ns first 0 (omega (arith, h.most)) (λ k small. h.before k small (omega (arith, h.most))) (λ small. (h.here (omega arith)).1))
