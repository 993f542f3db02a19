-- Lists that are read are spelled so.
use Rattle.std.{proofs.Common.{◌≡◌, ℕ, zero, suc, ◌+◌, ◌-◌, ◌*◌, ◌/◌, ◌%◌, ◌^◌, ◌<◌, ◌≤◌, false, ltb, List, [], ◌∷◌, ◌++◌, length, get_or, take, drop, Option, Some, refl, sym, ap, ◌∙◌, arith, length-append}, proofs.NetLemmas.Options.{cond_none}, specs.Prelude.{slice_index}, proofs.lemmas.Bool.{ltb-false, le-ltb}, proofs.lemmas.List.{take_at, drop_at, take-append-drop, drop-drop, length-take, length-drop, get_or-drop, nil_from_length}}
use Rattle.byteorder.specs.Endian.{little_bytes, little_number}
use Rattle.pdr_record.{specs.Fields.{followed, bytes_of, Fit}, specs.Layouts.{StateSetValue, entities_fields, state_sets_fields}, specs.ListsAt.{entities_of, state_set_at, after_state_set, state_sets_of, after_state_sets}, specs.FieldLaws.{followed-bytes, length-followed}, specs.ListLaws.{state_sets_again}}

abbrev pub IsBytes : List ℕ → Type 0
IsBytes bytes = (i : ℕ) → get_or bytes i 0 < 256

IsBytes-drop : (n : ℕ) (bytes : List ℕ) → IsBytes bytes → IsBytes (drop n bytes)
IsBytes-drop n bytes h i = rw get_or-drop (h (n + i))

-- a number and the bytes behind it
two_front : (bytes : List ℕ) → 2 ≤ length bytes → IsBytes bytes → bytes ≡ little_bytes 2 (little_number 2 bytes) ++ drop 2 bytes
two_front [] h fits = absurd (omega arith)
two_front (a ∷ []) h fits = absurd (omega arith)
two_front (a ∷ b ∷ xs) h fits =
    let ha : a < 256 = fits 0 in
    let hb : b < 256 = fits 1 in
    let e0 : (a + 256 * (b + 256 * 0)) % 256 ≡ a = omega arith in
    let e1 : (a + 256 * (b + 256 * 0)) / 256 % 256 ≡ b = omega arith in
    λ i. sym e0 i ∷ sym e1 i ∷ xs

two_fits : (bytes : List ℕ) → IsBytes bytes → little_number 2 bytes < 2 ^ 16
two_fits bytes fits = omega (arith, fits 0, fits 1)

-- ---- entities

pub entities_count : (n : ℕ) (bytes : List ℕ) → length (entities_of n bytes) ≡ n
entities_count zero bytes = refl
entities_count (suc n) bytes = ap suc (entities_count n (drop 6 bytes))

pub entities_spelled : (n : ℕ) (bytes : List ℕ) → length bytes ≡ 6 * n → IsBytes bytes → bytes ≡ bytes_of (entities_fields (entities_of n bytes))
entities_spelled zero bytes len fits = nil_from_length bytes len
entities_spelled (suc n) bytes len fits =
    let e1 = two_front bytes (omega arith) fits in
    let e2 = two_front (drop 2 bytes) (omega (arith, length-drop 2 bytes)) (IsBytes-drop 2 bytes fits) in
    let e3 = two_front (drop 4 bytes) (omega (arith, length-drop 4 bytes)) (IsBytes-drop 4 bytes fits) in
    let rest = entities_spelled n (drop 6 bytes) (omega (arith, length-drop 6 bytes)) (IsBytes-drop 6 bytes fits) in
    e1
    ∙ ap (λ (r : List ℕ). little_bytes 2 (little_number 2 bytes) ++ r) (e2
    ∙ ap (λ (r : List ℕ). little_bytes 2 (little_number 2 (drop 2 bytes)) ++ r) (drop-drop 2 2 bytes ∙ e3
    ∙ ap (λ (r : List ℕ). little_bytes 2 (little_number 2 (drop 4 bytes)) ++ r) (drop-drop 2 4 bytes ∙ rest)))

pub entities_fit : (n : ℕ) (bytes : List ℕ) → IsBytes bytes → Fit (entities_fields (entities_of n bytes))
entities_fit zero bytes fits = tt
entities_fit (suc n) bytes fits =
    (two_fits bytes fits, (two_fits (drop 2 bytes) (IsBytes-drop 2 bytes fits), (two_fits (drop 4 bytes) (IsBytes-drop 4 bytes fits), entities_fit n (drop 6 bytes) (IsBytes-drop 6 bytes fits))))

-- ---- state sets

pub state_sets_count : (n : ℕ) (bytes : List ℕ) → length (state_sets_of n bytes) ≡ n
state_sets_count zero bytes = refl
state_sets_count (suc n) bytes = ap suc (state_sets_count n (after_state_set bytes))

pub record AreRead (sets : List StateSetValue) (bytes rest : List ℕ) : Type 0 where
  pub field : bytes ≡ followed (state_sets_fields sets) rest
  pub fits : Fit (state_sets_fields sets)

some_is : {A : Type 0} (x y : A) → Some x ≡ Some y → x ≡ y
some_is x y e = cc

pub state_sets_spelled : (n : ℕ) (bytes rest : List ℕ) → IsBytes bytes → after_state_sets n bytes ≡ Some rest → AreRead (state_sets_of n bytes) bytes rest
state_sets_spelled zero bytes rest fits e = record { field = some_is bytes rest e; fits = tt }
state_sets_spelled (suc n) [] rest fits e = absurd cc
state_sets_spelled (suc n) (a ∷ []) rest fits e = absurd cc
state_sets_spelled (suc n) (a ∷ b ∷ []) rest fits e = absurd cc
state_sets_spelled (suc n) (a ∷ b ∷ c ∷ xs) rest fits e =
    let bytes = a ∷ b ∷ c ∷ xs in
    let g = cond_none (ltb (length bytes) (3 + c)) (after_state_sets n (drop c xs)) rest e in
    let long : 3 + c ≤ length bytes = ltb-false _ _ g.0 in
    let ha : a < 256 = fits 0 in
    let hb : b < 256 = fits 1 in
    let hc : c < 256 = fits 2 in
    let later = state_sets_spelled n (drop c xs) rest (IsBytes-drop c xs (IsBytes-drop 3 bytes fits)) g.1 in
    let e0 : (a + 256 * (b + 256 * 0)) % 256 ≡ a = omega arith in
    let e1 : (a + 256 * (b + 256 * 0)) / 256 % 256 ≡ b = omega arith in
    let e2 : length (take c xs) ≡ c = omega (arith, length-take c xs) in
    let tail : xs ≡ take c xs ++ followed (state_sets_fields (state_sets_of n (drop c xs))) rest = sym (take-append-drop c xs) ∙ ap (λ (r : List ℕ). take c xs ++ r) later.field in
    record { field = λ i. sym e0 i ∷ sym e1 i ∷ sym e2 i ∷ tail i; fits = (two_fits bytes fits, (omega arith, (tt, later.fits))) }

-- the state sets at the front of bytes, and their own bytes
pub record OwnBytes (n : ℕ) (bytes own new : List ℕ) : Type 0 where
  pub same : state_sets_of n own ≡ state_sets_of n bytes
  pub whole : bytes_of (state_sets_fields (state_sets_of n own)) ≡ own
  pub field : bytes ≡ followed (state_sets_fields (state_sets_of n own)) new
  pub fits : Fit (state_sets_fields (state_sets_of n own))

pub own_bytes : (n : ℕ) (bytes own new rest : List ℕ) → IsBytes bytes → after_state_sets n bytes ≡ Some rest → bytes ≡ own ++ new → length own ≡ length bytes - length rest → OwnBytes n bytes own new
own_bytes n bytes own new rest fits e parts len =
    let read = state_sets_spelled n bytes rest fits e in
    let sets = state_sets_of n bytes in
    let front = bytes_of (state_sets_fields sets) in
    let split : bytes ≡ front ++ rest = read.field ∙ followed-bytes (state_sets_fields sets) rest in
    let long : length own ≡ length front = omega (arith, ap length split, length-append front rest) in
    let is_front : own ≡ front = sym (take_at own new (length own) refl) ∙ ap (take (length own)) (sym parts ∙ split) ∙ take_at front rest (length own) (sym long) in
    let is_new : rest ≡ new = sym (drop_at front rest (length own) (sym long)) ∙ ap (drop (length own)) (sym split ∙ parts) ∙ drop_at own new (length own) refl in
    let same : state_sets_of n own ≡ sets =
    ap (state_sets_of n) is_front ∙ ap (λ (m : ℕ). state_sets_of m (followed (state_sets_fields sets) [])) (sym (state_sets_count n bytes)) ∙ state_sets_again sets [] read.fits in
    record {
      same = same;
      whole = ap (λ (ss : List StateSetValue). bytes_of (state_sets_fields ss)) same ∙ sym is_front;
      field = rw same (read.field ∙ ap (followed (state_sets_fields sets)) is_new);
      fits = rw same read.fits;
    }

-- one more state set, or none
pub one_after : (count i : ℕ) (bytes rest : List ℕ) (total : Option (List ℕ)) → i < count → 3 + slice_index bytes 2 ≤ length bytes → rest ≡ after_state_set bytes
    → after_state_sets (count - i) bytes ≡ total → after_state_sets (count - (i + 1)) rest ≡ total
one_after count i bytes rest total lt long is so_far =
    let k : count - i ≡ suc (count - (i + 1)) = omega arith in
    let enough : ltb (length bytes) (3 + slice_index bytes 2) ≡ false = le-ltb _ _ long in
    let one : after_state_sets (count - i) bytes ≡ after_state_sets (count - (i + 1)) (after_state_set bytes) = rw (k, enough) refl in
    ap (after_state_sets (count - (i + 1))) is ∙ sym one ∙ so_far

pub shorter_after : (n : ℕ) (bytes rest : List ℕ) → IsBytes bytes → after_state_sets n bytes ≡ Some rest → length rest ≤ length bytes
shorter_after n bytes rest fits e =
    let read = state_sets_spelled n bytes rest fits e in
    omega (arith, ap length read.field, length-followed (state_sets_fields (state_sets_of n bytes)) rest)

-- the first of some
pub first_state_set : (n id size : ℕ) (bytes r1 states rest : List ℕ) → id < 2 ^ 16 → bytes_of (state_sets_fields (state_sets_of (suc n) bytes)) ≡ bytes → bytes ≡ little_bytes 2 id ++ size ∷ r1
    → r1 ≡ states ++ rest → length states ≡ size
    → (state_set_at bytes ≡ record { state_set_id = id; possible_states = states }) × (after_state_set bytes ≡ rest) × (bytes_of (state_sets_fields (state_sets_of n rest)) ≡ rest)
first_state_set n id size bytes r1 states rest fits whole e parts len =
    let is : bytes ≡ little_bytes 2 id ++ size ∷ (states ++ rest) = e ∙ ap (λ (r : List ℕ). little_bytes 2 id ++ size ∷ r) parts in
    let number : little_number 2 (little_bytes 2 id) ≡ id = omega arith in
    let front : take size (states ++ rest) ≡ states = take_at states rest size len in
    let behind : drop size (states ++ rest) ≡ rest = drop_at states rest size len in
    let after : after_state_set bytes ≡ rest = ap after_state_set is ∙ behind in
    let at : state_set_at bytes ≡ record { state_set_id = id; possible_states = states } = ap state_set_at is ∙ (λ i. record { state_set_id = number i; possible_states = front i }) in
    let later = bytes_of (state_sets_fields (state_sets_of n (after_state_set bytes))) in
    let tail : states ++ later ≡ states ++ rest = sym (ap (λ (s : StateSetValue). s.possible_states ++ later) at) ∙ ap (drop 3) (whole ∙ is) in
    let same : later ≡ rest = sym (drop_at states later size len) ∙ ap (drop size) tail ∙ behind in
    (at, after, ap (λ (bs : List ℕ). bytes_of (state_sets_fields (state_sets_of n bs))) (sym after) ∙ same)
