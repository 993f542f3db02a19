-- Handles in ascending order beside the records that have them.
use Rattle.std.{proofs.Common.{◌≡◌, ℕ, ◌+◌, ◌-◌, ◌<◌, ◌≤◌, Bool, true, false, ◌||◌, ◌==◌, List, [], ◌∷◌, ◌++◌, length, map, get_or, Result, Ok, Err, Vec, sym, ap, ◌∙◌, subst, inl, inr, arith}, specs.Prelude.{if◌then◌else◌}, specs.Result.{is_ok}, specs.List.{list_any, insert}, specs.List.Sorted.{IsNonDecreasing}, proofs.Math.Bool.{or_comm}, proofs.lemmas.Bool.{cases_lt, eq-eqb, ne_eqb}, proofs.lemmas.List.{get_or_default, map_push}, proofs.lemmas.List.Edits.{length-insert, get_or-insert_below, get_or-insert_at, get_or-insert_above}, proofs.lemmas.List.Folds.{list_any-append, list_any_none, list_any_at}, proofs.lemmas.List.Sorted.{IsNonDecreasingBy-from_default, IsPermutation-insert, list_any-IsPermutation}}
use Rattle.pdr_repository.{specs.Records.{handle_in}, specs.Handles.{AreHandlesOf, StandsAt, IsPlaceFor}}

-- where the search finds no place, no handle of the list is the one that was looked for
absent : (handles : List ℕ) (handle at : ℕ) → StandsAt handles handle (Err at) → (i d : ℕ) → i < length handles → (get_or handles i d == handle) ≡ false
absent handles handle at (_, below, above) i d within =
    let there : get_or handles i d ≡ get_or handles i 0 = get_or_default handles i d 0 within in
    ne_eqb (get_or handles i d) handle (λ same. elim (cases_lt i at) [
      | inl before ↦ (let less = below i before in absurd (omega arith))
      | inr after ↦ (let more = above i after within in absurd (omega arith))
    ])

pub found : (handles : List ℕ) (handle : ℕ) (place : Result ℕ ℕ) → StandsAt handles handle place → is_ok place ≡ list_any (λ h. h == handle) handles
found handles handle (Ok at) (within, is) = sym (list_any_at (λ h. h == handle) handles at 0 within (eq-eqb (get_or handles at 0) handle is))
found handles handle (Err at) stands = sym (list_any_none (λ h. h == handle) handles (absent handles handle at stands))

pub place_found : (handles : List ℕ) (handle at : ℕ) → IsNonDecreasing handles → StandsAt handles handle (Ok at) → IsPlaceFor handles handle at
place_found handles handle at rise (within, is) = (
  omega arith,
  λ i before. (let low = rise i at 0 (omega arith) within in omega arith),
  λ i after inside. (let high = rise at i 0 after inside in omega arith),
)

pub place_between : (handles : List ℕ) (handle at : ℕ) → StandsAt handles handle (Err at) → IsPlaceFor handles handle at
place_between handles handle at (within, below, above) = (within, λ i before. (let less = below i before in omega arith), λ i after inside. (let more = above i after inside in omega arith))

-- behind the place stands what stood one place before
moved : (handles : List ℕ) (handle at i : ℕ) → at ≤ length handles → at < i → get_or (insert handles at handle) i 0 ≡ get_or handles (i - 1) 0
moved handles handle at i within after =
    let one : i ≡ (i - 1) + 1 = omega arith in
    ap (λ k. get_or (insert handles at handle) k 0) one ∙ get_or-insert_above handles at handle 0 (i - 1) (omega arith) within

from_there : (handles : List ℕ) (handle at i : ℕ) → IsPlaceFor handles handle at → at ≤ i → i < length handles + 1 → handle ≤ get_or (insert handles at handle) i 0
from_there handles handle at i (within, below, above) after inside = elim (cases_lt at i) [
  | inl behind ↦ (let stood = moved handles handle at i within behind in let high = above (i - 1) (omega arith) (omega arith) in omega arith)
  | inr not_behind ↦ (let same : i ≡ at = omega arith in let here = ap (λ k. get_or (insert handles at handle) k 0) same ∙ get_or-insert_at handles at handle 0 within in omega arith)
]

-- a handle that is inserted at its place leaves the order
pub still_rise : (handles : List ℕ) (handle at : ℕ) → IsNonDecreasing handles → IsPlaceFor handles handle at → IsNonDecreasing (insert handles at handle)
still_rise handles handle at rise place = IsNonDecreasingBy-from_default (λ h. h) (insert handles at handle) 0 (λ i j ordered inside.
    let within : at ≤ length handles = place.0 in
    let long = length-insert handles at handle within in
    elim (cases_lt i at) [
      | inl before ↦
          let left = get_or-insert_below handles at handle 0 i before within in
          elim (cases_lt j at) [
            | inl both ↦ (let right = get_or-insert_below handles at handle 0 j both within in let low = rise i j 0 ordered (omega arith) in omega arith)
            | inr after ↦ (let low = place.1 i before in let high = from_there handles handle at j place after (omega arith) in omega arith)
          ]
      | inr after ↦ elim (cases_lt at i) [
        | inl behind ↦
            let left = moved handles handle at i within behind in
            let right = moved handles handle at j within (omega arith) in
            let low = rise (i - 1) (j - 1) 0 (omega arith) (omega arith) in
            omega arith
        | inr not_behind ↦
            let same : i ≡ at = omega arith in
            let here = ap (λ k. get_or (insert handles at handle) k 0) same ∙ get_or-insert_at handles at handle 0 within in
            let high = from_there handles handle at j place (omega arith) (omega arith) in
            omega arith
      ]
    ])

-- with the handle of one record more
pub one_more : (records : List (List ℕ)) (handles record_bytes : List ℕ) (at : ℕ) → AreHandlesOf records handles → AreHandlesOf (records ++ record_bytes ∷ []) (insert handles at (handle_in record_bytes))
one_more records handles record_bytes at are = λ handle.
    let is_it : List ℕ → Bool = λ bytes. handle_in bytes == handle in
    let more = handle_in record_bytes in
    sym (list_any-IsPermutation (λ h. h == handle) (more ∷ handles) (insert handles at more) (IsPermutation-insert handles at more))
    ∙ ap (λ b. is_it record_bytes || b) (are handle)
    ∙ or_comm (is_it record_bytes) (list_any is_it records)
    ∙ ap (λ b. list_any is_it records || b) (or_comm false (is_it record_bytes))
    ∙ sym (list_any-append is_it records (record_bytes ∷ []))

-- an insertion with room takes place
pub inserted : (result : Bool) (new handles : List ℕ) (at handle : ℕ) → new ≡ (if result then insert handles at handle else handles) → result ≡ true → new ≡ insert handles at handle
inserted result new handles at handle is done = is ∙ ap (λ b. if b then insert handles at handle else handles) done

pub still_ascending : (new handles : List ℕ) (handle at : ℕ) → new ≡ insert handles at handle → IsNonDecreasing handles → IsPlaceFor handles handle at → IsNonDecreasing new
still_ascending new handles handle at is rise place =
    let P : List ℕ → Type 0 = λ hs. IsNonDecreasing hs in
    subst P (sym is) (still_rise handles handle at rise place)

pub still_members : {Z : Type 0} (records after : List (Vec ℕ Z)) (bytes : Vec ℕ Z) (new handles : List ℕ) (handle at : ℕ) → after ≡ records ++ bytes ∷ [] → new ≡ insert handles at handle → handle ≡ handle_in bytes.items
    → AreHandlesOf (map (λ v. v.items) records) handles → AreHandlesOf (map (λ v. v.items) after) new
still_members {Z} records after bytes new handles handle at appended is named are =
    let inner : Vec ℕ Z → List ℕ = λ v. v.items in
    let there : map inner after ≡ map inner records ++ bytes.items ∷ [] = ap (map inner) appended ∙ map_push inner records bytes in
    let here : new ≡ insert handles at (handle_in bytes.items) = is ∙ ap (insert handles at) named in
    let P : List (List ℕ) → Type 0 = λ rs. AreHandlesOf rs new in
    let Q : List ℕ → Type 0 = λ hs. AreHandlesOf (map inner records ++ bytes.items ∷ []) hs in
    subst P (sym there) (subst Q (sym here) (one_more (map inner records) handles bytes.items at are))
