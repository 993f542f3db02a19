-- As many entries as fit.
use Rattle.std.{proofs.Common.{◌≡◌, ◌≢◌, ℕ, ◌+◌, ◌-◌, ◌<◌, ◌≤◌, ◌==◌, if◌then◌else◌, List, ◌∷◌, length, take, drop, refl, ◌∙◌, length-take, length-drop, arith}, proofs.lemmas.List.{take-map, drop-map, take_all, length-take-le}}
use Rattle.mctp_control.{specs.RouteEntries.{entry_value}, specs.EntryLists.{entries_bytes, values_of}, specs.Replies.{IsMost, EntriesReplies}, specs.declared.route_entry.RouteEntry.{RouteEntry}, proofs.EntryReading.{six_each, length_values}}

pub is_most : (es : List RouteEntry) (n : ℕ) → n ≤ length es → length (entries_bytes (values_of (take n es))) ≤ 58
    → (n < length es → 58 < length (entries_bytes (values_of (take (n + 1) es)))) → IsMost (values_of es) n
is_most es n there fit most = record {
  there = rw (length_values es) there;
  fit = rw (take-map entry_value n es) fit;
  most = λ l. rw (take-map entry_value (n + 1) es) (most (rw (length_values es) at l));
}

-- nine entries at most fit
pub few_fit : (es : List RouteEntry) (n : ℕ) → n ≤ length es → length (entries_bytes (values_of (take n es))) ≤ 58 → n ≤ 9
few_fit es n there fit =
    let a = six_each (values_of (take n es)) in
    let b = length_values (take n es) ∙ length-take n es in
    omega (arith, a, b)

-- what is left of a list from an index on
pub rest_of : (es : List RouteEntry) (h : ℕ) → take (length es - h) (drop h es) ≡ drop h es
rest_of es h = take_all (length es - h) (drop h es) (rw (length-drop h es) (omega arith))

-- the entries that the answer has are those of the definition
pub is_told : (es : List RouteEntry) (h n next : ℕ) → (h ≢ 0 → length es ≤ h → ⊥) → IsMost (values_of (drop h es)) n
    → next ≡ (if h + n == length es then 255 else h + n)
    → EntriesReplies (values_of es) h (0 ∷ next ∷ length (take n (drop h es)) ∷ entries_bytes (values_of (take n (drop h es))))
is_told es h n next never most e = record {
  invalid = λ nonzero out. absurd (never nonzero (rw (length_values es) at out));
  told = λ _. (
    n,
    rw drop-map most,
    rw (length_values es, drop-map, take-map, ← e, length-take-le n (drop h es) (rw (length_values (drop h es)) at most.there)) refl,
  );
}
