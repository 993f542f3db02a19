-- Lines of a text, and where bytes stand in them.
use Rattle.std.{proofs.Common.{◌≡◌, ℕ, ◌<◌, ◌≤◌, ◌+◌, ◌-◌, ◌++◌, List, [], ◌∷◌, length, arith, refl, ap, sym, ◌∙◌, take, drop, true, false, get_or, not, Option, None, Some, MatchOption, inl, inr, map, append_assoc, length-append}, proofs.lemmas.List.{length-map}, proofs.lemmas.List.Sums.{position_or_len_is, suffix_len_is, fails_before_first}, proofs.lemmas.List.Splits.{slice_split_first, slice_split_none}}
use Rattle.bus_captures.{specs.declared.sort.Sort.{Sort}, specs.declared.capture.Entry.{Entry}, specs.Adding.{IsAdded}, specs.Hex.{IsHex}, specs.Captures.{lines_of, AreEntries, IsText}, specs.Lines.{IsNothing, IsEntryLine, IsEntryText, head_of}, specs.Sorts.{is_of, before, behind}, specs.Values.{EntryValue, entry_value}}
use Rattle.bus_captures.specs.declared.sort.Sort.TheVariants as sort
use Rattle.bus_captures.specs.declared.capture.CaptureFault.TheVariants as fault
use Rattle.bus_captures.specs.declared.capture.End.TheVariants as end
use Rattle.bus_captures.specs.declared.text.Added.TheVariants as added

-- the first byte of a sort, by what stands before it
pub before_is : (s : Sort) (text : List ℕ) (n : ℕ) → n ≤ length text → ((k : ℕ) → k < n → is_of s (get_or text k 0) ≡ false) → (n < length text → is_of s (get_or text n 0) ≡ true) → n ≡ before s text
before_is s text n within none here = sym (position_or_len_is (is_of s) text n 0 within none here)

-- the last byte of a sort, by what stands behind it
pub behind_is : (s : Sort) (text : List ℕ) (n : ℕ) → n ≤ length text → ((k : ℕ) → n ≤ k → k < length text → is_of s (get_or text k 0) ≡ false)
    → (0 < n → is_of s (get_or text (n - 1) 0) ≡ true) → length text - n ≡ behind s text
behind_is s text n within none here =
    sym (suffix_len_is (λ b. not (is_of s b)) text n 0 within (λ k low high. ap not (none k low high)) (λ some. ap not (here some)))

pub first_line : (text : List ℕ) (n : ℕ) → n ≡ before sort.LineEnd text → n < length text → lines_of text ≡ take n text ∷ lines_of (drop (n + 1) text)
first_line text n e within =
    rw e (slice_split_first (is_of sort.LineEnd) text 0 (omega arith))

pub only_line : (text : List ℕ) (n : ℕ) → n ≡ before sort.LineEnd text → length text ≤ n → lines_of text ≡ text ∷ []
only_line text n e within =
    slice_split_none (is_of sort.LineEnd) text (λ k d there. fails_before_first (is_of sort.LineEnd) text k d (omega arith))

-- a line that is nothing changes nothing
pub one_more_nothing : (lines : List (List ℕ)) (entries : List EntryValue) (line : List ℕ) → AreEntries lines entries → IsNothing line → AreEntries (lines ++ line ∷ []) entries
one_more_nothing [] entries line are is = inl (is, are)
one_more_nothing (l ∷ lines) entries line are is = elim are [
  | inl a ↦ inl (a.0, one_more_nothing lines entries line a.1 is)
  | inr x ↦ inr (x.0, x.1, x.2, x.3, one_more_nothing lines x.1 line x.4 is)
]

-- a line that is an entry adds it
pub one_more_entry : (lines : List (List ℕ)) (entries : List EntryValue) (line : List ℕ) (e : EntryValue) → AreEntries lines entries → IsEntryLine line e → AreEntries (lines ++ line ∷ []) (entries ++ e ∷ [])
one_more_entry [] entries line e are is = inr (e, [], is, ap (λ xs. xs ++ e ∷ []) are, refl)
one_more_entry (l ∷ lines) entries line e are is = elim are [
  | inl a ↦ inl (a.0, one_more_entry lines entries line e a.1 is)
  | inr x ↦ inr (x.0, x.1 ++ e ∷ [], x.2, ap (λ xs. xs ++ e ∷ []) x.3, one_more_entry lines x.1 line e x.4 is)
]

-- where the bytes in hex are none, the text is no entry
pub no_bytes : (text hex : List ℕ) → hex ≡ (head_of text).hex → ((bytes : List ℕ) → IsHex hex bytes → length bytes ≡ 0) → (e : EntryValue) → IsEntryText text e → ⊥
no_bytes text hex same none e is =
    let empty = none is.raw (rw same is.hex) in
    let some = is.some in
    omega arith

-- the lines so far are the entries, and these lines are left
pub record HasRead (text : List ℕ) (entries : List EntryValue) (place : ℕ) (left : List (List ℕ)) : Type 0 where
  pub done : List (List ℕ)
  pub spelled : lines_of text ≡ done ++ left
  pub each : AreEntries done entries
  pub counted : place ≡ length done

-- one more line is read
pub line_read : (text line : List ℕ) (place : ℕ) (left rest : List (List ℕ)) (old new : List Entry)
    → HasRead text (map entry_value old) place left → left ≡ line ∷ rest → IsAdded line old new added.Done
    → HasRead text (map entry_value new) (place + 1) rest
line_read text line place left rest old new read first added = record {
  done = read.done ++ line ∷ [];
  spelled = read.spelled ∙ ap (λ xs. read.done ++ xs) first ∙ sym (append_assoc read.done (line ∷ []) rest);
  each = elim added [
    | inl a ↦ rw a.1 (one_more_nothing read.done (map entry_value old) line read.each a.0)
    | inr a ↦ rw a.2 (one_more_entry read.done (map entry_value old) line a.0 read.each a.1)
  ];
  counted = omega (arith, read.counted, length-append read.done (line ∷ []));
}

pub ends_whole : (text : List ℕ) (entries : List EntryValue) (place : ℕ) → HasRead text entries place [] → IsText text entries end.Whole
ends_whole text entries place read = record { done = read.done; left = []; spelled = read.spelled; each = read.each; ends = refl }

pub ends_full : (text line : List ℕ) (place : ℕ) (left rest : List (List ℕ)) (old new : List Entry)
    → HasRead text (map entry_value old) place left → left ≡ line ∷ rest → IsAdded line old new added.Full → IsText text (map entry_value new) end.Full
ends_full text line place left rest old new read first added =
    rw added.2 (record {
      done = read.done;
      left = left;
      spelled = read.spelled;
      each = read.each;
      ends = (length-map old entry_value ∙ added.1, (line, rest, added.0.0, first, added.0.1));
    })

-- the first line, whatever stands behind it
pub first_of : {X : Type 0} (o : Option X) (lines : List (List ℕ)) (line : List ℕ) (f : X → List (List ℕ))
    → MatchOption o (lines ≡ line ∷ []) (λ r. lines ≡ line ∷ f r) → (rest : List (List ℕ)) × (lines ≡ line ∷ rest)
first_of None lines line f h = ([], h)
first_of (Some r) lines line f h = (f r, h)
