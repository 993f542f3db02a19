-- What a reading of a table has collected.
use Rattle.std.{proofs.Common.{◌≡◌, ℕ, ◌+◌, ◌<◌, ◌≤◌, false, List, [], ◌∷◌, ◌++◌, length, get_or, take, drop, Option, None, Some, refl, sym, ap, subst, ◌∙◌, inl, inr, append_assoc, arith, length-drop}, proofs.Math.Seq.{drop-cons}, proofs.lemmas.Bool.{cases_lt}, proofs.lemmas.Bool.Decides.{eqb_tells}, proofs.lemmas.List.{take_all, append-nil, take-append-drop, take-take, drop-take}}
use Rattle.mctp_control.{specs.RouteEntries.{EntryValue}, specs.EntryLists.{entries_bytes}, specs.Replies.{handle_after as next_handle}}
use Rattle.mctp_bridge.{specs.Readers.{handle_after}, specs.Reads.{Exchange, AreShort, IsTablePart, ReadsFrom, Reads, due_from, due_after, collected, IsReadUpTo}}

take_two : (h n : ℕ) (xs : List EntryValue) → take (h + n) xs ≡ take h xs ++ take n (drop h xs)
take_two h n xs =
    sym (take-append-drop h (take (h + n) xs)) ∙ ap (λ es. es ++ drop h (take (h + n) xs)) (take-take h (h + n) xs (omega arith))
    ∙ ap (λ es. take h xs ++ es) (drop-take h n xs)

pub goes_on : (next : ℕ) → next < 255 → handle_after next ≡ Some next
goes_on next lt =
    elim (eqb_tells next 255) [
      | inl same ↦ (let is : next ≡ 255 = same.1 in absurd (omega arith))
      | inr other ↦ rw other.0 refl
    ]

-- the next handle where entries are left, and where none is
pub next_before : (table : List EntryValue) (index : ℕ) → index < length table → next_handle table index ≡ index
next_before table index lt =
    elim (eqb_tells index (length table)) [
      | inl same ↦ (let is = same.1 in absurd (omega arith))
      | inr other ↦ rw other.0 refl
    ]

pub next_last : (table : List EntryValue) (index : ℕ) → index ≤ length table → length table ≤ index → next_handle table index ≡ 255
next_last table index le ge =
    elim (eqb_tells index (length table)) [
      | inl same ↦ rw same.0 refl
      | inr other ↦ (let no = other.1 in absurd (no (omega arith)))
    ]

-- the bytes of one entry with a short address
entry_length : (e : EntryValue) → length e.address ≤ 8 → length (entries_bytes (e ∷ [])) ≤ 14
entry_length e short = rw (append-nil e.address) (omega arith)

module _ (table : List EntryValue) (are : AreShort table) where
  -- of entries that are left, one at least is told
  pub some_entry : (x : Exchange) → IsTablePart table x → x.handle < length table → 0 < length x.entries
  some_entry x part lt =
      elim (cases_lt 0 (length x.entries)) [
        | inl some ↦ some
        | inr none ↦
            (let d : EntryValue = record { size = 0; first = 0; kind = 0; fixed = false; port = 0; binding = 0; media = 0; address = [] } in
            let zero_told : length x.entries ≡ 0 = omega arith in
            let left : length x.entries < length (drop x.handle table) = simp length-drop (omega arith) in
            let cut = drop-cons table x.handle d lt in
            let most = part.most.most left in
            let front : take (length x.entries + 1) (drop x.handle table) ≡ get_or table x.handle d ∷ [] = rw (zero_told, cut) refl in
            let short = entry_length (get_or table x.handle d) (are.short x.handle d lt) in
            let long = rw front at most in
            absurd (omega arith))
      ]

  -- an answer's entries follow those before its handle
  pub follows : (before : List EntryValue) (x : Exchange) → before ≡ take x.handle table → IsTablePart table x
      → before ++ x.entries ≡ take (x.handle + length x.entries) table
  follows before x is part = ap (λ es. es ++ x.entries) is ∙ ap (λ es. take x.handle table ++ es) part.entries ∙ sym (take_two x.handle (length x.entries) table)

  -- an answer doesn't reach past the table
  pub ends_within : (x : Exchange) → IsTablePart table x → x.handle + length x.entries ≤ length table
  ends_within x part =
      let there = part.most.there in
      let cut = length-drop x.handle table in
      elim part.known [
        | inl first ↦ omega arith
        | inr within ↦ omega arith
      ]

  -- with an answer, more is read
  pub reads_more : (before : List EntryValue) (x : Exchange) → IsReadUpTo table (Some x.handle) before → IsTablePart table x
      → IsReadUpTo table (handle_after x.next) (before ++ x.entries)
  reads_more before x upto part =
      let end : ℕ = x.handle + length x.entries in
      let joined = follows before x upto.0 part in
      let P : Option ℕ → Type 0 = λ due. IsReadUpTo table due (before ++ x.entries) in
      elim (cases_lt end (length table)) [
        | inl lt ↦
            (let few = are.few in
            let more : next_handle table end ≡ end = next_before table end lt in
            let due : handle_after x.next ≡ Some end = ap handle_after (part.next ∙ more) ∙ goes_on end (omega arith) in
            subst P (sym due) (joined, inr lt))
        | inr ge ↦
            (let last : next_handle table end ≡ 255 = next_last table end (ends_within x part) ge in
            let due : handle_after x.next ≡ None = ap handle_after (part.next ∙ last) in
            subst P (sym due) (joined ∙ take_all end table ge))
      ]

  pub reads_all : (due : Option ℕ) (xs : List Exchange) (before : List EntryValue) → ReadsFrom table due xs → IsReadUpTo table due before
      → IsReadUpTo table (due_from due xs) (before ++ collected xs)
  reads_all due [] before reads upto = subst (IsReadUpTo table due) (sym (append-nil before)) upto
  reads_all due (x ∷ xs) before (is, part, rest) upto =
      let P : Option ℕ → Type 0 = λ due. IsReadUpTo table due before in
      let more = reads_more before x (subst P is upto) part in
      subst (IsReadUpTo table (due_from (handle_after x.next) xs)) (append_assoc before x.entries (collected xs))
      (reads_all (handle_after x.next) xs (before ++ x.entries) rest more)

  pub reading_collects : (xs : List Exchange) → Reads table xs → IsReadUpTo table (due_after xs) (collected xs)
  reading_collects xs reads = reads_all (Some 0) xs [] reads (refl, inl refl)

-- one exchange more
pub due_pushed : (due : Option ℕ) (xs : List Exchange) (x : Exchange) → due_from due (xs ++ x ∷ []) ≡ handle_after x.next
due_pushed due [] x = refl
due_pushed due (y ∷ ys) x = due_pushed (handle_after y.next) ys x

pub collected_pushed : (xs : List Exchange) (x : Exchange) → collected (xs ++ x ∷ []) ≡ collected xs ++ x.entries
collected_pushed [] x = append-nil x.entries
collected_pushed (y ∷ ys) x = ap (λ es. y.entries ++ es) (collected_pushed ys x) ∙ sym (append_assoc y.entries (collected ys) x.entries)

pub reads_pushed : (table : List EntryValue) (due : Option ℕ) (xs : List Exchange) (x : Exchange) → ReadsFrom table due xs
    → due_from due xs ≡ Some x.handle → IsTablePart table x → ReadsFrom table due (xs ++ x ∷ [])
reads_pushed table due [] x reads is part = (is, part, tt)
reads_pushed table due (y ∷ ys) x (at, told, rest) is part = (at, told, reads_pushed table (handle_after y.next) ys x rest is part)
