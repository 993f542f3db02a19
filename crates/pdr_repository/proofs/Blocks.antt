-- Records copied one after another into a block.
use Rattle.std.{proofs.Common.{◌≡◌, ℕ, ◌+◌, ◌-◌, ◌^◌, ◌<◌, ◌≤◌, List, [], ◌∷◌, ◌++◌, length, take, drop, get_or, slice_get, Some, refl, sym, ap, ◌∙◌, subst, arith}, specs.Prelude.{All, Vec, option_map, sum_by}, proofs.lemmas.List.{drop-append-le, drop_at, take-append-le, take_all, map_more, map_push, length-append, length-drop, length_push}, proofs.lemmas.List.Elements.{All-head, All-tail, All-push, All-weaker}, proofs.lemmas.List.Sums.{sum_by_more, sum_by_more_le}, proofs.lemmas.Option.{slice_get-map}}
use Rattle.pdr_repository.{specs.declared.record_block.Span.{Span}, specs.Records.{Entry, entries, entry_of}, specs.RecordBlocks.{IsSpanIn, entry_in, entries_in}}

entry_kept : (block more : List ℕ) (s : Span) → IsSpanIn block s → entry_in (block ++ more) s ≡ entry_in block s
entry_kept block more s is =
    let below : s.start ≤ length block = omega (arith, is.ordered, is.within) in
    let first : drop s.start (block ++ more) ≡ drop s.start block ++ more = drop-append-le s.start block more below in
    let fits : s.end - s.start ≤ length (drop s.start block) = omega (arith, length-drop s.start block, is.ordered, is.within) in
    let bytes : take (s.end - s.start) (drop s.start (block ++ more)) ≡ take (s.end - s.start) (drop s.start block) =
    ap (take (s.end - s.start)) first ∙ take-append-le (s.end - s.start) (drop s.start block) more fits in
    ap (λ (bs : List ℕ). record { handle = s.handle; bytes = bs }) bytes

-- bytes behind the block change no record in it
entries_kept : (block more : List ℕ) (spans : List Span) → All (IsSpanIn block) spans → entries_in (block ++ more) spans ≡ entries_in block spans
entries_kept block more [] all = refl
entries_kept block more (s ∷ spans) all =
    let rest : List Entry = entries_in (block ++ more) spans in
    ap (λ (e : Entry). e ∷ rest) (entry_kept block more s (All-head (IsSpanIn block) s spans all))
    ∙ ap (λ (es : List Entry). entry_in block s ∷ es) (entries_kept block more spans (All-tail (IsSpanIn block) s spans all))

span_kept : (block more : List ℕ) (s : Span) → IsSpanIn block s → IsSpanIn (block ++ more) s
span_kept block more s is = record { ordered = is.ordered; within = omega (arith, length-append block more, is.within); short = is.short }

-- the bytes that were copied last are those of the last span
entry_pushed : (block more : List ℕ) (named start end : ℕ) → start ≡ length block → end ≡ length (block ++ more) → entry_in (block ++ more) (record { handle = named; start = start; end = end }) ≡ record { handle = named; bytes = more }
entry_pushed block more named start end begins ends =
    let behind : drop start (block ++ more) ≡ more = drop_at block more start (sym begins) in
    let long : length more ≤ end - start = omega (arith, length-append block more, begins, ends) in
    let bytes : take (end - start) (drop start (block ++ more)) ≡ more = ap (take (end - start)) behind ∙ take_all (end - start) more long in
    ap (λ (bs : List ℕ). record { handle = named; bytes = bs }) bytes

abbrev pub total : {Z : Type 0} → List (ℕ × Vec ℕ Z) → ℕ
total records = sum_by (λ r. length r.1.items) records

-- the block and the spans hold these records, by place
pub record IsFilled {Z : Type 0} (records : List (ℕ × Vec ℕ Z)) (block : List ℕ) (spans : List Span) : Type 0 where
  pub placed : entries_in block spans ≡ entries records
  pub within : All (IsSpanIn block) spans

-- what holds of the block after the first i records: there is room for the others
pub record IsFilledTo {Z : Type 0} (records : List (ℕ × Vec ℕ Z)) (i : ℕ) (block : List ℕ) (spans : List Span) (bytes places : ℕ) : Type 0 where
  pub filled : IsFilled (take i records) block spans
  pub copied : length block ≡ total (take i records)
  pub counted : length spans ≡ i
  pub bytes_left : total records ≤ bytes
  pub places_left : length records ≤ places

-- the next record has room
pub fits : {Z : Type 0} (records : List (ℕ × Vec ℕ Z)) (i : ℕ) (x : ℕ × Vec ℕ Z) (block more : List ℕ) (spans : List Span) (bytes places : ℕ) → i < length records → x ≡ get_or records i x → more ≡ x.1.items
    → IsFilledTo records i block spans bytes places → length block + length more ≤ bytes
fits records i x block more spans bytes places inside is copied so_far =
    let below = sum_by_more_le (λ r. length r.1.items) records i x inside in
    let long : length more ≡ length (get_or records i x).1.items = ap length copied ∙ ap (λ (r : ℕ × Vec ℕ _). length r.1.items) is in
    omega (arith, so_far.copied, so_far.bytes_left)

-- one record more
pub filled_more : {Z : Type 0} (records : List (ℕ × Vec ℕ Z)) (i : ℕ) (x : ℕ × Vec ℕ Z) (block more : List ℕ) (spans : List Span) (start end : ℕ) → i < length records → x ≡ get_or records i x
    → more ≡ x.1.items → start ≡ length block → end ≡ length (block ++ more) → length more < 2 ^ 32 → IsFilled (take i records) block spans
    → IsFilled (take (i + 1) records) (block ++ more) (spans ++ record { handle = x.0; start = start; end = end } ∷ [])
filled_more records i x block more spans start end inside is copied begins ends short filled =
    let s : Span = record { handle = x.0; start = start; end = end } in
    let last : entry_in (block ++ more) s ≡ entry_of (get_or records i x) =
    entry_pushed block more x.0 start end begins ends ∙ ap (λ (bs : List ℕ). record { handle = x.0; bytes = bs }) copied ∙ ap entry_of is in
    let before : entries_in (block ++ more) spans ≡ entries (take i records) = entries_kept block more spans filled.within ∙ filled.placed in
    let long = length-append block more in
    record {
      placed = map_push (entry_in (block ++ more)) spans s
          ∙ ap (λ (es : List Entry). es ++ entry_in (block ++ more) s ∷ []) before
          ∙ ap (λ (e : Entry). entries (take i records) ++ e ∷ []) last
          ∙ sym (map_more entry_of records i x inside);
      within = All-push (IsSpanIn (block ++ more)) spans s
          (All-weaker (IsSpanIn block) (IsSpanIn (block ++ more)) (span_kept block more) spans filled.within)
          (record { ordered = omega (arith, long, begins, ends); within = omega (arith, ends); short = omega (arith, long, begins, ends, short) });
    }

-- the same with the room
pub filled_to_more : {Z : Type 0} (records : List (ℕ × Vec ℕ Z)) (i : ℕ) (x : ℕ × Vec ℕ Z) (block more grown : List ℕ) (spans : List Span) (start end bytes places larger : ℕ) → i < length records → x ≡ get_or records i x
    → more ≡ x.1.items → grown ≡ block ++ more → start ≡ length block → end ≡ length grown → length more < 2 ^ 32 → bytes ≤ larger → IsFilledTo records i block spans bytes places
    → IsFilledTo records (i + 1) grown (spans ++ record { handle = x.0; start = start; end = end } ∷ []) larger places
filled_to_more records i x block more grown spans start end bytes places larger inside is copied grows begins ends short wider so_far =
    let s : Span = record { handle = x.0; start = start; end = end } in
    let P : List ℕ → Type 0 = λ bs. IsFilled (take (i + 1) records) bs (spans ++ s ∷ []) in
    let long : length more ≡ length (get_or records i x).1.items = ap length copied ∙ ap (λ (r : ℕ × Vec ℕ _). length r.1.items) is in
    let sum = sum_by_more (λ r. length r.1.items) records i x inside in
    let joined : length grown ≡ length block + length more = ap length grows ∙ length-append block more in
    record {
      filled = subst P (sym grows) (filled_more records i x block more spans start end inside is copied begins (ends ∙ ap length grows) short so_far.filled);
      copied = omega (arith, so_far.copied);
      counted = omega (arith, length_push spans s, so_far.counted);
      bytes_left = omega (arith, so_far.bytes_left);
      places_left = so_far.places_left;
    }

-- what stands at a place of the spans is the record that it holds
pub held_there : (block : List ℕ) (spans : List Span) (place : ℕ) (s : Span) → slice_get spans place ≡ Some s → slice_get (entries_in block spans) place ≡ Some (entry_in block s)
held_there block spans place s here = slice_get-map (entry_in block) spans place ∙ ap (option_map (entry_in block)) here
