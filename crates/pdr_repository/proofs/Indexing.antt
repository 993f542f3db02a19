-- An index of records: that it is one after the sort, and what a search of it finds.
use Rattle.std.{proofs.Common.{◌≡◌, ◌≢◌, ℕ, ◌+◌, ◌<◌, List, [], ◌∷◌, ◌++◌, length, map, take, get_or, slice_get, true, Option, Some, None, option_map, refl, sym, ap, ◌∙◌, subst, arith, inl, inr, eq-eqb}, specs.Prelude.{All, Vec, ◌==◌}, specs.List.{enumerate_from, list_any, HoldsAt}, specs.List.Sorted.{IsPermutation, IsSortedByKey, IsNonDecreasingBy, IsPartitionPoint}, specs.Ordering.{nat_cmp, ordering_index}, specs.declared.cmp.Ordering.TheVariants.{Less, Equal, Greater}, proofs.lemmas.Bool.{eqb-true, cases_lt}, proofs.lemmas.Cmp.{nat_cmp_total, ranked}, proofs.lemmas.List.{length-map, length-take-le, get_or-map, map_push, take_more}, proofs.lemmas.List.Elements.{All-map}, proofs.lemmas.List.Folds.{Any-from_list_any, list_any_at}, proofs.lemmas.List.FromFn.{length-enumerate_from, get_or-enumerate_from}, proofs.lemmas.List.Sorted.{All-permutation, list_any-IsPermutation, searchable_from_sorted}, proofs.lemmas.Option.{slice_get-get_or, slice_get_within, slice_get_cases, get_or_from_slice_get, same_Some}}
use Rattle.pdr_repository.{specs.declared.handle_index.IndexRow.{IndexRow}, specs.Records.{Entry, entries, Places}, specs.Indexes.{HasHandleAt, IsIndexOf, Locates, rows_of}, proofs.Places.{entry_there}, proofs.LawfulLists.{entry_at}}

abbrev row_at : {Z : Type 0} → (ℕ × (ℕ × Vec ℕ Z)) → IndexRow
row_at r = record { handle = r.1.0; place = r.0 }

standing_there : {Z : Type 0} (records : List (ℕ × Vec ℕ Z)) (k : ℕ) (x : ℕ × Vec ℕ Z) → slice_get records k ≡ Some x → HasHandleAt (entries records) k x.0
standing_there records k x here = ap (option_map (λ (e : Entry). e.handle)) (entry_there records k x here)

-- a record of the handle of each row stands at its place
rows_standing : {Z : Type 0} (records : List (ℕ × Vec ℕ Z)) → All (λ (row : IndexRow). HasHandleAt (entries records) row.place row.handle) (rows_of records)
rows_standing records =
    All-map (λ (row : IndexRow). HasHandleAt (entries records) row.place row.handle) row_at (enumerate_from 0 records)
    (λ k d within.
    let small : k < length records = omega (arith, length-enumerate_from 0 records) in
    let P = λ (r : ℕ × (ℕ × Vec ℕ _)). HasHandleAt (entries records) r.0 r.1.0 in
    let there = standing_there records k (get_or records k d.1) (slice_get-get_or records k d.1 small) in
    let same : 0 + k ≡ k = omega arith in
    let Q : ℕ → Type 0 = λ n. HasHandleAt (entries records) n (get_or records k d.1).0 in
    subst P (sym (get_or-enumerate_from 0 records k d small)) (subst Q (sym same) there))

-- each record's handle has a row
rows_whole : {Z : Type 0} (records : List (ℕ × Vec ℕ Z)) (place : ℕ) (e : Entry) → slice_get (entries records) place ≡ Some e → list_any (λ (row : IndexRow). row.handle == e.handle) (rows_of records) ≡ true
rows_whole records place e here =
    let y = entry_at records place e here in
    let small = slice_get_within records place y.0 y.1 in
    let long = length-enumerate_from 0 records in
    let d : ℕ × (ℕ × Vec ℕ _) = (0, y.0) in
    let row : get_or (rows_of records) place (row_at d) ≡ row_at (get_or (enumerate_from 0 records) place d) = get_or-map row_at (enumerate_from 0 records) place d (row_at d) (omega arith) in
    let is : get_or (enumerate_from 0 records) place d ≡ (0 + place, get_or records place y.0) = get_or-enumerate_from 0 records place d small in
    let handle : (get_or (rows_of records) place (row_at d)).handle ≡ e.handle =
    ap (λ (r : IndexRow). r.handle) row ∙ ap (λ (r : ℕ × (ℕ × Vec ℕ _)). r.1.0) is ∙ ap (λ (r : ℕ × Vec ℕ _). r.0) (get_or_from_slice_get records place y.0 y.0 y.1) ∙ ap (λ (f : Entry). f.handle) (sym y.2) in
    list_any_at (λ (r : IndexRow). r.handle == e.handle) (rows_of records) place (row_at d) (omega (arith, length-map (enumerate_from 0 records) row_at)) (eq-eqb _ _ handle)

pub enumerate_push : {X : Type 0} (n : ℕ) (xs : List X) (x : X) → enumerate_from n (xs ++ x ∷ []) ≡ enumerate_from n xs ++ (n + length xs, x) ∷ []
enumerate_push n [] x = let e : n ≡ n + 0 = omega arith in ap (λ k. (k, x) ∷ []) e
enumerate_push n (y ∷ ys) x =
    let e : (n + 1) + length ys ≡ n + length (y ∷ ys) = omega arith in
    ap (λ es. (n, y) ∷ es) (enumerate_push (n + 1) ys x ∙ ap (λ k. enumerate_from (n + 1) ys ++ (k, x) ∷ []) e)

-- one record more
pub rows_more : {Z : Type 0} (records : List (ℕ × Vec ℕ Z)) (i : ℕ) (x : ℕ × Vec ℕ Z) → i < length records → x ≡ get_or records i x → rows_of (take (i + 1) records) ≡ rows_of (take i records) ++ record { handle = x.0; place = i } ∷ []
rows_more records i x within is =
    let long : 0 + length (take i records) ≡ i = omega (arith, length-take-le i records (omega arith)) in
    ap rows_of (take_more records i x within)
    ∙ ap (map row_at) (enumerate_push 0 (take i records) (get_or records i x))
    ∙ map_push row_at (enumerate_from 0 (take i records)) (0 + length (take i records), get_or records i x)
    ∙ ap (λ k. rows_of (take i records) ++ record { handle = (get_or records i x).0; place = k } ∷ []) long
    ∙ ap (λ (y : ℕ × Vec ℕ _). rows_of (take i records) ++ record { handle = y.0; place = i } ∷ []) (sym is)

-- rows for all records, sorted by handle, are their index
pub sorted_index : {Z : Type 0} (records : List (ℕ × Vec ℕ Z)) (before rows : List IndexRow) → before ≡ rows_of records → IsPermutation before rows → IsSortedByKey (λ (row : IndexRow). row.handle) nat_cmp rows
    → IsIndexOf (entries records) rows
sorted_index records before rows is moved sorted =
    let P : List IndexRow → Type 0 = λ ys. IsPermutation ys rows in
    let from : IsPermutation (rows_of records) rows = subst P is moved in
    record {
      ascending = sorted;
      standing = All-permutation (λ (row : IndexRow). HasHandleAt (entries records) row.place row.handle) (rows_of records) rows from (rows_standing records);
      whole = λ place e here.
          sym (list_any-IsPermutation (λ (row : IndexRow). row.handle == e.handle) (rows_of records) rows from) ∙ rows_whole records place e here;
    }

record_of : (records : List Entry) (place handle : ℕ) → HasHandleAt records place handle → (e : Entry) × (slice_get records place ≡ Some e) × (e.handle ≡ handle)
record_of records place handle has = elim (slice_get_cases records place).1 [
  | inl (e, _, here, _) ↦ (e, here, same_Some e.handle handle (sym (ap (option_map (λ (f : Entry). f.handle)) here) ∙ has))
  | inr (_, none) ↦ absurd (let e : None ≡ Some handle = sym (ap (option_map (λ (f : Entry). f.handle)) none) ∙ has in cc)
]

-- a row with the handle says where its record stands
pub found_row : (records : List Entry) (rows : List IndexRow) (handle at : ℕ) (d : IndexRow) → IsIndexOf records rows → at < length rows
    → HoldsAt (λ (y : IndexRow). nat_cmp y.handle handle ≡ Equal) rows at → Locates records handle (Some (get_or rows at d).place)
found_row records rows handle at d index within equal =
    let row : IndexRow = get_or rows at d in
    let same : row.handle ≡ handle = ranked row.handle handle Equal (sym (equal d)) in
    let P : ℕ → Type 0 = λ n. HasHandleAt records row.place n in
    record_of records row.place handle (subst P same (index.standing at d within))

-- where the search finds no row, no record has the handle
pub found_none : (records : List Entry) (rows : List IndexRow) (handle at : ℕ) → IsIndexOf records rows
    → (IsNonDecreasingBy (λ (y : IndexRow). ordering_index (nat_cmp y.handle handle)) rows → IsPartitionPoint (λ (y : IndexRow). nat_cmp y.handle handle ≡ Less) (λ (y : IndexRow). nat_cmp y.handle handle ≡ Greater) rows at)
    → Locates records handle None
found_none records rows handle at index splits =
    let parts = splits (searchable_from_sorted nat_cmp_total (λ (y : IndexRow). y.handle) rows handle index.ascending) in
    λ place e here same.
    let (k, row, within, is, test) = Any-from_list_any (λ (y : IndexRow). y.handle == e.handle) rows (index.whole place e here) in
    let named : (get_or rows k row).handle ≡ handle = ap (λ (y : IndexRow). y.handle) is ∙ eqb-true row.handle e.handle test ∙ same in
    elim (cases_lt k at) [
      | inl before ↦
          let less : (get_or rows k row).handle < handle = ranked (get_or rows k row).handle handle Less (sym (parts.0 k row (omega arith) before)) in
          omega arith
      | inr after ↦
          let more : handle < (get_or rows k row).handle = ranked (get_or rows k row).handle handle Greater (sym (parts.1 k row after within)) in
          omega arith
    ]

-- the record that has a handle other than 0 is the one that the handle means
pub meant_named : (records : List Entry) (handle : ℕ) (place : Option ℕ) → handle ≢ 0 → Locates records handle place → Places records handle place
meant_named records handle None some none = λ (place, e, means). none place e means.stands (means.named some)
meant_named records handle (Some place) some (e, here, same) = (e, record { stands = here; first = λ zero. absurd (some zero); named = λ _. same })

-- 0 means the first record, where there is a row
pub meant_first : (records : List Entry) (rows : List IndexRow) (handle : ℕ) → handle ≡ 0 → IsIndexOf records rows → 0 < length rows → Places records handle (Some 0)
meant_first records rows handle zero index some =
    let row = get_or rows 0 (record { handle = 0; place = 0 }) in
    let (f, there, _) = record_of records row.place row.handle (index.standing 0 (record { handle = 0; place = 0 }) some) in
    let within = slice_get_within records row.place f there in
    elim (slice_get_cases records 0).1 [
      | inl (e, _, here, _) ↦ (e, record { stands = here; first = λ _. refl; named = λ other. absurd (other zero) })
      | inr (past, _) ↦ absurd (omega arith)
    ]

-- and none where there is no row
pub meant_none : (records : List Entry) (rows : List IndexRow) (handle : ℕ) → IsIndexOf records rows → length rows ≡ 0 → Places records handle None
meant_none records rows handle index empty = λ (place, e, means).
    let (k, row, within, _, _) = Any-from_list_any (λ (y : IndexRow). y.handle == e.handle) rows (index.whole place e means.stands) in
    omega arith
