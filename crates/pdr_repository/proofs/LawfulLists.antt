-- A list is lawful where it is at each place: its handles are apart from one another and from 0, and its records spelled.
use Rattle.std.{proofs.Common.{◌≡◌, ℕ, zero, suc, ◌<◌, List, length, get_or, slice_get, map, Some, sym, ap, ◌∙◌, subst, arith, inl, inr}, specs.Prelude.{Vec, option_map}, specs.List.{All}, proofs.lemmas.Bool.{cases_lt}, proofs.lemmas.List.{length-map}, proofs.lemmas.Option.{slice_get_within, slice_get_cases, same_Some, slice_get-map, get_or_from_slice_get}}
use Rattle.pdr_repository.{specs.Records.{Entry, entries, entry_of, IsLawful, IsLawfulAt, IsRecordOf}, proofs.Ascending.{AreApart}, proofs.Places.{entry_there}}

-- the handles of a list of records
abbrev pub handles_of : {Z : Type 0} → List (ℕ × Vec ℕ Z) → List ℕ
handles_of records = map (λ r. r.0) records

module _ {Z : Type 0} (records : List (ℕ × Vec ℕ Z)) where
  -- the entry at a place of the list
  pub entry_at : (k : ℕ) (f : Entry) → slice_get (entries records) k ≡ Some f → (y : ℕ × Vec ℕ Z) × (slice_get records k ≡ Some y) × (f ≡ entry_of y)
  entry_at k f there = elim (slice_get_cases records k).1 [
    | inl (y, _, here, _) ↦ (y, here, same_Some f (entry_of y) (sym there ∙ entry_there records k y here))
    | inr (past, _) ↦ absurd (omega (arith, slice_get_within (entries records) k f there, length-map records entry_of))
  ]

  handle_of_entry : (k : ℕ) (e : Entry) → slice_get (entries records) k ≡ Some e → slice_get (handles_of records) k ≡ Some e.handle
  handle_of_entry k e there =
      let y = entry_at k e there in
      slice_get-map (λ (r : ℕ × Vec ℕ Z). r.0) records k ∙ (ap (option_map (λ (r : ℕ × Vec ℕ Z). r.0)) y.1 ∙ ap (λ (g : Entry). Some g.handle) (sym y.2))

  entry_of_handle : (k d : ℕ) → k < length (handles_of records) → (e : Entry) × (slice_get (entries records) k ≡ Some e) × (e.handle ≡ get_or (handles_of records) k d)
  entry_of_handle k d within = elim (slice_get_cases records k).1 [
    | inl (y, _, here, _) ↦
        let there = slice_get-map (λ (r : ℕ × Vec ℕ Z). r.0) records k ∙ ap (option_map (λ (r : ℕ × Vec ℕ Z). r.0)) here in
        (entry_of y, entry_there records k y here, sym (get_or_from_slice_get (handles_of records) k y.0 d there))
    | inr (past, _) ↦ absurd (omega (arith, within, past, length-map records (λ (r : ℕ × Vec ℕ Z). r.0)))
  ]

  pub lawful_places : AreApart (handles_of records) → All (λ r. IsRecordOf r.0 r.1.items) records → (place : ℕ) → place < length records → IsLawfulAt (entries records) place
  lawful_places apart spelled place inside e here =
      let at = handle_of_entry place e here in
      let within = slice_get_within (handles_of records) place e.handle at in
      let value : get_or (handles_of records) place 0 ≡ e.handle = get_or_from_slice_get (handles_of records) place e.handle 0 at in
      let y = entry_at place e here in
      let S : Entry → Type 0 = λ g. IsRecordOf g.handle g.bytes in
      let R : (ℕ × Vec ℕ Z) → Type 0 = λ r. IsRecordOf r.0 r.1.items in (
        λ none. apart 0 (suc place) 0 (omega arith) (omega (arith, within)) (sym (value ∙ none)),
        λ i f there same. elim (cases_lt i place) [
          | inl less ↦
              let other : get_or (handles_of records) i 0 ≡ f.handle = get_or_from_slice_get (handles_of records) i f.handle 0 (handle_of_entry i f there) in
              absurd (apart (suc i) (suc place) 0 (omega (arith, less)) (omega (arith, within)) (other ∙ (same ∙ sym value)))
          | inr from ↦ omega arith
        ],
        subst S (sym y.2) (subst R (get_or_from_slice_get records place y.0 y.0 y.1) (spelled place y.0 inside)),
      )

  module _ (all : (place : ℕ) → place < length records → IsLawfulAt (entries records) place) where
    pub lawful_apart : AreApart (handles_of records)
    lawful_apart i zero d less within same = absurd (omega arith)
    lawful_apart zero (suc j) d less within same =
        let long = length-map records (λ (r : ℕ × Vec ℕ Z). r.0) in
        let e = entry_of_handle j d (omega (arith, within)) in
        (all j (omega (arith, within, long)) e.0 e.1).0 (e.2 ∙ sym same)
    lawful_apart (suc i) (suc j) d less within same =
        let long = length-map records (λ (r : ℕ × Vec ℕ Z). r.0) in
        let e = entry_of_handle j d (omega (arith, within)) in
        let f = entry_of_handle i d (omega (arith, within, less)) in
        let late = (all j (omega (arith, within, long)) e.0 e.1).1 i f.0 f.1 (f.2 ∙ (same ∙ sym e.2)) in
        omega (arith, late, less)

    pub lawful_spelled : All (λ r. IsRecordOf r.0 r.1.items) records
    lawful_spelled place d inside = elim (slice_get_cases records place).1 [
      | inl (y, _, here, _) ↦
          let R : (ℕ × Vec ℕ Z) → Type 0 = λ r. IsRecordOf r.0 r.1.items in
          subst R (sym (get_or_from_slice_get records place y d here)) (all place inside (entry_of y) (entry_there records place y here)).2
      | inr (past, _) ↦ absurd (omega arith)
    ]

pub lawful_list : (records : List Entry) → 0 < length records → ((place : ℕ) → place < length records → IsLawfulAt records place) → IsLawful records
lawful_list records some all = record {
  some = some;
  distinct = λ i j e f here there same.
      let low = (all i (slice_get_within records i e here) e here).1 j f there (sym same) in
      let high = (all j (slice_get_within records j f there) f there).1 i e here same in
      omega arith;
  handles = λ i e here. (all i (slice_get_within records i e here) e here).0;
  spelled = λ i e here. (all i (slice_get_within records i e here) e here).2;
}

pub from_lawful_list : (records : List Entry) → IsLawful records → (place : ℕ) → place < length records → IsLawfulAt records place
from_lawful_list records lawful place within e here =
    (lawful.handles place e here, (λ i f there same. let is = lawful.distinct i place f e there here same in omega arith), lawful.spelled place e here)
