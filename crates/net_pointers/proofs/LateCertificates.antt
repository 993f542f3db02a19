-- What is wrong with a certificate in which no value is.
use Rattle.std.{proofs.Common.{◌≡◌, ◌+◌, inl, inr, ℕ, List, [], ◌∷◌, length, Bool, true, false, ◌&&◌, nat_le, codes, Some, None, Result, Ok, Err, refl, sym, ap, ◌∙◌}, specs.Bool.{⊤}, specs.List.{list_all}, proofs.lemmas.Option.{none-some}}
use Rattle.serde_json.{specs.Data.{Data, array, Items, no_items, item}, specs.Find.{get}}
use Rattle.net_plan.{specs.CertificateReading.{nodes_differ, ascends, entries_differ, tested, certificate}, specs.Finding.{Located, first_fault, refused}, specs.Fitting.{EachIs, HasAt, Fits}, specs.Json.{demand, found, at_key}, specs.Made.{each_made, each_in, found_or, range_made, ranks_made, certificate_made}, specs.Names.{index_among, names_differ}, specs.Reading.{then_with}, specs.Refusals.{IsWellButForNames}, specs.Tables.{a_range, a_node_ranks, a_certificate}, specs.declared.error.ValueFault.{ValueFault}, specs.declared.error.ValueFault.TheVariants.{UnknownName, Doubled}, proofs.CertificateLaw.{ends, range_makes, entries_makes}, proofs.Fitting.{none_fits, fits_none}, proofs.WordsLaw.{number_at as number_told}}
use Rattle.plan_values.specs.CertificateValues.{are_known, CertificateValue, NodeRanksValue}
use Rattle.net_pointers.{specs.Ascending.{ranges_ascend, list_ascends, entries_ascend, ranks_ascend, number_or_zero, first_in, end_in}, specs.Asks.{DoDiffer, IsDoubledIn, asks_of, certificate_text, known_nodes, list_names, texts_in}, specs.declared.doubled.TwoIndices.{TwoIndices}, specs.declared.order.NameList.{NameList}, specs.declared.order.NameList.TheVariants.{Levels, Places, Ranks}, proofs.Doubling.{first_differs}, proofs.Told.{Says}}

-- ---- what the tests of the whole say

module _ (nodes : List (List ℕ)) where
  abbrev find : List ℕ → ℕ
  find = index_among nodes

  -- the ranges of a list, as they were made
  ranges_made : (ds : Items) (end : ℕ) → EachIs (λ e. Fits None a_range e) ds → ranges_ascend end ds ≡ ascends end (each_made range_made ds)
  ranges_made no_items end h = refl
  ranges_made (item d ds) end h =
      let r = range_made d in
      let is = (range_makes nodes).there d h.0 in
      let first : first_in d ≡ r.first = ap number_or_zero ((number_told (codes "first") 0 255).whole d r.first is.first) in
      let last : end_in d ≡ r.first + r.size = ap number_or_zero (ends d r.first r.rank r.size is.first is.rank is.size) in
      ap (λ n. nat_le end n && ranges_ascend (end_in d) ds) first ∙ ap (λ n. nat_le end r.first && ranges_ascend n ds) last ∙ ap (λ b. nat_le end r.first && b) (ranges_made ds (r.first + r.size) h.1)

  entry_made : (d : Data) → Fits None a_node_ranks d → list_ascends (get (codes "ranges") d) ≡ ascends 0 (ranks_made find d).ranges
  entry_made d h =
      let at = h.1.1.0 in
      let stands : get (codes "ranges") d ≡ Some (array at.2.0) = at.1 ∙ ap Some at.2.1 in
      ap list_ascends stands ∙ ranges_made at.2.0 0 at.2.3 ∙ sym (ap (λ o. ascends 0 (found_or [] (each_in range_made) o)) stands)

  entries_made : (ds : Items) → EachIs (λ e. Fits None a_node_ranks e) ds → entries_ascend ds ≡ list_all (λ r. ascends 0 r.ranges) (each_made (ranks_made find) ds)
  entries_made no_items h = refl
  entries_made (item d ds) h = ap (λ b. b && entries_ascend ds) (entry_made d h.0) ∙ ap (λ b. ascends 0 (ranks_made find d).ranges && b) (entries_made ds h.1)

  ranks_apart : (d : Data) → Fits None a_certificate d → list_all (λ r. ascends 0 r.ranges) (certificate_made find d).ranks ≡ ranks_ascend (get (codes "ranks") d)
  ranks_apart d h =
      let at = h.1.1.1.1.0 in
      let stands : get (codes "ranks") d ≡ Some (array at.2.0) = at.1 ∙ ap Some at.2.1 in
      ap (λ o. list_all (λ (r : NodeRanksValue). ascends 0 r.ranges) (found_or [] (each_in (ranks_made find)) o)) stands ∙ sym (entries_made at.2.0 at.2.3) ∙ ap ranks_ascend (sym stands)

-- what a test of names says of a list that is there
differ_at : (k : List ℕ) (d : Data) (P : Data → Type 0) → HasAt k P d → at_key k nodes_differ d ≡ demand Doubled (names_differ (texts_in (codes "node") (get k d)))
differ_at k d P h = ap (λ o. then_with (found o) nodes_differ) h.1 ∙ ap (λ o. demand Doubled (names_differ (texts_in (codes "node") o))) (sym h.1)

-- ---- what is told then

abbrev three : (a b c : Bool) → Result ⊤ ValueFault
three a b c = then_with (demand Doubled a) (λ _. then_with (demand Doubled b) (λ _. demand Doubled c))

-- one of the lists names a node twice
entries_doubled : (d : Data) (list : NameList) (indices : TwoIndices) → IsDoubledIn (Levels ∷ Places ∷ Ranks ∷ []) list indices d
    → three (names_differ (list_names Levels d)) (names_differ (list_names Places d)) (names_differ (list_names Ranks d)) ≡ Err Doubled
entries_doubled d list indices (inl h) = rw (first_differs (list_names Levels d) indices h.1) refl
entries_doubled d list indices (inr (one, inl h)) = rw (one, first_differs (list_names Places d) indices h.1) refl
entries_doubled d list indices (inr (one, inr (other, inl h))) = rw (one, other, first_differs (list_names Ranks d) indices h.1) refl
entries_doubled d list indices (inr (one, inr (other, inr h))) = absurd h.1

module _ (nodes : List (List ℕ)) (d : Data) (none : first_fault None a_certificate d ≡ None) where
  loose : Fits None a_certificate d
  loose = none_fits None a_certificate d none

  -- what is made of the certificate
  abbrev made : CertificateValue
  made = certificate_made (index_among nodes) d

  abbrev tests : Result ⊤ ValueFault → Bool → Result CertificateValue ValueFault
  tests r b = then_with r (λ _. then_with (demand Doubled b) (λ _. then_with (demand UnknownName (are_known (length nodes) made)) (λ _. Ok made)))

  decided : (r : Result ⊤ ValueFault) → entries_differ d ≡ r → certificate nodes d ≡ tests r (ranks_ascend (get (codes "ranks") d))
  decided r e =
      ap (λ o. then_with (refused o) (λ _. then_with (entries_differ d) (λ _. tested (length nodes) made))) none ∙ ap (λ r. tests r (list_all (λ r. ascends 0 r.ranges) made.ranks)) e
      ∙ ap (tests r) (ranks_apart nodes d loose)

  are_tested : entries_differ d ≡ three (names_differ (list_names Levels d)) (names_differ (list_names Places d)) (names_differ (list_names Ranks d))
  unfolding entries_differ
  are_tested = rw (differ_at (codes "levels") d _ loose.1.1.0, differ_at (codes "places") d _ loose.1.1.1.0, differ_at (codes "ranks") d _ loose.1.1.1.1.0) refl

  node_doubled : (list : NameList) (indices : TwoIndices) → IsDoubledIn (Levels ∷ Places ∷ Ranks ∷ []) list indices d → certificate nodes d ≡ Err Doubled
  node_doubled list indices h = decided (Err Doubled) (are_tested ∙ entries_doubled d list indices h)

  -- no list has two entries of one node
  abbrev AreSingle : Type 0
  AreSingle = DoDiffer (Levels ∷ Places ∷ Ranks ∷ []) d

  single_read : AreSingle → entries_differ d ≡ Ok tt
  single_read h = are_tested ∙ rw (h.0, h.1.0, h.1.1.0) refl

  overlapping : AreSingle → ranks_ascend (get (codes "ranks") d) ≡ false → certificate nodes d ≡ Err Doubled
  overlapping h e = decided (Ok tt) (single_read h) ∙ ap (tests (Ok tt)) e

  apart : AreSingle → ranks_ascend (get (codes "ranks") d) ≡ true → certificate nodes d ≡ then_with (demand UnknownName (are_known (length nodes) made)) (λ _. Ok made)
  apart h e = decided (Ok tt) (single_read h) ∙ ap (tests (Ok tt)) e

  well_but_names : AreSingle → ranks_ascend (get (codes "ranks") d) ≡ true → IsWellButForNames (certificate nodes) d
  well_but_names h e = λ f refused. by (are_known (length nodes) made) made f (sym (apart h e) ∙ refused)
    where
      by : (b : Bool) (c : CertificateValue) (f : ValueFault) → then_with (demand UnknownName b) (λ _. Ok c) ≡ Err f → f ≡ UnknownName
      by true c f e = cc
      by false c f e = cc

  unknown_node : AreSingle → ranks_ascend (get (codes "ranks") d) ≡ true → (l : Located) → first_fault (Some (known_nodes nodes)) a_certificate d ≡ Some l → certificate nodes d ≡ Err UnknownName
  unknown_node h e l found = apart h e ∙ by (are_known (length nodes) made) refl
    where
      by : (b : Bool) → are_known (length nodes) made ≡ b → then_with (demand UnknownName b) (λ _. Ok made) ≡ Err UnknownName
      by true all = absurd (none-some l (sym (fits_none (Some (known_nodes nodes)) a_certificate d ((entries_makes nodes).known d loose all)) ∙ found))
      by false all = refl

  is_read : AreSingle → ranks_ascend (get (codes "ranks") d) ≡ true → first_fault (Some (known_nodes nodes)) a_certificate d ≡ None → (c : CertificateValue) × (certificate nodes d ≡ Ok c)
  is_read h e found = (made, apart h e ∙ ap (λ b. then_with (demand UnknownName b) (λ _. Ok made)) ((entries_makes nodes).passes d (none_fits (Some (known_nodes nodes)) a_certificate d found)))

pub certificate_says : (nodes : List (List ℕ)) (d : Data) → Says (certificate nodes) (asks_of (certificate_text nodes) d) d
certificate_says nodes d = record {
  value = λ l e. ap (λ o. then_with (refused o) (λ _. then_with (entries_differ d) (λ _. tested (length nodes) (certificate_made (index_among nodes) d)))) e;
  doubled = λ right list indices h. node_doubled nodes d right list indices h;
  overlapping = λ once e apart. overlapping nodes d once.0 once.1 apart;
  well = λ h. well_but_names nodes d h.0.0 h.0.1 (h.1 refl);
  unknown = λ h l told. unknown_node nodes d h.0.0 h.0.1 (h.1 refl) l told;
  read = λ h told. is_read nodes d h.0.0 h.0.1 (h.1 refl) told;
}
