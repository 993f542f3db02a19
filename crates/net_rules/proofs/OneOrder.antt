-- The exact levels and places of a plan are those of one certificate.
use Rattle.std.{proofs.Common.{◌≡◌, ℕ, zero, suc, ◌+◌, ◌<◌, List, [], ◌∷◌, length, map, Option, Some, None, option_map, unwrap_or, refl, sym, ◌∙◌, ap, arith, inl, inr}, specs.Prelude.{slice_get, find, ◌==◌}, proofs.lemmas.Bool.{cases_order, eqb-true, eq-eqb, false≢true}, proofs.lemmas.List.{length-map}, proofs.lemmas.Option.{same_Some, slice_get_within}}
use Rattle.plan_values.{specs.declared.plan.Plan.{Plan}, specs.declared.certificate.Certificate.{Certificate}, specs.declared.certificate.NodeLevel.{NodeLevel}, specs.declared.certificate.NodePlaces.{NodePlaces}, specs.declared.certificate.RecordPlace.{RecordPlace}, specs.declared.terminus.PlannedRecord.{PlannedRecord}, specs.CertificateValues.{LevelValue, level_value, PlacesValue, places_value}}
use Rattle.net_rules.{specs.declared.rule.Rule.TheVariants.{C12}, specs.RecordChains.{HaveNewHandles, IsFollowedBy, AreChained, ArePlaces}, specs.Circles.{EndsAfter}, specs.PlanFaults.{PlanMeetsAll}, specs.Certificates.{AreExactLevels, AreExactPlaces}, proofs.Circling.{ends_once}, proofs.ChainLaws.{one_follows, zero_ends}, proofs.Filters.{find_cases}, proofs.LevelLaws.{one_owner}, proofs.OneCertificate.{one_list}}
use Rattle.net_tables.{specs.Ownership.{IsOwnedBy, level_given}, specs.Repositories.{records_of, places_given}, proofs.Elements.{element}}

-- what stands in a list that ascends by a key is found by its key
module _ {X : Type 0} (key : X → ℕ) (xs : List X) (up : (i j : ℕ) (x y : X) → i < j → slice_get xs i ≡ Some x → slice_get xs j ≡ Some y → key x < key y) where
  pub found_there : (i : ℕ) (x : X) → slice_get xs i ≡ Some x → find (λ y. key y == key x) xs ≡ Some x
  found_there i x is = elim (find_cases (λ y. key y == key x) xs) [
    | inl (none, fail) ↦ absurd (false≢true (sym (fail i x is) ∙ eq-eqb (key x) (key x) refl))
    | inr (j, y, at, passes, found) ↦ (
        let same_key : key y ≡ key x = eqb-true (key y) (key x) passes in
        elim (cases_order i j) [
          | inl same ↦ found ∙ ap Some (same_Some y x (sym at ∙ (ap (λ k. slice_get xs k) (sym same) ∙ is)))
          | inr (inl less) ↦ absurd (omega (arith, up i j x y less is at, same_key))
          | inr (inr more) ↦ absurd (omega (arith, up j i y x more at is, same_key))
        ])
  ]

-- ---- levels

level_in : Option NodeLevel → ℕ
level_in o = unwrap_or (option_map (λ (x : NodeLevel). x.level) o) 0

module _ (plan : Plan) where
  level_seen : (cert other : Certificate) → AreExactLevels plan cert.levels.items → AreExactLevels plan other.levels.items → (i : ℕ) (one : NodeLevel) → slice_get cert.levels.items i ≡ Some one
      → (j : ℕ) × (two : NodeLevel) × (slice_get other.levels.items j ≡ Some two) × (level_value one ≡ level_value two)
  unfolding level_in
  level_seen cert other exact exact' i one is =
      let given : level_given cert.levels.items one.node ≡ one.level = ap level_in (found_there (λ (x : NodeLevel). x.node) cert.levels.items exact.ascend i one is) in
      let same = ends_once (IsOwnedBy plan) (one_owner plan) one.node _ _ (exact.levels one.node) (exact'.levels one.node) in
      elim (find_cases (λ (x : NodeLevel). x.node == one.node) other.levels.items) [
        | inl (none, fail) ↦ absurd (let low : level_given other.levels.items one.node ≡ 0 = ap level_in none in omega (arith, exact.some i one is, given, same, low))
        | inr (j, two, at, passes, found) ↦ (
            let high : level_given other.levels.items one.node ≡ two.level = ap level_in found in
            let level : one.level ≡ two.level = sym given ∙ (same ∙ high) in
            let node : one.node ≡ two.node = sym (eqb-true two.node one.node passes) in
            (j, two, at, λ k. record { level = level k; node = node k }))
      ]

  pub one_levels : (cert other : Certificate) → AreExactLevels plan cert.levels.items → AreExactLevels plan other.levels.items → map level_value other.levels.items ≡ map level_value cert.levels.items
  one_levels cert other exact exact' =
      one_list level_value (λ one. one.node) (λ x y same. ap (λ (v : LevelValue). v.node) same) other.levels.items cert.levels.items exact'.ascend exact.ascend
      (level_seen other cert exact' exact) (level_seen cert other exact exact')

-- ---- places

module _ (records : List PlannedRecord) (named : HaveNewHandles records) where
  -- from its place a record leads to the end in as many steps as places are left
  ends_from : (places : List ℕ) (chained : AreChained records places) (left j : ℕ) (r : PlannedRecord) (is : slice_get records j ≡ Some r) → (chained j r is).place + 1 + left ≡ length records → EndsAfter (IsFollowedBy records) j left
  ends_from places chained zero j r is far = elim (chained j r is).next [
    | inr (_, none) ↦ (j, refl, zero_ends records named j r is none)
    | inl (k, other, at, there, same) ↦ (
        let next = chained k other at in
        let one_more : (chained j r is).place + 1 ≡ next.place = same_Some _ next.place (sym there ∙ next.given) in
        absurd (omega (arith, next.within, one_more, far)))
  ]
  ends_from places chained (suc left) j r is far = elim (chained j r is).next [
    | inr (last, _) ↦ absurd (omega (arith, last, far))
    | inl (k, other, at, there, same) ↦ (
        let next = chained k other at in
        let one_more : (chained j r is).place + 1 ≡ next.place = same_Some _ next.place (sym there ∙ next.given) in
        let ends = ends_from places chained left k other at (omega (arith, one_more, far)) in
        (ends.0, (k, (r, other, is, at, same), ends.1), ends.2))
  ]

  one_place : (places others : List ℕ) (chained : AreChained records places) (chained' : AreChained records others) (j : ℕ) (r : PlannedRecord) (is : slice_get records j ≡ Some r)
      → (chained j r is).place ≡ (chained' j r is).place
  one_place places others chained chained' j r is =
      let here = left_of (chained j r is).place (length records) (chained j r is).within in
      let there = left_of (chained' j r is).place (length records) (chained' j r is).within in
      let same = ends_once (IsFollowedBy records) (one_follows records named) j here.0 there.0 (ends_from places chained here.0 j r is here.1) (ends_from others chained' there.0 j r is there.1) in
      omega (arith, here.1, there.1, same)
    where
      left_of : (place count : ℕ) → place < count → (left : ℕ) × (place + 1 + left ≡ count)
      left_of place zero less = absurd (omega arith)
      left_of zero (suc count) less = (count, omega arith)
      left_of (suc place) (suc count) less = (let rest = left_of place count (omega arith) in (rest.0, omega (arith, rest.1)))

  same_numbers : (xs ys : List ℕ) → length xs ≡ length ys → ((j x : ℕ) → slice_get xs j ≡ Some x → slice_get ys j ≡ Some x) → xs ≡ ys
  same_numbers [] [] long each = refl
  same_numbers [] (y ∷ ys) long each = absurd (omega arith)
  same_numbers (x ∷ xs) [] long each = absurd (omega arith)
  same_numbers (x ∷ xs) (y ∷ ys) long each =
      let first : y ≡ x = same_Some y x (each 0 x refl) in
      let rest = same_numbers xs ys (omega arith) (λ j z at. each (suc j) z at) in
      λ i. sym first i ∷ rest i

  same_places : (places others : List ℕ) → ArePlaces records places → ArePlaces records others → places ≡ others
  same_places places others (long, chained) (long', chained') = same_numbers places others (long ∙ sym long') (λ j x at.
      let r = element records j (omega (arith, slice_get_within places j x at, long)) in
      let here = chained j r.0 r.1 in
      let there = chained' j r.0 r.1 in
      let same = one_place places others chained chained' j r.0 r.1 in
      let is : here.place ≡ x = same_Some here.place x (sym here.given ∙ at) in
      there.given ∙ ap Some (sym same ∙ is))

unfoldable pub places_in : Option NodePlaces → List ℕ
places_in o = unwrap_or (option_map (λ (x : NodePlaces). map (λ (p : RecordPlace). p.value) x.places.items) o) []

module _ (plan : Plan) (met : PlanMeetsAll plan) where
  handles : (n : ℕ) → HaveNewHandles (records_of plan n)
  handles n j r at = met C12 n (Some j) None r at

  places_seen : (cert other : Certificate) → AreExactPlaces plan cert.places.items → AreExactPlaces plan other.places.items → (i : ℕ) (one : NodePlaces) → slice_get cert.places.items i ≡ Some one
      → (j : ℕ) × (two : NodePlaces) × (slice_get other.places.items j ≡ Some two) × (places_value one ≡ places_value two)
  unfolding places_in
  places_seen cert other exact exact' i one is =
      let n = one.node in
      let given : places_given cert.places.items n ≡ map (λ (p : RecordPlace). p.value) one.places.items = ap places_in (found_there (λ (x : NodePlaces). x.node) cert.places.items exact.ascend i one is) in
      let same = same_places (records_of plan n) (handles n) _ _ (exact.places n) (exact'.places n) in
      elim (find_cases (λ (x : NodePlaces). x.node == n) other.places.items) [
        | inl (none, fail) ↦ absurd (
            let nowhere : places_given other.places.items n ≡ [] = ap places_in none in
            let long = ap length (sym given ∙ (same ∙ nowhere)) in
            omega (arith, exact.some i one is, long, length-map one.places.items (λ (p : RecordPlace). p.value)))
        | inr (j, two, at, passes, found) ↦ (
            let there : places_given other.places.items n ≡ map (λ (p : RecordPlace). p.value) two.places.items = ap places_in found in
            let places = sym given ∙ (same ∙ there) in
            let node : n ≡ two.node = sym (eqb-true two.node n passes) in
            (j, two, at, λ k. record { node = node k; places = places k }))
      ]

  pub one_places : (cert other : Certificate) → AreExactPlaces plan cert.places.items → AreExactPlaces plan other.places.items → map places_value other.places.items ≡ map places_value cert.places.items
  one_places cert other exact exact' =
      one_list places_value (λ one. one.node) (λ x y same. ap (λ (v : PlacesValue). v.node) same) other.places.items cert.places.items exact'.ascend exact.ascend
      (places_seen other cert exact' exact) (places_seen cert other exact exact')
