-- A well-formed certificate stands in the JSON value that is written of it.
use Rattle.std.{proofs.Common.{◌≡◌, ◌≢◌, ℕ, zero, suc, ◌<◌, List, [], ◌∷◌, length, map, get_or, true, nat_lt, ◌&&◌, Some, Ok, refl, sym, ap, ◌∙◌, arith, AllPairs, subst, None, ◌≤◌, ◌⊎◌, ⊎_elim, inl, inr}, proofs.lemmas.Bool.{ltb-true}, proofs.lemmas.List.{length-map}, proofs.lemmas.Option.{slice_get-get_or, get_or_from_slice_get}, specs.List.{list_all, AllByRecursion}, proofs.lemmas.List.Elements.{recursion_from_All}}
use Rattle.serde_json.{specs.Data.{Data}, specs.View.{items_of}, specs.Read.{read}}
use Rattle.net_plan.{specs.CertificateJson.{list_data, number_data, name_data, level_data, places_data, range_data, ranks_data, certificate_data, certificate_text}, specs.CertificateReading.{certificate}, specs.CertificateText.{IsLevelOf, ArePlacesOf, IsRangeOf, AreRanksOf, IsCertificateOf}, specs.JsonWords.{AreItems, IsNumberWithin, IsIndexOfName, IsFirstOf}, specs.Keys.{certificate_keys, level_keys, places_keys, ranks_keys, range_keys}, specs.Refusals.{IsFaulty, IsRefused}, specs.Texts.{IsJsonTextOf}, specs.declared.error.ValueFault.{ValueFault}, specs.declared.error.PlanError.{PlanError}, proofs.SingleKeys.{not_doubled}, proofs.CertificateLaw.{certificate_tells}, proofs.KeysLaw.{keys_sound}, proofs.Telling.{both, same_Ok}}
use Rattle.plan_values.{specs.CertificateValues.{are_known, IsAscending, CertificateValue, level_value, places_value, range_value, node_ranks_value, certificate_value}, specs.NameText.{is_name}, specs.PlanValues.{PlanValue, node_value, node_names, plan_value}, specs.WellFormed.{IsWellFormed}, specs.declared.certificate.Certificate.{Certificate}, specs.declared.certificate.NodeLevel.{NodeLevel}, specs.declared.certificate.NodePlaces.{NodePlaces}, specs.declared.certificate.NodeRanks.{NodeRanks}, specs.declared.certificate.RankRange.{RankRange}, specs.declared.certificate.RecordPlace.{RecordPlace}, specs.declared.nodes.Node.{Node}, specs.declared.plan.Plan.{Plan}}
use Rattle.net_plan.specs.declared.error.ValueFault.TheVariants as fault
use Rattle.net_plan.specs.declared.error.PlanError.TheVariants as errors

spelled : (ns : List Node) (k : ℕ) → k < length (node_names (map node_value ns)) → is_name (get_or (node_names (map node_value ns)) k []) ≡ true
spelled [] k within = absurd (omega arith)
spelled (n ∷ ns) zero within = n.name.spelled
spelled (n ∷ ns) (suc k) within = spelled ns k (omega arith)

module _ (names : List (List ℕ)) (lawful : (k : ℕ) → k < length names → is_name (get_or names k []) ≡ true) (differ : AllPairs (λ a b. a ≢ b) names) where
  is_index : (k : ℕ) → nat_lt k (length names) ≡ true → IsIndexOfName names (name_data names k) k
  is_index k known =
      let within : k < length names = ltb-true k (length names) known in
      let first : IsFirstOf names (get_or names k []) k = record {
        stands = slice_get-get_or names k [] within;
        first = λ j below here. differ j k [] below within (get_or_from_slice_get names j (get_or names k []) [] here);
      } in
      (get_or names k [], (refl, lawful k within), first)

  level_stands : (l : NodeLevel) → nat_lt l.node (length names) ≡ true → IsLevelOf names (level_data names (level_value l)) (level_value l)
  level_stands l known = record {
    keys = keys_sound level_keys (level_data names (level_value l)) tt refl;
    level = (number_data l.level, refl, (refl, l.owned, l.within));
    node = (name_data names l.node, refl, is_index l.node known);
  }

  levels_stand : (ls : List NodeLevel) → list_all (λ l. nat_lt l.node (length names)) (map level_value ls) ≡ true → AreItems (IsLevelOf names) (items_of (map (level_data names) (map level_value ls))) (map level_value ls)
  levels_stand [] known = tt
  levels_stand (l ∷ ls) known =
      let p = both (nat_lt l.node (length names)) (list_all (λ l. nat_lt l.node (length names)) (map level_value ls)) known in
      (level_stands l p.0, levels_stand ls p.1)

  numbers_stand : (ps : List RecordPlace) → AreItems (IsNumberWithin 0 4095) (items_of (map number_data (map (λ place. place.value) ps))) (map (λ place. place.value) ps)
  numbers_stand [] = tt
  numbers_stand (p ∷ ps) = (let below : p.value < 4096 = p.in_range in (refl, omega arith, omega arith), numbers_stand ps)

  places_stand : (p : NodePlaces) → nat_lt p.node (length names) ≡ true → ArePlacesOf names (places_data names (places_value p)) (places_value p)
  places_stand p known = record {
    keys = keys_sound places_keys (places_data names (places_value p)) tt refl;
    node = (name_data names p.node, refl, is_index p.node known);
    places = (list_data number_data (places_value p).places, refl, (items_of (map number_data (places_value p).places), refl, numbers_stand p.places.items));
  }

  all_places_stand : (ps : List NodePlaces) → list_all (λ p. nat_lt p.node (length names)) (map places_value ps) ≡ true → AreItems (ArePlacesOf names) (items_of (map (places_data names) (map places_value ps))) (map places_value ps)
  all_places_stand [] known = tt
  all_places_stand (p ∷ ps) known =
      let q = both (nat_lt p.node (length names)) (list_all (λ p. nat_lt p.node (length names)) (map places_value ps)) known in
      (places_stand p q.0, all_places_stand ps q.1)

  range_stands : (r : RankRange) → IsRangeOf (range_data (range_value r)) (range_value r)
  range_stands r =
      let small : r.first.value < 256 = r.first.in_range in
      record {
        keys = keys_sound range_keys (range_data (range_value r)) tt refl;
        first = (number_data r.first.value, refl, (refl, omega arith, omega arith));
        rank = (number_data r.rank, refl, (refl, r.ranked, r.rank_within));
        size = (number_data r.size, refl, (refl, r.some, r.size_within));
        within = r.within;
      }

  ranges_stand : (rs : List RankRange) → AreItems IsRangeOf (items_of (map range_data (map range_value rs))) (map range_value rs)
  ranges_stand [] = tt
  ranges_stand (r ∷ rs) = (range_stands r, ranges_stand rs)

  ranks_stand : (r : NodeRanks) → nat_lt r.node (length names) ≡ true → IsAscending (node_ranks_value r).ranges → AreRanksOf names (ranks_data names (node_ranks_value r)) (node_ranks_value r)
  ranks_stand r known ascending = record {
    keys = keys_sound ranks_keys (ranks_data names (node_ranks_value r)) tt refl;
    node = (name_data names r.node, refl, is_index r.node known);
    ranges = (list_data range_data (node_ranks_value r).ranges, refl, (items_of (map range_data (node_ranks_value r).ranges), refl, ranges_stand r.ranges.items));
    ascending = ascending;
  }

  all_ranks_stand : (rs : List NodeRanks) → list_all (λ r. nat_lt r.node (length names)) (map node_ranks_value rs) ≡ true → AllByRecursion (λ r. IsAscending r.ranges) (map node_ranks_value rs)
      → AreItems (AreRanksOf names) (items_of (map (ranks_data names) (map node_ranks_value rs))) (map node_ranks_value rs)
  all_ranks_stand [] known ascending = tt
  all_ranks_stand (r ∷ rs) known ascending =
      let p = both (nat_lt r.node (length names)) (list_all (λ r. nat_lt r.node (length names)) (map node_ranks_value rs)) known in
      (ranks_stand r p.0 ascending.0, all_ranks_stand rs p.1 ascending.1)

pub stands_written : (p : Plan) (c : Certificate) → IsWellFormed (plan_value p) (certificate_value c) → IsCertificateOf (plan_value p) (certificate_data (node_names (plan_value p).nodes) (certificate_value c)) (certificate_value c)
unfolding certificate_data
stands_written p c h =
    let names = node_names (plan_value p).nodes in
    let value = certificate_value c in
    let lawful : (k : ℕ) → k < length names → is_name (get_or names k []) ≡ true = spelled p.nodes.items in
    let known : are_known (length names) value ≡ true = ap (λ n. are_known n value) (length-map (plan_value p).nodes (λ n. n.name)) ∙ h.known in
    let parts = both (list_all (λ l. nat_lt l.node (length names)) value.levels) (list_all (λ q. nat_lt q.node (length names)) value.places && list_all (λ r. nat_lt r.node (length names)) value.ranks) known in
    let lists = both (list_all (λ q. nat_lt q.node (length names)) value.places) (list_all (λ r. nat_lt r.node (length names)) value.ranks) parts.1 in
    let ascending = recursion_from_All (λ r. IsAscending r.ranges) value.ranks h.ascending in
    record {
      keys = keys_sound certificate_keys (certificate_data names value) tt refl;
      format = (number_data 1, refl, refl);
      levels = (list_data (level_data names) value.levels, refl, (items_of (map (level_data names) value.levels), refl, levels_stand names lawful h.names c.levels.items parts.0));
      places = (list_data (places_data names) value.places, refl, (items_of (map (places_data names) value.places), refl, all_places_stand names lawful h.names c.places.items lists.0));
      ranks = (list_data (ranks_data names) value.ranks, refl, (items_of (map (ranks_data names) value.ranks), refl, all_ranks_stand names lawful h.names c.ranks.items lists.1 ascending));
      one_level = h.one_level;
      one_places = h.one_places;
      one_ranks = h.one_ranks;
    }

-- ---- what is read of a text that stands for a certificate

same_value : (nodes : List (List ℕ)) (d : Data) (v w : CertificateValue) → certificate nodes d ≡ Ok v → certificate nodes d ≡ Ok w → v ≡ w
same_value nodes d v w e f = same_Ok (sym e ∙ f)

same_data : (bytes : List ℕ) (d e : Data) → read bytes ≡ Some d → read bytes ≡ Some e → d ≡ e
same_data bytes d e p q = let both : Some d ≡ Some e = sym p ∙ q in cc

module _ (p : PlanValue) (bytes : List ℕ) (v : CertificateValue) (stands : IsJsonTextOf (IsCertificateOf p) bytes v) where
  pub one_certificate : (w : CertificateValue) → IsJsonTextOf (IsCertificateOf p) bytes w → w ≡ v
  one_certificate w other =
      let here : IsCertificateOf p stands.0 w = subst (λ d. IsCertificateOf p d w) (same_data bytes other.0 stands.0 other.1.1 stands.1.1) other.3 in
      same_value (node_names p.nodes) stands.0 w v ((certificate_tells p).whole stands.0 w here) ((certificate_tells p).whole stands.0 v stands.3)

  not_faulty : (f : ValueFault) → IsFaulty (certificate (node_names p.nodes)) (IsCertificateOf p) f bytes → ⊥
  not_faulty f h = h.2.1 v (subst (λ d. IsCertificateOf p d v) (same_data bytes stands.0 h.0 stands.1.1 h.1.1) stands.3)

  pub not_refused : (e : PlanError) → IsRefused (certificate (node_names p.nodes)) (IsCertificateOf p) bytes e → (e ≡ errors.OutOfMemory) ⊎ (e ≡ errors.OverLimit)
  not_refused errors.OutOfMemory h = inl refl
  not_refused errors.OverLimit h = inr refl
  not_refused errors.NotJson h = let none : read bytes ≡ None = h stands.1.0 in absurd (no_value_there (sym none ∙ stands.1.1))
    where
      no_value_there : None ≡ Some stands.0 → ⊥
      no_value_there e = cc
  not_refused errors.UnknownName h = absurd (not_faulty fault.UnknownName h.0)
  not_refused errors.Doubled (inl h) = absurd (not_faulty fault.Doubled h)
  not_refused errors.Doubled (inr h) = absurd (not_doubled bytes stands.2 h.2)
  not_refused errors.Device h = absurd h
  not_refused e h = absurd (not_faulty _ h)

  not_long : length bytes ≤ 2097152 → IsRefused (certificate (node_names p.nodes)) (IsCertificateOf p) bytes errors.OverLimit → ⊥
  not_long short (inl long) = omega (arith, short, long)
  not_long short (inr h) = not_faulty fault.OverLimit h

  -- a short text is refused for want of memory alone
  pub only_memory : length bytes ≤ 2097152 → (e : PlanError) → IsRefused (certificate (node_names p.nodes)) (IsCertificateOf p) bytes e → e ≡ errors.OutOfMemory
  only_memory short e h =
      ⊎_elim (λ memory. memory) (λ over. absurd (not_long short (subst (λ x. IsRefused (certificate (node_names p.nodes)) (IsCertificateOf p) bytes x) over h))) (not_refused e h)

-- what is said of a text that is a certificate's is said of the certificate's text
pub text_stands : (p : Plan) (c : Certificate) (text : List ℕ) → text ≡ certificate_text (node_names (plan_value p).nodes) (certificate_value c)
    → (IsWellFormed (plan_value p) (certificate_value c) → IsJsonTextOf (IsCertificateOf (plan_value p)) text (certificate_value c))
    → IsWellFormed (plan_value p) (certificate_value c) → IsJsonTextOf (IsCertificateOf (plan_value p)) (certificate_text (node_names (plan_value p).nodes) (certificate_value c)) (certificate_value c)
text_stands p c text same stands well = subst (λ t. IsJsonTextOf (IsCertificateOf (plan_value p)) t (certificate_value c)) same (stands well)
