-- What is read of a certificate is what the relation tells.
use Rattle.std.{proofs.Common.{◌≡◌, ℕ, suc, ◌+◌, ◌≤◌, List, [], ◌∷◌, length, Bool, true, false, cond, nat_le, nat_lt, ◌&&◌, Some, None, Ok, refl, sym, ap, ◌∙◌, subst, true≢false, codes, arith}, proofs.lemmas.Bool.{and_from, leb-true, le-leb}, proofs.lemmas.List.Elements.{All-from_recursion, recursion_from_All}, proofs.lemmas.List.Kept.{AllPairs-cons}, specs.List.{AllByRecursion, list_all}}
use Rattle.serde_json.specs.Data.{Data, Items, no_items, item}
use Rattle.plan_values.{specs.CertificateValues.{IsAscending, are_known, LevelValue, PlacesValue, RangeValue, NodeRanksValue, CertificateValue}, specs.PlanValues.{PlanValue, node_names}}
use Rattle.net_plan.{specs.CertificateReading.{nodes_differ, ascends, entries_differ, tested, certificate}, specs.CertificateText.{IsLevelOf, ArePlacesOf, IsRangeOf, AreRanksOf, IsCertificateOf}, specs.Finding.{range_end, first_fault, refused}, specs.Fitting.{Fits}, specs.Grammar.{a_list, Known}, specs.Json.{at_key, demand}, specs.JsonWords.{HasKeys, At, AreItems, IsListOf, IsNumber, IsNumberWithin, IsIndexOfName}, specs.Keys.{certificate_keys, ranks_keys}, specs.Made.{number_in, number_at, index_at, each_at, in_time, level_made, places_made, range_made, ranks_made, certificate_made}, specs.Names.{index_among}, specs.Reading.{then_with}, specs.Tables.{a_number, a_node_name, a_level, a_node_places, a_range, a_node_ranks, a_certificate}, specs.declared.error.ValueFault.TheVariants.{UnknownName, Doubled}, specs.declared.shape.Named.TheVariants.{Nodes}, proofs.Fitting.{none_fits, fits_none, forget, unrefused}, proofs.Makes.{Made, MadeAt, number_makes, number_made, index_made, at_makes, list_makes, any_makes, one_there, one_back}, proofs.OneEach.{at_tells, at_told}, proofs.WordsLaw.{number_at as number_told}, proofs.Telling.{Tells, any, same_Ok, then_Ok, demanded, both}}

-- ---- ranges

later : (a b : ℕ) (rs : List RangeValue) → a ≤ b → AllByRecursion (λ r. b ≤ r.first) rs → AllByRecursion (λ r. a ≤ r.first) rs
later a b [] h all = tt
later a b (r ∷ rs) h all = (let first : b ≤ r.first = all.0 in omega arith, later a b rs h all.1)

pub ascends_sound : (end : ℕ) (rs : List RangeValue) → ascends end rs ≡ true → AllByRecursion (λ r. end ≤ r.first) rs × IsAscending rs
ascends_sound end [] e = (tt, λ i j d below within. absurd (omega arith))
ascends_sound end (r ∷ rs) e = by (nat_le end r.first) refl e (ascends_sound (r.first + r.size) rs)
  where
    by : (b : Bool) → nat_le end r.first ≡ b → (b && ascends (r.first + r.size) rs) ≡ true → (ascends (r.first + r.size) rs ≡ true → AllByRecursion (λ s. r.first + r.size ≤ s.first) rs × IsAscending rs)
        → AllByRecursion (λ s. end ≤ s.first) (r ∷ rs) × IsAscending (r ∷ rs)
    by true first e rest =
        let low : end ≤ r.first = leb-true end r.first first in
        let h = rest e in
        ((low, later end (r.first + r.size) rs (omega arith) h.0), AllPairs-cons (λ a b. a.first + a.size ≤ b.first) r rs (All-from_recursion (λ s. r.first + r.size ≤ s.first) rs h.0) h.1)
    by false first e rest = absurd (true≢false (sym e))

ascends_whole : (end : ℕ) (rs : List RangeValue) → AllByRecursion (λ r. end ≤ r.first) rs → IsAscending rs → ascends end rs ≡ true
ascends_whole end [] all h = refl
ascends_whole end (r ∷ rs) all h =
    let next : AllByRecursion (λ s. r.first + r.size ≤ s.first) rs = recursion_from_All (λ s. r.first + r.size ≤ s.first) rs (λ k d within. h 0 (suc k) d (omega arith) (omega arith)) in
    ap (λ b. b && ascends (r.first + r.size) rs) (le-leb end r.first all.0) ∙ ascends_whole (r.first + r.size) rs next (λ i j d below within. h (suc i) (suc j) d (omega arith) (omega arith))

all_low : (rs : List RangeValue) → AllByRecursion (λ r. 0 ≤ r.first) rs
all_low [] = tt
all_low (r ∷ rs) = (omega arith, all_low rs)

-- ---- entries

-- a range with these numbers ends there
pub ends : (d : Data) (f r s : ℕ) → At (codes "first") (IsNumberWithin 0 255) d f → At (codes "rank") (IsNumberWithin 1 255) d r → At (codes "size") (IsNumberWithin 1 255) d s → range_end d ≡ Ok (f + s)
ends d f r s first rank size = rw ((number_told (codes "first") 0 255).whole d f first, (number_told (codes "rank") 1 255).whole d r rank, (number_told (codes "size") 1 255).whole d s size) refl

module _ (nodes : List (List ℕ)) where
  -- the names of the nodes
  abbrev known : Known
  known = record { buses = []; nodes = nodes }

  abbrev find : List ℕ → ℕ
  find = index_among nodes

  abbrev is_known : ℕ → Bool
  is_known node = nat_lt node (length nodes)

  first_at : MadeAt known (codes "first") (a_number 0 255) (number_at (codes "first") 0 255) any (IsNumberWithin 0 255)
  first_at = number_made known (codes "first") 0 255

  rank_at : MadeAt known (codes "rank") (a_number 1 255) (number_at (codes "rank") 1 255) any (IsNumberWithin 1 255)
  rank_at = number_made known (codes "rank") 1 255

  size_at : MadeAt known (codes "size") (a_number 1 255) (number_at (codes "size") 1 255) any (IsNumberWithin 1 255)
  size_at = number_made known (codes "size") 1 255

  node_at : MadeAt known (codes "node") a_node_name (index_at (codes "node") find) is_known (IsIndexOfName nodes)
  node_at = index_made known (codes "node") Nodes

  range_there : (d : Data) → Fits (Some known) a_range d → IsRangeOf d (range_made d)
  range_there d h =
      let f = number_at (codes "first") 0 255 d in
      let s = number_at (codes "size") 1 255 d in
      let first = first_at.there d h.1.0 in
      let rank = rank_at.there d h.1.1.0 in
      let size = size_at.there d h.1.1.1.0 in
      let low : f + s ≤ 256 = h.2 (f + s) (ends d f (number_at (codes "rank") 1 255 d) s first rank size) in
      let same : in_time f s ≡ f = ap (λ b. cond b f 0) (le-leb (f + s) 256 low) in
      record {
        keys = h.0;
        first = subst (At (codes "first") (IsNumberWithin 0 255) d) (sym same) first;
        rank = rank;
        size = size;
        within = subst (λ x. x + s ≤ 256) (sym same) low;
      }

  range_same : (d : Data) (r : RangeValue) → IsRangeOf d r → range_made d ≡ r
  range_same d r h = rw (first_at.same d r.first h.first, rank_at.same d r.rank h.rank, size_at.same d r.size h.size, le-leb (r.first + r.size) 256 h.within) refl

  pub range_makes : Made known a_range range_made any IsRangeOf
  range_makes = record {
    there = range_there;
    back = λ d r h. (h.keys, (first_at.back d r.first h.first, (rank_at.back d r.rank h.rank, (size_at.back d r.size h.size, tt))), λ end is. subst (λ x. x ≤ 256) (same_Ok (sym (ends d r.first r.rank r.size h.first h.rank h.size) ∙ is)) h.within);
    same = range_same;
    known = λ d h pass. h;
    passes = λ d h. refl;
  }

  level_at : MadeAt known (codes "level") (a_number 1 63) (number_at (codes "level") 1 63) any (IsNumberWithin 1 63)
  level_at = number_made known (codes "level") 1 63

  level_makes : Made known a_level (level_made find) (λ l. is_known l.node) (IsLevelOf nodes)
  level_makes = record {
    there = λ d h. record { keys = h.0; level = level_at.there d h.1.0; node = node_at.there d h.1.1.0 };
    back = λ d l h. (h.keys, (level_at.back d l.level h.level, (node_at.back d l.node h.node, tt)), tt);
    same = λ d l h. rw (level_at.same d l.level h.level, node_at.same d l.node h.node) refl;
    known = λ d h pass. (h.0, (h.1.0, (node_at.known d h.1.1.0 pass, tt)), tt);
    passes = λ d h. node_at.passes d h.1.1.0;
  }

  record_places_at : MadeAt known (codes "places") (a_list None (a_number 0 4095)) (each_at (codes "places") (number_in 0 4095)) any (IsListOf (IsNumberWithin 0 4095))
  record_places_at = at_makes (codes "places") [] (any_makes (list_makes (number_makes known 0 4095)))

  places_makes : Made known a_node_places (places_made find) (λ p. is_known p.node) (ArePlacesOf nodes)
  places_makes = record {
    there = λ d h. record { keys = h.0; node = node_at.there d h.1.0; places = record_places_at.there d h.1.1.0 };
    back = λ d p h. (h.keys, (node_at.back d p.node h.node, (record_places_at.back d p.places h.places, tt)), tt);
    same = λ d p h. rw (node_at.same d p.node h.node, record_places_at.same d p.places h.places) refl;
    known = λ d h pass. (h.0, (node_at.known d h.1.0 pass, (h.1.1.0, tt)), tt);
    passes = λ d h. node_at.passes d h.1.0;
  }

  -- the ranks of a node, whose ranges need not ascend
  pub record AreRangesOf (d : Data) (r : NodeRanksValue) : Type 0 where
    keys : HasKeys ranks_keys d
    node : At (codes "node") (IsIndexOfName nodes) d r.node
    ranges : At (codes "ranges") (IsListOf IsRangeOf) d r.ranges

  ranges_at : MadeAt known (codes "ranges") (a_list None a_range) (each_at (codes "ranges") range_made) any (IsListOf IsRangeOf)
  ranges_at = at_makes (codes "ranges") [] (any_makes (list_makes range_makes))

  ranks_makes : Made known a_node_ranks (ranks_made find) (λ r. is_known r.node) AreRangesOf
  ranks_makes = record {
    there = λ d h. record { keys = h.0; node = node_at.there d h.1.0; ranges = ranges_at.there d h.1.1.0 };
    back = λ d r h. (h.keys, (node_at.back d r.node h.node, (ranges_at.back d r.ranges h.ranges, tt)), tt);
    same = λ d r h. rw (node_at.same d r.node h.node, ranges_at.same d r.ranges h.ranges) refl;
    known = λ d h pass. (h.0, (node_at.known d h.1.0 pass, (h.1.1.0, tt)), tt);
    passes = λ d h. node_at.passes d h.1.0;
  }

  -- the three lists of a certificate of these nodes
  pub record AreEntriesOf (d : Data) (c : CertificateValue) : Type 0 where
    keys : HasKeys certificate_keys d
    format : At (codes "format") IsNumber d 1
    levels : At (codes "levels") (IsListOf (IsLevelOf nodes)) d c.levels
    places : At (codes "places") (IsListOf (ArePlacesOf nodes)) d c.places
    ranks : At (codes "ranks") (IsListOf AreRangesOf) d c.ranks

  levels_at : MadeAt known (codes "levels") (a_list None a_level) (each_at (codes "levels") (level_made find)) (list_all (λ l. is_known l.node)) (IsListOf (IsLevelOf nodes))
  levels_at = at_makes (codes "levels") [] (list_makes level_makes)

  places_at : MadeAt known (codes "places") (a_list None a_node_places) (each_at (codes "places") (places_made find)) (list_all (λ p. is_known p.node)) (IsListOf (ArePlacesOf nodes))
  places_at = at_makes (codes "places") [] (list_makes places_makes)

  ranks_at : MadeAt known (codes "ranks") (a_list None a_node_ranks) (each_at (codes "ranks") (ranks_made find)) (list_all (λ r. is_known r.node)) (IsListOf AreRangesOf)
  ranks_at = at_makes (codes "ranks") [] (list_makes ranks_makes)

  pub entries_makes : Made known a_certificate (certificate_made find) (are_known (length nodes)) AreEntriesOf
  entries_makes = record {
    there = λ d h. record { keys = h.0; format = one_there (codes "format") 1 d h.1.0; levels = levels_at.there d h.1.1.0; places = places_at.there d h.1.1.1.0; ranks = ranks_at.there d h.1.1.1.1.0 };
    back = λ d c h. (
      h.keys,
      (one_back (codes "format") 1 d h.format, (levels_at.back d c.levels h.levels, (places_at.back d c.places h.places, (ranks_at.back d c.ranks h.ranks, tt)))),
      tt,
    );
    same = λ d c h. rw (levels_at.same d c.levels h.levels, places_at.same d c.places h.places, ranks_at.same d c.ranks h.ranks) refl;
    known = λ d h pass.
        let c = certificate_made find d in
        let p = both (list_all (λ (l : LevelValue). is_known l.node) c.levels) (list_all (λ (p : PlacesValue). is_known p.node) c.places && list_all (λ (r : NodeRanksValue). is_known r.node) c.ranks) pass in
        let q = both (list_all (λ (p : PlacesValue). is_known p.node) c.places) (list_all (λ (r : NodeRanksValue). is_known r.node) c.ranks) p.1 in
        (h.0, (h.1.0, (levels_at.known d h.1.1.0 p.0, (places_at.known d h.1.1.1.0 q.0, (ranks_at.known d h.1.1.1.1.0 q.1, tt)))), tt);
    passes = λ d h. rw (levels_at.passes d h.1.1.0, places_at.passes d h.1.1.1.0, ranks_at.passes d h.1.1.1.1.0) refl;
  }

  -- ---- ranges that ascend

  ascending : (ds : Items) (rs : List NodeRanksValue) → list_all (λ r. ascends 0 r.ranges) rs ≡ true → AreItems AreRangesOf ds rs → AreItems (AreRanksOf nodes) ds rs
  ascending no_items [] e h = tt
  ascending (item d ds) (r ∷ rs) e h =
      let p = both (ascends 0 r.ranges) (list_all (λ (r : NodeRanksValue). ascends 0 r.ranges) rs) e in
      (record { keys = h.0.keys; node = h.0.node; ranges = h.0.ranges; ascending = (ascends_sound 0 r.ranges p.0).1 }, ascending ds rs p.1 h.1)
  ascending ds rs e h = absurd h

  ascended : (ds : Items) (rs : List NodeRanksValue) → AreItems (AreRanksOf nodes) ds rs → (list_all (λ r. ascends 0 r.ranges) rs ≡ true) × AreItems AreRangesOf ds rs
  ascended no_items [] h = (refl, tt)
  ascended (item d ds) (r ∷ rs) h =
      let rest = ascended ds rs h.1 in (
        and_from (ascends 0 r.ranges) (list_all (λ (r : NodeRanksValue). ascends 0 r.ranges) rs) (ascends_whole 0 r.ranges (all_low r.ranges) h.0.ascending) rest.0,
        (record { keys = h.0.keys; node = h.0.node; ranges = h.0.ranges }, rest.1),
      )
  ascended ds rs h = absurd h

-- ---- certificates

certificate_sound : (p : PlanValue) (d : Data) (v : CertificateValue) → certificate (node_names p.nodes) d ≡ Ok v → IsCertificateOf p d v
unfolding entries_differ
certificate_sound p d v e =
    let nodes = node_names p.nodes in
    let c = certificate_made (index_among nodes) d in
    let s = then_Ok (refused (first_fault None a_certificate d)) (λ _. then_with (entries_differ d) (λ _. tested (length nodes) c)) v e in
    let u = then_Ok (entries_differ d) (λ _. tested (length nodes) c) v s.2 in
    let a = then_Ok (demand Doubled (list_all (λ r. ascends 0 r.ranges) c.ranks)) (λ _. then_with (demand UnknownName (are_known (length nodes) c)) (λ _. Ok c)) v u.2 in
    let n = then_Ok (demand UnknownName (are_known (length nodes) c)) (λ _. Ok c) v a.2 in
    let loose : Fits None a_certificate d = none_fits None a_certificate d (unrefused (first_fault None a_certificate d) s.0 s.1) in
    let strict = (entries_makes nodes).known d loose (demanded UnknownName (are_known (length nodes) c) n.0 n.1) in
    let lists = (entries_makes nodes).there d strict in
    let ranks : At (codes "ranks") (IsListOf (AreRanksOf nodes)) d c.ranks =
    (lists.ranks.0, lists.ranks.1, (lists.ranks.2.0, lists.ranks.2.1, ascending nodes lists.ranks.2.0 c.ranks (demanded Doubled (list_all (λ r. ascends 0 r.ranges) c.ranks) a.0 a.1) lists.ranks.2.2)) in
    let l = then_Ok (at_key (codes "levels") nodes_differ d) _ u.0 u.1 in
    let q = then_Ok (at_key (codes "places") nodes_differ d) _ u.0 l.2 in
    subst (IsCertificateOf p d) (same_Ok n.2) (record {
      keys = lists.keys;
      format = lists.format;
      levels = lists.levels;
      places = lists.places;
      ranks = ranks;
      one_level = at_tells (IsLevelOf nodes) (λ x. x.node) nodes (λ d x h. h.node) (codes "levels") d c.levels l.0 lists.levels l.1;
      one_places = at_tells (ArePlacesOf nodes) (λ x. x.node) nodes (λ d x h. h.node) (codes "places") d c.places q.0 lists.places q.1;
      one_ranks = at_tells (AreRanksOf nodes) (λ x. x.node) nodes (λ d x h. h.node) (codes "ranks") d c.ranks u.0 ranks q.2;
    })

certificate_whole : (p : PlanValue) (d : Data) (v : CertificateValue) → IsCertificateOf p d v → certificate (node_names p.nodes) d ≡ Ok v
unfolding entries_differ
certificate_whole p d v h =
    let nodes = node_names p.nodes in
    let makes = entries_makes nodes in
    let ranges = ascended nodes h.ranks.2.0 v.ranks h.ranks.2.2 in
    let lists : AreEntriesOf nodes d v = record { keys = h.keys; format = h.format; levels = h.levels; places = h.places; ranks = (h.ranks.0, h.ranks.1, (h.ranks.2.0, h.ranks.2.1, ranges.1)) } in
    let strict = makes.back d v lists in
    let none : first_fault None a_certificate d ≡ None = fits_none None a_certificate d (forget (known nodes) a_certificate d strict) in
    let same : certificate_made (index_among nodes) d ≡ v = makes.same d v lists in
    let all : are_known (length nodes) v ≡ true = ap (are_known (length nodes)) (sym same) ∙ makes.passes d strict in
    let l = at_told (IsLevelOf nodes) (λ x. x.node) nodes (λ d x h. h.node) (codes "levels") d v.levels h.levels h.one_level in
    let q = at_told (ArePlacesOf nodes) (λ x. x.node) nodes (λ d x h. h.node) (codes "places") d v.places h.places h.one_places in
    let r = at_told (AreRanksOf nodes) (λ x. x.node) nodes (λ d x h. h.node) (codes "ranks") d v.ranks h.ranks h.one_ranks in
    rw (none, l, q, r) (ap (tested (length nodes)) same ∙ rw (ranges.0, all) refl)

pub certificate_tells : (p : PlanValue) → Tells (certificate (node_names p.nodes)) any (IsCertificateOf p)
certificate_tells p = record { sound = λ d v e pass. certificate_sound p d v e; whole = certificate_whole p; passes = λ d v h. refl }

-- a certificate that was read names only nodes of its plan
pub read_known : (nodes : List (List ℕ)) (d : Data) (v : CertificateValue) → certificate nodes d ≡ Ok v → are_known (length nodes) v ≡ true
read_known nodes d v e =
    let c = certificate_made (index_among nodes) d in
    let s = then_Ok (refused (first_fault None a_certificate d)) _ v e in
    let u = then_Ok (entries_differ d) _ v s.2 in
    let a = then_Ok (demand Doubled (list_all (λ r. ascends 0 r.ranges) c.ranks)) _ v u.2 in
    let n = then_Ok (demand UnknownName (are_known (length nodes) c)) _ v a.2 in
    ap (are_known (length nodes)) (sym (same_Ok n.2)) ∙ demanded UnknownName (are_known (length nodes) c) n.0 n.1
