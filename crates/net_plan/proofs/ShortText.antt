-- How long the text of a certificate may be.
use Rattle.std.{proofs.Common.{◌≡◌, ◌≢◌, ℕ, zero, suc, ◌+◌, ◌*◌, ◌/◌, ◌%◌, ◌<◌, ◌≤◌, ◌&&◌, List, [], ◌∷◌, ◌++◌, length, map, get_or, Bool, true, false, cond, nat_lt, nat_le, AllPairs, refl, sym, arith, codes, decimal}, proofs.Math.Nat.{suc-mul}, proofs.lemmas.Bool.{ltb-true, leb-true}, proofs.lemmas.Fmt.{length-decimal-le}, proofs.lemmas.List.{length-append, length-map}, proofs.lemmas.List.Elements.{recursion_from_All}, specs.Char.{digit_char}, specs.List.{list_all, AllByRecursion}}
use Rattle.indexmap.proofs.IndexTableLemmas.Probe.{pigeonhole}
use Rattle.json.specs.Print.{escape_letter, escape_byte, escape, quoted}
use Rattle.serde_json.{specs.Data.{Data, Members, no_members, member}, specs.View.{items_of}, specs.Written.{compact_text, comma_if, items_text, members_text}}
use Rattle.net_plan.{specs.CertificateJson.{list_data, number_data, name_data, level_data, places_data, range_data, ranks_data, certificate_data, certificate_text}, proofs.Telling.{both}}
use Rattle.plan_values.{specs.CertificateValues.{are_known, IsAscending, RangeValue, level_value, places_value, range_value, node_ranks_value, certificate_value}, specs.NameText.{is_name_byte, has_name_length}, specs.PlanValues.{node_value, node_names, plan_value}, specs.WellFormed.{IsWellFormed}, specs.ShortText.{HasFewPlaces}, specs.declared.certificate.Certificate.{Certificate}, specs.declared.certificate.NodeLevel.{NodeLevel}, specs.declared.certificate.NodePlaces.{NodePlaces}, specs.declared.certificate.NodeRanks.{NodeRanks}, specs.declared.certificate.RankRange.{RankRange}, specs.declared.certificate.RecordPlace.{RecordPlace}, specs.declared.nodes.Node.{Node}, specs.declared.plan.Plan.{Plan}}

-- ---- strings and numbers

escaped : (x : ℕ) → length (escape_byte x) ≤ 6
unfolding escape_byte
escaped x = by (nat_lt 0 (escape_letter x)) (nat_lt x 32)
  where
    by : (a b : Bool) → length (cond a (92 ∷ escape_letter x ∷ []) (cond b (92 ∷ 117 ∷ 48 ∷ 48 ∷ digit_char (x / 16) ∷ digit_char (x % 16) ∷ []) (x ∷ []))) ≤ 6
    by true b = omega arith
    by false true = omega arith
    by false false = omega arith

escape_size : (s : List ℕ) → length (escape s) ≤ length s * 6
escape_size [] = omega arith
escape_size (x ∷ s) = let here = escaped x in let rest = escape_size s in omega (arith, here, rest, length-append (escape_byte x) (escape s))

quoted_size : (s : List ℕ) → length s ≤ 32 → length (quoted s) ≤ 194
quoted_size s few = let inner = escape_size s in omega (arith, inner, few, length-append (escape s) (34 ∷ []))

name_size : (ns : List Node) (k : ℕ) → length (get_or (node_names (map node_value ns)) k []) ≤ 32
name_size [] k = omega arith
name_size (n ∷ ns) zero =
    let name = (node_value n).name in
    let long = both (has_name_length name) (list_all is_name_byte name) n.name.spelled in
    leb-true (length name) 32 (both (nat_le 1 (length name)) (nat_le (length name) 32) long.0).1
name_size (n ∷ ns) (suc k) = name_size ns k

byte_size : (n : ℕ) → n ≤ 255 → length (decimal n) ≤ 3
byte_size n low = let a : n < 1000 = omega arith in let b : n < 18446744073709551616 = omega arith in length-decimal-le 3 n (omega arith) a b

-- ---- lists and objects

comma_size : (later : Bool) → length (comma_if later) ≤ 1
comma_size true = omega arith
comma_size false = omega arith

-- items of which each takes at most m bytes with its comma
items_size : {A : Type 0} (f : A → Data) (m : ℕ) (later : Bool) (xs : List A) → AllByRecursion (λ x. 1 + length (compact_text (f x)) ≤ m) xs → length (items_text later (items_of (map f xs))) ≤ 1 + length xs * m
items_size f m later [] h = omega arith
items_size f m later (x ∷ xs) h =
    let text = compact_text (f x) in
    let others = items_text true (items_of (map f xs)) in
    let here : 1 + length text ≤ m = h.0 in
    let rest : length others ≤ 1 + length xs * m = items_size f m true xs h.1 in
    let comma : length (comma_if later) ≤ 1 = comma_size later in
    let all : length (comma_if later ++ (text ++ others)) ≡ length (comma_if later) + length (text ++ others) = length-append (comma_if later) (text ++ others) in
    let inner : length (text ++ others) ≡ length text + length others = length-append text others in
    let times : suc (length xs) * m ≡ length xs * m + m = suc-mul (length xs) m in
    let whole : length (comma_if later ++ (text ++ others)) ≤ 1 + suc (length xs) * m = omega (arith, here, rest, comma, all, inner, times) in
    whole

member_size : (later : Bool) (k : List ℕ) (d : Data) (ms : Members) → length (members_text later (member k d ms)) ≤ 2 + length (quoted k) + length (compact_text d) + length (members_text true ms)
member_size later k d ms =
    let text = compact_text d in
    let others = members_text true ms in
    omega (arith, comma_size later, length-append (comma_if later) (quoted k ++ 58 ∷ (text ++ others)), length-append (quoted k) (58 ∷ (text ++ others)), length-append text others)

-- ---- keys

key_sizes : (length (quoted (codes "level")) ≡ 7) × (length (quoted (codes "node")) ≡ 6) × (length (quoted (codes "places")) ≡ 8) × (length (quoted (codes "first")) ≡ 7) × (length (quoted (codes "rank")) ≡ 6)
    × (length (quoted (codes "size")) ≡ 6) × (length (quoted (codes "ranges")) ≡ 8) × (length (quoted (codes "format")) ≡ 8) × (length (quoted (codes "levels")) ≡ 8) × (length (quoted (codes "ranks")) ≡ 7)
unfolding escape_byte
key_sizes = (refl, refl, refl, refl, refl, refl, refl, refl, refl, refl)

-- ---- entries

module _ (ns : List Node) where
  abbrev names : List (List ℕ)
  names = node_names (map node_value ns)

  node_size : (k : ℕ) → length (compact_text (name_data names k)) ≤ 194
  node_size k = quoted_size (get_or names k []) (name_size ns k)

  level_size : (l : NodeLevel) → 1 + length (compact_text (level_data names (level_value l))) ≤ 217
  level_size l =
      let low : l.level ≤ 255 = let within : l.level ≤ 63 = l.within in omega arith in
      let node : Members = member (codes "node") (name_data names l.node) no_members in
      let end : length (members_text true no_members) ≡ 1 = refl in
      omega (arith, key_sizes.0, key_sizes.1, end, byte_size l.level low, node_size l.node, member_size false (codes "level") (number_data l.level) node, member_size true (codes "node") (name_data names l.node) no_members)

  places_size : (p : NodePlaces) → length (places_value p).places ≤ 4096 → 1 + length (compact_text (places_data names (places_value p))) ≤ 20700
  places_size p few =
      let list = list_data number_data (places_value p).places in
      let rest : Members = member (codes "places") list no_members in
      let end : length (members_text true no_members) ≡ 1 = refl in
      let inner : length (items_text false (items_of (map number_data (places_value p).places))) ≤ 1 + length (places_value p).places * 5 = items_size number_data 5 false (places_value p).places (numbers p.places.items) in
      omega (arith, key_sizes.1, key_sizes.2, end, inner, few, node_size p.node, member_size false (codes "node") (name_data names p.node) rest, member_size true (codes "places") list no_members)
    where
      numbers : (ps : List RecordPlace) → AllByRecursion (λ n. 1 + length (compact_text (number_data n)) ≤ 5) (map (λ place. place.value) ps)
      numbers [] = tt
      numbers (q ∷ ps) =
          let below : q.value < 4096 = q.in_range in
          let a : q.value < 10000 = omega arith in
          let b : q.value < 18446744073709551616 = omega arith in
          let digits : length (decimal q.value) ≤ 4 = length-decimal-le 4 q.value (omega arith) a b in
          (omega (arith, digits), numbers ps)

  range_size : (r : RankRange) → 1 + length (compact_text (range_data (range_value r))) ≤ 37
  range_size r =
      let first : r.first.value ≤ 255 = let small : r.first.value < 256 = r.first.in_range in omega arith in
      let size : Members = member (codes "size") (number_data r.size) no_members in
      let rank : Members = member (codes "rank") (number_data r.rank) size in
      let end : length (members_text true no_members) ≡ 1 = refl in
      omega (arith, key_sizes.3, key_sizes.4, key_sizes.5, end, byte_size r.first.value first, byte_size r.rank r.rank_within, byte_size r.size r.size_within, member_size false (codes "first") (number_data r.first.value) rank, member_size true (codes "rank") (number_data r.rank) size, member_size true (codes "size") (number_data r.size) no_members)

  ranges_size : (rs : List RankRange) → AllByRecursion (λ r. 1 + length (compact_text (range_data r)) ≤ 37) (map range_value rs)
  ranges_size [] = tt
  ranges_size (r ∷ rs) = (range_size r, ranges_size rs)

  ranks_size : (r : NodeRanks) → length (node_ranks_value r).ranges ≤ 256 → 1 + length (compact_text (ranks_data names (node_ranks_value r))) ≤ 9700
  ranks_size r few =
      let list = list_data range_data (node_ranks_value r).ranges in
      let rest : Members = member (codes "ranges") list no_members in
      let end : length (members_text true no_members) ≡ 1 = refl in
      let inner : length (items_text false (items_of (map range_data (node_ranks_value r).ranges))) ≤ 1 + length (node_ranks_value r).ranges * 37 = items_size range_data 37 false (node_ranks_value r).ranges (ranges_size r.ranges.items) in
      omega (arith, key_sizes.1, key_sizes.6, end, inner, few, node_size r.node, member_size false (codes "node") (name_data names r.node) rest, member_size true (codes "ranges") list no_members)

  levels_size : (ls : List NodeLevel) → AllByRecursion (λ l. 1 + length (compact_text (level_data names l)) ≤ 217) (map level_value ls)
  levels_size [] = tt
  levels_size (l ∷ ls) = (level_size l, levels_size ls)

  all_places_size : (ps : List NodePlaces) → AllByRecursion (λ p. length p.places ≤ 4096) (map places_value ps) → AllByRecursion (λ p. 1 + length (compact_text (places_data names p)) ≤ 20700) (map places_value ps)
  all_places_size [] few = tt
  all_places_size (p ∷ ps) few = (places_size p few.0, all_places_size ps few.1)

  all_ranks_size : (rs : List NodeRanks) → AllByRecursion (λ r. length r.ranges ≤ 256) (map node_ranks_value rs) → AllByRecursion (λ r. 1 + length (compact_text (ranks_data names r)) ≤ 9700) (map node_ranks_value rs)
  all_ranks_size [] few = tt
  all_ranks_size (r ∷ rs) few = (ranks_size r few.0, all_ranks_size rs few.1)

-- ---- how many there are

-- ranges that ascend apart
few_ranges : (low : ℕ) (rs : List RankRange) → ((k : ℕ) (d : RangeValue) → k < length (map range_value rs) → low ≤ (get_or (map range_value rs) k d).first) → IsAscending (map range_value rs) → low ≤ 256
    → low + length (map range_value rs) ≤ 256
few_ranges low [] above apart end = omega arith
few_ranges low (r ∷ rs) above apart end =
    let first : low ≤ r.first.value = above 0 (range_value r) (omega arith) in
    let some : 0 < r.size = r.some in
    let within : r.first.value + r.size ≤ 256 = r.within in
    let rest : r.first.value + r.size + length (map range_value rs) ≤ 256 = few_ranges (r.first.value + r.size) rs (λ k d inside. apart 0 (suc k) d (omega arith) (omega arith)) (λ i j d below inside. apart (suc i) (suc j) d (omega arith) (omega arith)) within in
    omega arith

all_few_ranges : (rs : List NodeRanks) → AllByRecursion (λ r. IsAscending r.ranges) (map node_ranks_value rs) → AllByRecursion (λ r. length r.ranges ≤ 256) (map node_ranks_value rs)
all_few_ranges [] ascending = tt
all_few_ranges (r ∷ rs) ascending = (let few : 0 + length (map range_value r.ranges.items) ≤ 256 = few_ranges 0 r.ranges.items (λ k d inside. omega arith) ascending.0 (omega arith) in omega arith, all_few_ranges rs ascending.1)

-- entries of so many nodes, no two of one
module _ {A : Type 0} (node_of : A → ℕ) (nodes : ℕ) where
  known_at : (xs : List A) (i : ℕ) (d : A) → list_all (λ x. nat_lt (node_of x) nodes) xs ≡ true → i < length xs → node_of (get_or xs i d) < nodes
  known_at [] i d known inside = absurd (omega arith)
  known_at (x ∷ xs) zero d known inside = ltb-true (node_of x) nodes (both (nat_lt (node_of x) nodes) (list_all (λ x. nat_lt (node_of x) nodes) xs) known).0
  known_at (x ∷ xs) (suc i) d known inside = known_at xs i d (both (nat_lt (node_of x) nodes) (list_all (λ x. nat_lt (node_of x) nodes) xs) known).1 (omega arith)

  few_entries : (xs : List A) → list_all (λ x. nat_lt (node_of x) nodes) xs ≡ true → AllPairs (λ a b. node_of a ≢ node_of b) xs → length xs ≤ nodes
  few_entries [] known apart = omega arith
  few_entries (x ∷ xs) known apart =
      pigeonhole (length (x ∷ xs)) nodes (λ i. node_of (get_or (x ∷ xs) i x)) (λ i inside. known_at (x ∷ xs) i x known inside)
      (λ i j p q e.
      let not_below : i < j → ⊥ = λ less. apart i j x less q e in
      let not_above : j < i → ⊥ = λ less. apart j i x less p (sym e) in
      omega arith)

-- ---- the whole text

pub short_text : (p : Plan) (c : Certificate) → IsWellFormed (plan_value p) (certificate_value c) → HasFewPlaces (certificate_value c)
    → length (certificate_text (node_names (plan_value p).nodes) (certificate_value c)) ≤ 2097152
unfolding certificate_data
short_text p c h few =
    let ns = p.nodes.items in
    let names = node_names (plan_value p).nodes in
    let value = certificate_value c in
    let nodes : length (plan_value p).nodes ≤ 64 = let most : length ns ≤ 64 = omega (arith, p.few_nodes) in omega (arith, most, length-map ns node_value) in
    let known : are_known (length (plan_value p).nodes) value ≡ true = h.known in
    let count = length (plan_value p).nodes in
    let parts = both (list_all (λ l. nat_lt l.node count) value.levels) (list_all (λ q. nat_lt q.node count) value.places && list_all (λ r. nat_lt r.node count) value.ranks) known in
    let lists = both (list_all (λ q. nat_lt q.node count) value.places) (list_all (λ r. nat_lt r.node count) value.ranks) parts.1 in
    let l : length value.levels ≤ count = few_entries (λ x. x.node) count value.levels parts.0 h.one_level in
    let q : length value.places ≤ count = few_entries (λ x. x.node) count value.places lists.0 h.one_places in
    let r : length value.ranks ≤ count = few_entries (λ x. x.node) count value.ranks lists.1 h.one_ranks in
    let ls : length (items_text false (items_of (map (level_data names) value.levels))) ≤ 1 + length value.levels * 217 = items_size (level_data names) 217 false value.levels (levels_size ns c.levels.items) in
    let qs : length (items_text false (items_of (map (places_data names) value.places))) ≤ 1 + length value.places * 20700 =
    items_size (places_data names) 20700 false value.places (all_places_size ns c.places.items (recursion_from_All (λ p. length p.places ≤ 4096) value.places few)) in
    let rs : length (items_text false (items_of (map (ranks_data names) value.ranks))) ≤ 1 + length value.ranks * 9700 =
    items_size (ranks_data names) 9700 false value.ranks (all_ranks_size ns c.ranks.items (all_few_ranges c.ranks.items (recursion_from_All (λ r. IsAscending r.ranges) value.ranks h.ascending))) in
    let ranks : Members = member (codes "ranks") (list_data (ranks_data names) value.ranks) no_members in
    let places : Members = member (codes "places") (list_data (places_data names) value.places) ranks in
    let levels : Members = member (codes "levels") (list_data (level_data names) value.levels) places in
    let end : length (members_text true no_members) ≡ 1 = refl in
    omega (arith, nodes, l, q, r, ls, qs, rs, key_sizes.7, key_sizes.8, key_sizes.2, key_sizes.9, end, byte_size 1 (omega arith), member_size false (codes "format") (number_data 1) levels, member_size true (codes "levels") (list_data (level_data names) value.levels) places, member_size true (codes "places") (list_data (places_data names) value.places) ranks, member_size true (codes "ranks") (list_data (ranks_data names) value.ranks) no_members, length-append (compact_text (certificate_data names value)) (10 ∷ []))
