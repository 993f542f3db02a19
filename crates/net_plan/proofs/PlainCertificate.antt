-- What is gathered of a certificate, as a value.
use Rattle.std.{proofs.Common.{◌≡◌, ◌≢◌, ◌<◌, ◌+◌, ◌∙◌, ◌||◌, ◌==◌, ℕ, zero, suc, List, [], ◌∷◌, length, map, take, get_or, Vec, Global, Bool, true, false, Some, None, codes, AllPairs, subst, sym, ap, refl, true≢false, arith}, proofs.lemmas.Bool.Decides.{Decides-eqb}, proofs.lemmas.List.{length-map, get_or-map, get_or_default}, specs.List.{list_any}}
use Rattle.json.specs.Json.{object, Members}
use Rattle.serde_json.specs.Data.{Data}
use Rattle.net_plan.{specs.CertificateText.{IsLevelOf, ArePlacesOf, AreRanksOf}, specs.Gathered.{IsPlain, AreParts}, specs.JsonWords.{At, IsNumber, IsNumberWithin, IsListOf}, specs.Keys.{certificate_keys}, specs.LevelParts.{IsLevelBy}, specs.PlaceParts.{ArePlacesBy}, specs.NameIndexes.{noted}, specs.PlainCertificate.{certificate_slots, IsCertificateBy}, specs.RankParts.{AreRanksBy}, specs.Trees.{data_of}, specs.declared.plain_certificate.CertificateParts.{CertificateParts}, proofs.Gathered.{object_plain, all_keys, here, each_moved}}
use Rattle.plan_values.{specs.CertificateValues.{level_value, places_value, node_ranks_value}, specs.PlanValues.{node_names}, specs.declared.certificate.NodeLevel.{NodeLevel}, specs.declared.certificate.NodePlaces.{NodePlaces}, specs.declared.certificate.NodeRanks.{NodeRanks}}

-- ---- entries of other nodes

-- no element before a place passes the test
none_before : {A : Type 0} (p : A → Bool) (xs : List A) (n i : ℕ) (d : A) → i < n → i < length xs → list_any p (take n xs) ≡ false → p (get_or xs i d) ≡ false
none_before p (x ∷ xs) (suc n) zero d below within none = by (p x) none
  where
    by : (b : Bool) → (b || list_any p (take n xs)) ≡ false → b ≡ false
    by false e = refl
    by true e = e
none_before p (x ∷ xs) (suc n) (suc i) d below within none = none_before p xs n i d (omega arith) (omega arith) (by (p x) none)
  where
    by : (b : Bool) → (b || list_any p (take n xs)) ≡ false → list_any p (take n xs) ≡ false
    by false e = e
    by true e = absurd (true≢false e)
none_before p xs n i d below within none = absurd (omega arith)

not_equal : (a b : ℕ) → (a == b) ≡ false → a ≢ b
not_equal a b e same = true≢false (sym ((Decides-eqb a b).1 same) ∙ e)

-- one more entry, of another node than those before it
pub apart_more : {A : Type 0} (f : A → ℕ) (xs : List A) (n : ℕ) (x : A) → n < length xs → x ≡ get_or xs n x → list_any (λ y. f y == f x) (take n xs) ≡ false
    → ((i j : ℕ) (d : A) → i < j → j < n → f (get_or xs i d) ≢ f (get_or xs j d)) → (i j : ℕ) (d : A) → i < j → j < n + 1 → f (get_or xs i d) ≢ f (get_or xs j d)
apart_more f xs n x within is none before i j d below most same = by (j == n) refl
  where
    by : (b : Bool) → (j == n) ≡ b → ⊥
    by true e =
        let last : j ≡ n = (Decides-eqb j n).0 e in
        let here : get_or xs j d ≡ x = ap (λ k. get_or xs k d) last ∙ get_or_default xs n d x within ∙ sym is in
        not_equal (f (get_or xs i d)) (f x) (none_before (λ y. f y == f x) xs n i d (omega arith) (omega arith) none) (same ∙ ap f here)
    by false e =
        let other : j ≢ n = not_equal j n e in
        before i j d below (omega arith) same

pairs_seen : {A B : Type 0} (see : A → B) (R : B → B → Type 0) (xs : List A) → AllPairs (λ a b. R (see a) (see b)) xs → AllPairs R (map see xs)
pairs_seen see R [] h i j d below within = absurd (omega arith)
pairs_seen see R (x ∷ xs) h i j d below within =
    let all = x ∷ xs in
    let in_j : j < length all = omega (arith, length-map all see) in
    let first = sym (get_or-map see all i x d (omega arith)) in
    let second = sym (get_or-map see all j x d in_j) in
    subst (λ b. R (get_or (map see all) i d) b) second (subst (λ a. R a (see (get_or all j x))) first (h i j x below in_j))

-- ---- the certificate

moved : {A : Type 0} (key : List ℕ) (R S : Data → A → Type 0) (d : Data) (xs : List A) → ((d : Data) (x : A) → R d x → S d x) → At key (IsListOf R) d xs → At key (IsListOf S) d xs
moved key R S d xs move h = (h.0, h.1, (h.2.0, h.2.1, each_moved R S h.2.0 xs move h.2.2))

only_one : (d : Data) (n : ℕ) → IsNumberWithin 1 1 d n → IsNumber d 1
only_one d n h =
    let one : n ≡ 1 = omega (arith, h.1, h.2) in
    subst (IsNumber d) one h.0

pub certificate_of : (p : CertificateParts) (format : ℕ) (levels : Vec NodeLevel Global) (places : Vec NodePlaces Global) (ranks : Vec NodeRanks Global) → p.format ≡ Some format → p.levels ≡ Some levels → p.places ≡ Some places → p.ranks ≡ Some ranks
    → AllPairs (λ a b. a.node ≢ b.node) levels.items → AllPairs (λ a b. a.node ≢ b.node) places.items → AllPairs (λ a b. a.node ≢ b.node) ranks.items → (ms : Members) → AreParts (certificate_slots p) ms
    → IsCertificateBy (noted p.nodes.now) (data_of (object ms)) (record { levels = map level_value levels.items; places = map places_value places.items; ranks = map node_ranks_value ranks.items }) × IsPlain (object ms)
certificate_of p format levels places ranks is_format is_levels is_places is_ranks one_level one_places one_ranks ms h =
    let format_here = here (codes "format") (IsNumberWithin 1 1) p.format ms h.read.0 format is_format in
    let levels_here = here (codes "levels") (λ d v. IsListOf (IsLevelBy (noted p.nodes.now)) d (map level_value v.items)) p.levels ms h.read.1.0 levels is_levels in
    let places_here = here (codes "places") (λ d v. IsListOf (ArePlacesBy (noted p.nodes.now)) d (map places_value v.items)) p.places ms h.read.1.1.0 places is_places in
    let ranks_here = here (codes "ranks") (λ d v. IsListOf (AreRanksBy (noted p.nodes.now)) d (map node_ranks_value v.items)) p.ranks ms h.read.1.1.1.0 ranks is_ranks in (
      λ plan found. let names = node_names plan.nodes in record {
        keys = all_keys certificate_keys ms h.plain (rw (format_here.1, levels_here.1, places_here.1, ranks_here.1) refl);
        format = (format_here.2.0, format_here.2.1, only_one format_here.2.0 format format_here.2.2);
        levels = moved (codes "levels") (IsLevelBy (noted p.nodes.now)) (IsLevelOf names) (data_of (object ms)) (map level_value levels.items) (λ d x is. is names found) levels_here.2;
        places = moved (codes "places") (ArePlacesBy (noted p.nodes.now)) (ArePlacesOf names) (data_of (object ms)) (map places_value places.items) (λ d x is. is names found) places_here.2;
        ranks = moved (codes "ranks") (AreRanksBy (noted p.nodes.now)) (AreRanksOf names) (data_of (object ms)) (map node_ranks_value ranks.items) (λ d x is. is names found) ranks_here.2;
        one_level = pairs_seen level_value (λ a b. a.node ≢ b.node) levels.items one_level;
        one_places = pairs_seen places_value (λ a b. a.node ≢ b.node) places.items one_places;
        one_ranks = pairs_seen node_ranks_value (λ a b. a.node ≢ b.node) ranks.items one_ranks;
      },
      object_plain certificate_keys ms h.plain,
    )
