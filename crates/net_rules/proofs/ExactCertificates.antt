-- A plan that meets the rules, and the certificate that is exactly its own: it is accepted, and well formed.
use Rattle.std.{proofs.Common.{◌≡◌, ◌≢◌, ℕ, zero, suc, ◌+◌, ◌<◌, ◌≤◌, List, length, map, get_or, slice_get, Option, Some, None, unwrap_or, refl, sym, ◌∙◌, ap, subst, arith, option_map, AllPairs, All, nat_lt, Bool, true, [], ◌∷◌, string_bytes}, specs.List.{list_all}, proofs.lemmas.Bool.{and_from, lt-ltb}, proofs.lemmas.List.{length-map}, proofs.lemmas.Option.{slice_get-map, get_or_from_slice_get}}
use Rattle.net_rules.{specs.declared.rule.Rule.{Rule}, specs.declared.rule.Rule.TheVariants.{C01, C02, C03, C04, C05, C06, C07, C08, C09, C10, C11, C12, C13, C14, C15, C16}, specs.Names.{HaveOneName, HasNewName}, specs.Owners.{IsBelowItsOwner}, specs.OwnerLoops.{IsLevel}, specs.Superfluous.{NeedsItsLevel, NeedsItsPlaces, NeedsWhatItIsGiven, NeedsItsRank}, specs.Rules.{CertificateDemands, Accepts}, specs.PlanFaults.{PlanMeetsAll}, specs.RoutingLoops.{IsRank}, specs.Certificates.{AreExactLevels, AreExactPlaces, AreExactRanks, IsExact, IsExactBy, IsOnlyExact, IsOnlyExactBy, IsMadeBefore}, proofs.Circling.{ends_once}, proofs.CertificateLaws.{rows_apart, exact_falls}, proofs.EidMoves.{rank_only}, proofs.RuleOrder.{all_below}, proofs.OneCertificate.{one_ranks}, proofs.OneOrder.{found_there, one_levels, one_places}, proofs.LevelLaws.{one_owner, exact_levels_fall}}
use Rattle.plan_values.{specs.declared.plan.Plan.{Plan}, specs.declared.nodes.Node.{Node}, specs.declared.certificate.Certificate.{Certificate}, specs.declared.certificate.NodePlaces.{NodePlaces}, specs.declared.terminus.PlannedTerminus.{PlannedTerminus}, specs.CertificateValues.{certificate_value, level_value, places_value, node_ranks_value, range_value, IsAscending, are_known}, specs.NodeValues.{node_value, node_names}, specs.PlanValues.{plan_value}, specs.ShortText.{HasFewPlaces}, specs.WellFormed.{IsWellFormed}, specs.declared.nodes.Row.{Row}}
use Rattle.net_tables.{specs.Routing.{Holds, HasRow, Covers, rows_of}, specs.Ownership.{owner_of, IsOwnedBy, given_level, level}, specs.Ranks.{rank, Falls}, specs.Repositories.{terminus_of, records_of, places_given}, specs.TwoPlans.{one_plan}, proofs.Elements.{element}}

-- ---- it is accepted

-- a node without an owner is of level 0
unowned_level : (plan : Plan) (n k : ℕ) → owner_of plan n ≡ None → IsLevel plan n k → k ≡ 0
unowned_level plan n k none is = ends_once (IsOwnedBy plan) (one_owner plan) n k 0 is (n, refl, λ owner owned. absurd (let clash : None ≡ Some owner = sym none ∙ owned in cc))

-- the levels that the rules read are the exact ones
levels_read : (plan : Plan) (cert : Certificate) → AreExactLevels plan cert.levels.items → (n : ℕ) → IsLevel plan n (level plan cert n)
levels_read plan cert exact n = by (owner_of plan n) refl
  where
    by : (owner : Option ℕ) → owner_of plan n ≡ owner → IsLevel plan n (level plan cert n)
    by None none = (
        let P : ℕ → Type 0 = IsLevel plan n in
        let here = exact.levels n in
        let low : given_level cert n ≡ 0 = unowned_level plan n (given_level cert n) none here in
        rw none (subst P low here))
    by (Some owner) owned = rw owned (exact.levels n)

pub below_owner : (plan : Plan) (cert : Certificate) → AreExactLevels plan cert.levels.items → (n : ℕ) → IsBelowItsOwner plan cert n
below_owner plan cert exact n = exact_levels_fall plan cert (levels_read plan cert exact) n

pub needs_given : (plan : Plan) (cert : Certificate) → AreExactLevels plan cert.levels.items → AreExactPlaces plan cert.places.items → (n : ℕ) → NeedsWhatItIsGiven plan cert n
unfolding NeedsWhatItIsGiven NeedsItsLevel NeedsItsPlaces
needs_given plan cert levels places n within =
    (λ none. unowned_level plan n (given_level cert n) none (levels.levels n), let long = (places.places n).0 in omega arith)

needs_rank : (plan : Plan) (cert : Certificate) → AreExactRanks plan cert.ranks.items → (n e : ℕ) → NeedsItsRank (one_plan plan) cert n e
unfolding NeedsItsRank
needs_rank plan cert exact n e within low some = by (rank cert n e) refl (exact.ranks n e)
  where
    by : (k : ℕ) → rank cert n e ≡ k → IsRank plan n e k → ¬ Holds plan n e × HasRow plan n e
    by zero none is = absurd (some none)
    by (suc k) is (m, (p, move, rest), ends) = (move.0, (p, move.1))

-- what the rules demand of the certificate
pub demands_met : (plan : Plan) (cert : Certificate) → AreExactLevels plan cert.levels.items → AreExactPlaces plan cert.places.items
    → ((n r e : ℕ) (row : Row) → slice_get (rows_of plan n) r ≡ Some row → Covers row e → Falls plan cert n row e)
    → (rule : Rule) → (rule ≡ C16 → (n e : ℕ) → NeedsItsRank (one_plan plan) cert n e) → (n : ℕ) (entry eid : Option ℕ) → CertificateDemands plan cert rule n entry eid
demands_met plan cert levels places falls C01 needs n entry eid = tt
demands_met plan cert levels places falls C02 needs n entry eid = tt
demands_met plan cert levels places falls C03 needs n entry eid = tt
demands_met plan cert levels places falls C04 needs n entry eid = tt
demands_met plan cert levels places falls C05 needs n entry eid = tt
demands_met plan cert levels places falls C06 needs n entry eid = tt
demands_met plan cert levels places falls C07 needs n None None = below_owner plan cert levels n
demands_met plan cert levels places falls C07 needs n None (Some e) = tt
demands_met plan cert levels places falls C07 needs n (Some i) eid = tt
demands_met plan cert levels places falls C08 needs n entry eid = tt
demands_met plan cert levels places falls C09 needs n entry eid = tt
demands_met plan cert levels places falls C10 needs n None eid = tt
demands_met plan cert levels places falls C10 needs n (Some r) None = tt
demands_met plan cert levels places falls C10 needs n (Some r) (Some e) = λ row is covers. falls n r e row is covers
demands_met plan cert levels places falls C11 needs n entry eid = tt
demands_met plan cert levels places falls C12 needs n entry eid = tt
demands_met plan cert levels places falls C13 needs n entry eid = tt
demands_met plan cert levels places falls C14 needs n None eid = tt
demands_met plan cert levels places falls C14 needs n (Some j) None = λ r is. (places.places n).1 j r is
demands_met plan cert levels places falls C14 needs n (Some j) (Some e) = tt
demands_met plan cert levels places falls C15 needs n entry eid = tt
demands_met plan cert levels places falls C16 needs n None None = needs_given plan cert levels places n
demands_met plan cert levels places falls C16 needs n None (Some e) = needs refl n e
demands_met plan cert levels places falls C16 needs n (Some i) eid = tt

pub exact_accepted : (plan : Plan) (cert : Certificate) → PlanMeetsAll plan → IsExact plan cert → Accepts plan cert
exact_accepted plan cert met exact rule n entry eid = (
  met rule n entry eid,
  demands_met plan cert exact.levels exact.places (exact_falls plan cert (rows_apart plan met) exact.ranks) rule (λ _. needs_rank plan cert exact.ranks) n entry eid,
)

-- ---- it is well formed

abbrev name_of_node : Node → List ℕ
name_of_node node = string_bytes node.name.text

-- the names of a plan's value
names_are : (nodes : List Node) → node_names (map node_value nodes) ≡ map name_of_node nodes
names_are [] = refl
names_are (node ∷ nodes) = ap (λ names. name_of_node node ∷ names) (names_are nodes)

module _ {X Y : Type 0} (see : X → Y) (xs : List X) where
  seen_at : (i : ℕ) (x : X) (d : Y) → slice_get xs i ≡ Some x → get_or (map see xs) i d ≡ see x
  seen_at i x d is = get_or_from_slice_get (map see xs) i (see x) d (slice_get-map see xs i ∙ ap (option_map see) is)

  -- what holds of all items holds of them as they are seen
  all_seen : (P : Y → Type 0) → ((i : ℕ) (x : X) → slice_get xs i ≡ Some x → P (see x)) → All P (map see xs)
  all_seen P each i d within =
      let a = element xs i (omega (arith, length-map xs see)) in
      subst P (sym (seen_at i a.0 d a.1)) (each i a.0 a.1)

  pairs_seen : (R : Y → Y → Type 0) → ((i j : ℕ) (x y : X) → i < j → slice_get xs i ≡ Some x → slice_get xs j ≡ Some y → R (see x) (see y)) → AllPairs R (map see xs)
  pairs_seen R each i j d less within =
      let a = element xs i (omega (arith, length-map xs see)) in
      let b = element xs j (omega (arith, length-map xs see)) in
      let P : Y → Type 0 = λ y. R y (get_or (map see xs) j d) in
      let Q : Y → Type 0 = R (see a.0) in
      subst P (sym (seen_at i a.0 d a.1)) (subst Q (sym (seen_at j b.0 d b.1)) (each i j a.0 b.0 less a.1 b.1))

  known_seen : (node_of : Y → ℕ) (count : ℕ) → ((i : ℕ) (x : X) → slice_get xs i ≡ Some x → node_of (see x) < count) → list_all (λ y. nat_lt (node_of y) count) (map see xs) ≡ true
  known_seen node_of count each = all_pass (λ y. nat_lt (node_of y) count) (map see xs) (all_seen (λ y. nat_lt (node_of y) count ≡ true) (λ i x is. lt-ltb (node_of (see x)) count (each i x is)))
    where
      all_pass : (p : Y → Bool) (ys : List Y) → All (λ y. p y ≡ true) ys → list_all p ys ≡ true
      all_pass p [] each = refl
      all_pass p (y ∷ ys) each = and_from (p y) (list_all p ys) (each 0 y (omega arith)) (all_pass p ys (λ i d within. each (suc i) d (omega arith)))

names_apart : (plan : Plan) → PlanMeetsAll plan → AllPairs (λ a b. a ≢ b) (map name_of_node plan.nodes.items)
unfolding HasNewName HaveOneName
names_apart plan met = pairs_seen name_of_node plan.nodes.items (λ a b. a ≢ b) (λ i j x y less here there same.
    met C01 j None None i less (name_of_node x, ap (option_map name_of_node) here, ap (option_map name_of_node) there ∙ ap Some (sym same)))

pub exact_well_formed : (plan : Plan) (IsRankOf : ℕ → ℕ → ℕ → Type 0) (cert : Certificate) → PlanMeetsAll plan → IsExactBy plan IsRankOf cert → IsWellFormed (plan_value plan) (certificate_value cert)
exact_well_formed plan IsRankOf cert met exact = record {
  names = (let P : List (List ℕ) → Type 0 = AllPairs (λ a b. a ≢ b) in subst P (sym (names_are plan.nodes.items)) (names_apart plan met));
  known = (let count = length (map node_value plan.nodes.items) in
      let many : count ≡ length plan.nodes.items = length-map plan.nodes.items node_value in
      let K : ℕ → Type 0 = λ k. are_known k (certificate_value cert) ≡ true in
      let levels = known_seen level_value cert.levels.items (λ l. l.node) (length plan.nodes.items) exact.levels.within in
      let places = known_seen places_value cert.places.items (λ p. p.node) (length plan.nodes.items) exact.places.within in
      let ranks = known_seen node_ranks_value cert.ranks.items (λ r. r.node) (length plan.nodes.items) exact.ranks.within in
      subst K (sym many) (and_from _ _ levels (and_from _ _ places ranks)));
  one_level = pairs_seen level_value cert.levels.items (λ a b. a.node ≢ b.node) (λ i j x y less here there same. absurd (omega (arith, exact.levels.ascend i j x y less here there, same)));
  one_places = pairs_seen places_value cert.places.items (λ a b. a.node ≢ b.node) (λ i j x y less here there same. absurd (omega (arith, exact.places.ascend i j x y less here there, same)));
  one_ranks = pairs_seen node_ranks_value cert.ranks.items (λ a b. a.node ≢ b.node) (λ i j x y less here there same. absurd (omega (arith, exact.ranks.ascend i j x y less here there, same)));
  ascending = all_seen node_ranks_value cert.ranks.items (λ r. IsAscending r.ranges) (λ i one is.
      pairs_seen range_value one.ranges.items (λ a b. a.first + a.size ≤ b.first) (λ k l x y less here there. (exact.ranks.longest i one is).ascend k l x y less here there));
}

-- ---- it has few places

-- a terminus has few records
few_records : (plan : Plan) (n : ℕ) → length (records_of plan n) ≤ 4096
few_records plan n = by (terminus_of plan n)
  where
    by : (t : Option PlannedTerminus) → length (unwrap_or (option_map (λ t. t.records.items) t) []) ≤ 4096
    by None = omega arith
    by (Some t) = omega (arith, t.few_records, t.records.ok.0)

place_numbers : NodePlaces → List ℕ
place_numbers given = map (λ p. p.value) given.places.items

given_numbers : Option NodePlaces → List ℕ
given_numbers given = unwrap_or (option_map place_numbers given) []

-- a node is given a place for each of its records
pub exact_few : (plan : Plan) (IsRankOf : ℕ → ℕ → ℕ → Type 0) (cert : Certificate) → IsExactBy plan IsRankOf cert → HasFewPlaces (certificate_value cert)
unfolding given_numbers place_numbers
exact_few plan IsRankOf cert exact = all_seen places_value cert.places.items (λ p. length p.places ≤ 4096) (λ i one is.
    let given : places_given cert.places.items one.node ≡ place_numbers one = ap given_numbers (found_there (λ (x : NodePlaces). x.node) cert.places.items exact.places.ascend i one is) in
    let long = (exact.places.places one.node).0 in
    omega (arith, ap length given, long, few_records plan one.node))

-- ---- it is the only one

pub exact_only_by : (plan : Plan) (IsRankOf : ℕ → ℕ → ℕ → Type 0) (only : (n e k l : ℕ) → IsRankOf n e k → IsRankOf n e l → k ≡ l) (cert : Certificate) → PlanMeetsAll plan → IsExactBy plan IsRankOf cert → IsOnlyExactBy plan IsRankOf cert
exact_only_by plan IsRankOf only cert met exact other exact' =
    let levels = one_levels plan cert other exact.levels exact'.levels in
    let places = one_places plan met cert other exact.places exact'.places in
    let ranks = one_ranks IsRankOf (length plan.nodes.items) only cert other exact.ranks exact'.ranks in
    λ i. record { levels = levels i; places = places i; ranks = ranks i }

pub exact_only : (plan : Plan) (cert : Certificate) → PlanMeetsAll plan → IsExact plan cert → IsOnlyExact plan cert
exact_only plan cert met exact = exact_only_by plan (IsRank plan) (λ n e k l. rank_only plan n e k l (rows_apart plan met)) cert met exact

-- ---- it is made part by part

pub made_meets : (plan : Plan) (made : Certificate) → IsMadeBefore plan 16 made → PlanMeetsAll plan
made_meets plan made is rule = is.meets rule (all_below rule)

pub made_exact : (plan : Plan) (made : Certificate) → IsMadeBefore plan 16 made → IsExact plan made
made_exact plan made is = record { levels = is.levels (omega arith); places = is.places (omega arith); ranks = is.ranks (omega arith) }
