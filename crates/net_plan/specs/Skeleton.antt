-- The value of a plan without its rows and its termini, and these beside it.
use Rattle.std.specs.Prelude.{ℕ, ◌≡◌, ◌≢◌, ◌⊎◌, codes, List, [], ◌∷◌, map, true, Option, Some, None, option_map}
use Rattle.json.{specs.Json.{Json, null, array, no_items, object, Members, no_members, member, value}, specs.Lex.{tokens}, specs.Value.{value_view, items_view, members_view}}
use Rattle.serde_json.specs.Read.{max_depth}
use Rattle.net_plan.{specs.Gathered.{IsPlain, IsArrayOf}, specs.JsonWords.{IsShortListOf, IsOptional}, specs.PlanText.{IsTerminusOf}, specs.RowParts.{NamedRowValue, IsNamedRowOf, named_row}, specs.Trees.{data_of, fits}, specs.declared.skeleton.CutParts.{CutParts}, specs.declared.skeleton.NodeParts.{NodeParts}, specs.declared.skeleton.NodeSkeleton.{NodeSkeleton}, specs.declared.skeleton.PlacedParts.{PlacedParts}, specs.declared.skeleton.PlanParts.{PlanParts}, specs.declared.skeleton.PlanSkeleton.{PlanSkeleton}}
use Rattle.plan_values.specs.NodeValues.{NodeValue, RowValue, TerminusValue, row_value, terminus_value}

-- one value stands for another at a key: at this key as R tells, and elsewhere it is that value
abbrev pub IsStandIn : List ℕ → (Json → Json → Type 0) → List ℕ → Json → Json → Type 0
IsStandIn cut R k j l = ((k ≡ cut) × R j l) ⊎ ((k ≢ cut) × (j ≡ l))

-- the same of the members of two objects, which have the same keys
abbrev pub AreStandIns : List ℕ → (Json → Json → Type 0) → Members → Members → Type 0
AreStandIns cut R no_members no_members = Unit {0}
AreStandIns cut R (member k j ms) (member i l ls) = (k ≡ i) × IsStandIn cut R k j l × AreStandIns cut R ms ls
AreStandIns cut R no_members (member i l ls) = ⊥
AreStandIns cut R (member k j ms) no_members = ⊥

-- `null` stands for this terminus, or for none
abbrev pub IsCutTerminus : Option (Option TerminusValue) → Json → Json → Type 0
IsCutTerminus None j l = ⊥
IsCutTerminus (Some t) j l = IsOptional IsTerminusOf (data_of j) t × IsPlain j × (l ≡ null)

-- an empty list stands for these rows
abbrev pub IsCutRows : Option (List NamedRowValue) → Json → Json → Type 0
IsCutRows None j l = ⊥
IsCutRows (Some rs) j l = IsShortListOf 256 IsNamedRowOf (data_of j) rs × IsPlain j × (l ≡ array no_items)

abbrev pub AreNodeParts : NodeParts → Members → Type 0
AreNodeParts p ms =
    (mid : Members)
    × AreStandIns (codes "terminus") (IsCutTerminus (option_map (λ t. option_map terminus_value t) p.terminus)) ms mid
    × AreStandIns (codes "rows") (IsCutRows (option_map (λ v. map named_row v.items) p.rows)) mid
    (members_view p.found.items)

-- what is read beside the rest of a node; the next nodes of its rows are still names
pub record CutValue : Type 0 where
  pub rows : List NamedRowValue
  pub terminus : Option TerminusValue

abbrev pub cut_value : CutParts → CutValue
cut_value p = record { rows = map named_row p.rows.items; terminus = option_map terminus_value p.terminus }

-- a node whose rows and terminus stand beside the rest
abbrev pub IsNodeSkeleton : Json → NodeSkeleton → Type 0
IsNodeSkeleton j s =
    (ms mid ls : Members) × (j ≡ object ms) × (value_view s.value ≡ object ls)
    × AreStandIns (codes "terminus") (IsCutTerminus (Some (cut_value s.parts).terminus)) ms mid
    × AreStandIns (codes "rows") (IsCutRows (Some (cut_value s.parts).rows)) mid ls

-- a list of nodes stands for the nodes with these parts
abbrev pub IsCutNodes : Option (List CutValue) → Json → Json → Type 0
IsCutNodes None j l = ⊥
IsCutNodes (Some ps) j l =
    (ss : List NodeSkeleton) × IsArrayOf IsNodeSkeleton j ss × (l ≡ array (items_view (map (λ s. s.value) ss)))
    × (ps ≡ map (λ s. cut_value s.parts) ss)

abbrev pub ArePlanParts : PlanParts → Members → Type 0
ArePlanParts p ms =
    AreStandIns (codes "nodes") (IsCutNodes (option_map (λ v. map cut_value v.items) p.parts)) ms
    (members_view p.found.items)

-- the text is an object, in which nodes without rows and termini stand for those with these
abbrev pub IsPlanSkeleton : List ℕ → PlanSkeleton → Type 0
IsPlanSkeleton text s =
    (ms ls : Members) × (value max_depth (tokens text) ≡ Some (object ms, [])) × (value_view s.value ≡ object ls)
    × AreStandIns (codes "nodes") (IsCutNodes (Some (map cut_value s.parts.items))) ms ls × (fits (object ls) ≡ true)

-- a row whose next node stands at the index that was found
abbrev pub found_row : (List ℕ → ℕ) → NamedRowValue → RowValue
found_row find r = record { first = r.first; size = r.size; port = r.port; next = find r.next }

-- the rows and the terminus of a node
pub record PlacedValue : Type 0 where
  pub rows : List RowValue
  pub terminus : Option TerminusValue

abbrev pub placed_value : PlacedParts → PlacedValue
placed_value p = record { rows = map row_value p.rows.items; terminus = option_map terminus_value p.terminus }

abbrev pub found_value : (List ℕ → ℕ) → CutValue → PlacedValue
found_value find c = record { rows = map (found_row find) c.rows; terminus = c.terminus }

-- a node with these rows and this terminus
abbrev pub with_part : NodeValue → PlacedValue → NodeValue
with_part n p = record n { rows = p.rows; terminus = p.terminus }

-- nodes with these rows and termini, one by one
abbrev pub with_parts : List NodeValue → List PlacedValue → List NodeValue
with_parts [] ps = []
with_parts (n ∷ ns) [] = []
with_parts (n ∷ ns) (p ∷ ps) = with_part n p ∷ with_parts ns ps
