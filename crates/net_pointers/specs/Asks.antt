-- What is asked of a text that is JSON.
use Rattle.std.specs.Prelude.{◌≡◌, ◌⊎◌, ⊤, ℕ, codes, Bool, true, false, List, [], ◌∷◌, Option, Some, None}
use Rattle.serde_json.{specs.Data.{Data}, specs.Find.{get}}
use Rattle.net_plan.{specs.EventReading.{events_format}, specs.Grammar.{Grammar, Known, grammar, known_view}, specs.Names.{names_at, names_differ, texts_at}, specs.PlanReading.{plan_format}, specs.Tables.{a_plan, a_certificate, events_in}}
use Rattle.plan_values.specs.PlanValues.{plan_value, node_names}
use Rattle.net_pointers.{specs.Doubles.{IsFirstDoubled}, specs.declared.doubled.TwoIndices.{TwoIndices}, specs.declared.order.Asked.{Asked}, specs.declared.order.NameList.{NameList}, specs.declared.order.NameList.TheVariants.{Buses, Levels, Places, Ranks}, specs.declared.order.TextSort.{TextSort}}
use Rattle.net_pointers.specs.declared.order.TextSort.TheVariants as of_text

-- ---- names

-- the key of a list whose entries have different names
abbrev pub list_key : NameList → List ℕ
list_key Buses = codes "buses"
list_key Levels = codes "levels"
list_key Places = codes "places"
list_key Ranks = codes "ranks"

-- the key at which an entry of it has its name
abbrev pub name_key : NameList → List ℕ
name_key Buses = codes "name"
name_key Levels = codes "node"
name_key Places = codes "node"
name_key Ranks = codes "node"

-- the texts at the key of each entry of a list, where there is one
abbrev pub texts_in : List ℕ → Option Data → List (List ℕ)
texts_in k (Some d) = texts_at k d
texts_in k None = []

-- the names that the entries of a list have
abbrev pub list_names : NameList → Data → List (List ℕ)
list_names list d = texts_in (name_key list) (get (list_key list) d)

-- none of the lists names something twice
abbrev pub DoDiffer : List NameList → Data → Type 0
DoDiffer [] d = ⊤
DoDiffer (list ∷ lists) d = (names_differ (list_names list d) ≡ true) × DoDiffer lists d

-- one of the lists names something twice for the first time at these entries, and none of the lists before it does
abbrev pub IsDoubledIn : List NameList → NameList → TwoIndices → Data → Type 0
IsDoubledIn [] at indices d = ⊥
IsDoubledIn (list ∷ lists) at indices d = ((at ≡ list) × IsFirstDoubled (list_names list d) indices)
    ⊎ ((names_differ (list_names list d) ≡ true) × IsDoubledIn lists at indices d)

-- the names that a plan gives its buses and nodes
abbrev pub known_in : Data → Known
known_in d = record { buses = names_at (codes "buses") d; nodes = names_at (codes "nodes") d }

-- the names of a plan's nodes
abbrev pub known_nodes : List (List ℕ) → Known
known_nodes nodes = record { buses = []; nodes = nodes }

-- ---- what is asked

-- what may stand where, which lists name nothing twice, whether ranges of ranks ascend apart, and which names there are
pub record Asks : Type 0 where
  pub grammar : Grammar
  pub lists : List NameList
  pub ascending : Bool
  pub known : Known

-- what a text is to be: a plan, or a certificate or events of a plan whose nodes have these names
pub data Sort : Type 0 where
  plan_text : Sort
  certificate_text : List (List ℕ) → Sort
  events_text : List (List ℕ) → Sort

abbrev pub asks_of : Sort → Data → Asks
asks_of plan_text d =
    record { grammar = a_plan (plan_format d); lists = Buses ∷ []; ascending = false; known = known_in d }
asks_of (certificate_text nodes) d =
    record {
      grammar = a_certificate;
      lists = Levels ∷ Places ∷ Ranks ∷ [];
      ascending = true;
      known = known_nodes nodes;
    }
asks_of (events_text nodes) d =
    record { grammar = events_in (events_format d); lists = []; ascending = false; known = known_nodes nodes }

-- ---- as the program holds them

abbrev pub asks : Asked → Asks
asks a =
    record { grammar = grammar a.shape.now; lists = a.lists.now; ascending = a.ascending; known = known_view a.known }

abbrev pub sort_of : TextSort → Sort
sort_of of_text.Plan = plan_text
sort_of (of_text.Certificate plan) = certificate_text (node_names (plan_value plan.now).nodes)
sort_of (of_text.Events plan) = events_text (node_names (plan_value plan.now).nodes)
