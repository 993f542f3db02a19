-- What words name: nodes, termini, endpoint IDs, and the ends of a way.
use Rattle.std.{specs.Prelude.{◌≡◌, ◌≢◌, ◌<◌, ℕ, List, Some, None, ◌⊎◌, true}, specs.Char.{is_ascii_digit}, specs.List.{list_all}, specs.Str.Parse.{digits_value}}
use Rattle.net_rules.specs.Names.{name_of}
use Rattle.net_tables.{specs.Repositories.{terminus_of}, specs.Routing.{Holds}}
use Rattle.plan_values.specs.declared.plan.Plan.{Plan}
use Rattle.mctp_transport.specs.PacketValues.{IsAssignable}

-- n is the first node of the name
pub record IsFirstNamed (plan : Plan) (name : List ℕ) (n : ℕ) : Type 0 where
  pub named : name_of plan n ≡ Some name
  pub first : (m : ℕ) → m < n → name_of plan m ≢ Some name

-- n is the first node of the name, and it has a terminus
abbrev pub IsTerminusNamed : Plan → List ℕ → ℕ → Type 0
IsTerminusNamed plan name n = IsFirstNamed plan name n × (terminus_of plan n ≢ None)

abbrev pub HasTerminusNamed : Plan → List ℕ → Type 0
HasTerminusNamed plan name = (n : ℕ) × IsTerminusNamed plan name n

-- the word is ASCII digits, and e, which can be assigned, is their number
abbrev pub IsEidWord : List ℕ → ℕ → Type 0
IsEidWord word e = (list_all is_ascii_digit word ≡ true) × (digits_value 10 word ≡ e) × IsAssignable e

-- e is the endpoint ID of the first node of the name; or no node has the name, and it is a number, e
abbrev pub IsDestination : Plan → List ℕ → ℕ → Type 0
IsDestination plan word e = ((n : ℕ) × IsFirstNamed plan word n × Holds plan n e)
    ⊎ (¬ ((n : ℕ) × IsFirstNamed plan word n) × IsEidWord word e)

-- the words name a node and a destination
abbrev pub NameTheEnds : List ℕ → List ℕ → Plan → Type 0
NameTheEnds from to plan = ((n : ℕ) × IsFirstNamed plan from n) × ((e : ℕ) × IsDestination plan to e)
