-- What the searches for a fault of a move answer.
use Rattle.std.specs.Prelude.{◌≡◌, ℕ, ◌<◌, [], ◌∷◌, Option, Some, None}
use Rattle.net_rules.{specs.declared.rule.Rule.{Rule}, specs.declared.fault.Fault.{Fault}, specs.declared.move_fault.MoveRule.{MoveRule}, specs.declared.move_fault.MoveFault.{MoveFault}, specs.Faults.{FaultSite, site_of, order_of_number, LessByFirstDifference, ComesBefore}, specs.MoveRules.{IsSameNode}}
use Rattle.plan_values.specs.declared.plan.Plan.{Plan}
use Rattle.net_tables.specs.Routing.{eid_number}

-- the first node that is not the same, if any
abbrev pub IsFirstUnlike : Plan → Plan → Option ℕ → Type 0
IsFirstUnlike before after None = (n : ℕ) → IsSameNode before after n
IsFirstUnlike before after (Some n) = ¬ IsSameNode before after n × ((m : ℕ) → m < n → IsSameNode before after m)

-- a node, an entry and an EID come before others
abbrev pub NodeComesBefore : ℕ → Option ℕ → Option ℕ → ℕ → Option ℕ → Option ℕ → Type 0
NodeComesBefore n entry eid n' entry' eid' =
    LessByFirstDifference (n ∷ order_of_number entry ∷ order_of_number eid ∷ [])
    (n' ∷ order_of_number entry' ∷ order_of_number eid' ∷ [])

-- the first fault of one rule, by what the rules demand, if any
abbrev pub IsFirstByRule : (Rule → ℕ → Option ℕ → Option ℕ → Type 0) → Rule → Option Fault → Type 0
IsFirstByRule D rule None = (n : ℕ) (entry eid : Option ℕ) → D rule n entry eid
IsFirstByRule D rule (Some fault) =
    (fault.rule ≡ rule) × ¬ D rule fault.node fault.entry (eid_number fault.eid)
    × ((n : ℕ) (entry eid : Option ℕ) → NodeComesBefore n entry eid fault.node fault.entry (eid_number fault.eid)
    → D rule n entry eid)

-- the first fault of all, by what the rules demand, if any
abbrev pub IsFirstByRules : (Rule → ℕ → Option ℕ → Option ℕ → Type 0) → Option Fault → Type 0
IsFirstByRules D None = (rule : Rule) (n : ℕ) (entry eid : Option ℕ) → D rule n entry eid
IsFirstByRules D (Some fault) =
    ¬ D fault.rule fault.node fault.entry (eid_number fault.eid)
    × ((other : FaultSite) → ComesBefore other (site_of fault) → D other.rule other.node other.entry other.eid)

-- the first fault of a rule of both plans, by what it demands at each node, if any
abbrev pub IsFirstByNode : MoveRule → (ℕ → Option ℕ → Option ℕ → Type 0) → Option MoveFault → Type 0
IsFirstByNode rule D None = (n : ℕ) (entry eid : Option ℕ) → D n entry eid
IsFirstByNode rule D (Some fault) =
    (fault.rule ≡ rule) × ¬ D fault.node fault.entry (eid_number fault.eid)
    × ((n : ℕ) (entry eid : Option ℕ) → NodeComesBefore n entry eid fault.node fault.entry (eid_number fault.eid)
    → D n entry eid)
