-- The rules of a move: two plans that differ in rows alone, and one certificate for both.
use Rattle.std.specs.Prelude.{◌≡◌, ℕ, map, length, Option, option_map, ⊤}
use Rattle.net_rules.{specs.declared.rule.Rule.{Rule}, specs.declared.rule.Rule.TheVariants.{C04, C05, C06, C10, C11, C16}, specs.HeldEids.{IsLedOn}, specs.Superfluous.{NeedsWhatItIsGiven, NeedsItsRank}, specs.Rules.{AtNode, AtNodeOrEid, AtRowEid, Demands}}
use Rattle.plan_values.{specs.declared.plan.Plan.{Plan}, specs.declared.certificate.Certificate.{Certificate}, specs.NodeValues.{bus_value, but_rows}}
use Rattle.net_tables.{specs.Routing.{node_at}, specs.TwoPlans.{moving}}

-- n is the same in both plans, but for its rows
unfoldable pub IsSameNode : Plan → Plan → ℕ → Type 0
IsSameNode before after n = option_map but_rows (node_at before n) ≡ option_map but_rows (node_at after n)

-- the transmission unit and the buses are the same, these in their order, and the nodes as many
unfoldable pub HaveSameFrame : Plan → Plan → Type 0
HaveSameFrame before after =
    (before.unit ≡ after.unit)
    × (map bus_value before.buses.items ≡ map bus_value after.buses.items)
    × (length before.nodes.items ≡ length after.nodes.items)

-- What is required, in the order in which it is asked: the two frames, each node but for its rows; the rules of the
-- plan before; those of the rows after; ways on along the rows before, and after; what the certificate gives.
pub data Requirement : Type 0 where
  SameFrame : Requirement
  SameNode : Requirement
  Before : Rule → Requirement
  After : Rule → Requirement
  WayOnBefore : Requirement
  WayOnAfter : Requirement
  Given : Requirement

-- all but the last rule, which is asked of both plans together
abbrev pub DemandsBefore : Plan → Certificate → Rule → ℕ → Option ℕ → Option ℕ → Type 0
DemandsBefore plan cert C16 n entry eid = ⊤
DemandsBefore plan cert rule n entry eid = Demands plan cert rule n entry eid

-- the rules that speak of rows
abbrev pub DemandsAfter : Plan → Certificate → Rule → ℕ → Option ℕ → Option ℕ → Type 0
DemandsAfter plan cert C04 n entry eid = Demands plan cert C04 n entry eid
DemandsAfter plan cert C05 n entry eid = Demands plan cert C05 n entry eid
DemandsAfter plan cert C06 n entry eid = Demands plan cert C06 n entry eid
DemandsAfter plan cert C10 n entry eid = Demands plan cert C10 n entry eid
DemandsAfter plan cert C11 n entry eid = Demands plan cert C11 n entry eid
DemandsAfter plan cert _ n entry eid = ⊤

-- what is asked at a node, an entry and an EID
abbrev pub MoveDemands : Plan → Plan → Certificate → Requirement → ℕ → Option ℕ → Option ℕ → Type 0
MoveDemands before after cert SameFrame n entry eid = AtNode (HaveSameFrame before after) entry eid
MoveDemands before after cert SameNode n entry eid = AtNode (IsSameNode before after n) entry eid
MoveDemands before after cert (Before rule) n entry eid = DemandsBefore before cert rule n entry eid
MoveDemands before after cert (After rule) n entry eid = DemandsAfter after cert rule n entry eid
MoveDemands before after cert WayOnBefore n entry eid =
    AtRowEid before n (λ row e. IsLedOn (moving before after) n e row.next) entry eid
MoveDemands before after cert WayOnAfter n entry eid =
    AtRowEid after n (λ row e. IsLedOn (moving before after) n e row.next) entry eid
MoveDemands before after cert Given n entry eid =
    AtNodeOrEid (NeedsWhatItIsGiven before cert n) (NeedsItsRank (moving before after) cert n) entry eid

-- all of it holds everywhere
abbrev pub AcceptsMove : Plan → Plan → Certificate → Type 0
AcceptsMove before after cert =
    (requirement : Requirement) (n : ℕ) (entry eid : Option ℕ) → MoveDemands before after cert requirement n entry eid
