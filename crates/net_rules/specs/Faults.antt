-- Where a rule is broken, and which of the sites is the first.
use Rattle.std.specs.Prelude.{◌≡◌, ◌⊎◌, ℕ, suc, ◌<◌, List, [], ◌∷◌, Option, Some, None}
use Rattle.net_rules.{specs.declared.rule.Rule.{Rule}, specs.declared.rule.Rule.TheVariants.{C01, C02, C03, C04, C05, C06, C07, C08, C09, C10, C11, C12, C13, C14, C15, C16}, specs.declared.fault.Fault.{Fault}, specs.Rules.{Demands}}
use Rattle.plan_values.{specs.declared.plan.Plan.{Plan}, specs.declared.certificate.Certificate.{Certificate}}
use Rattle.net_tables.specs.Routing.{eid_number}

-- a rule and a node, with an entry and an EID where the rule speaks of them
pub record FaultSite : Type 0 where
  pub rule : Rule
  pub node : ℕ
  pub entry : Option ℕ
  pub eid : Option ℕ

abbrev pub site_of : Fault → FaultSite
site_of fault = record { rule = fault.rule; node = fault.node; entry = fault.entry; eid = eid_number fault.eid }

-- a rule's site in the order of the rules
abbrev pub order_of : Rule → ℕ
order_of C01 = 0
order_of C02 = 1
order_of C03 = 2
order_of C04 = 3
order_of C05 = 4
order_of C06 = 5
order_of C07 = 6
order_of C08 = 7
order_of C09 = 8
order_of C10 = 9
order_of C11 = 10
order_of C12 = 11
order_of C13 = 12
order_of C14 = 13
order_of C15 = 14
order_of C16 = 15

-- none comes before each number
abbrev pub order_of_number : Option ℕ → ℕ
order_of_number None = 0
order_of_number (Some k) = suc k

-- at the first site where the lists differ, the first list's number is less
abbrev pub LessByFirstDifference : List ℕ → List ℕ → Type 0
LessByFirstDifference (a ∷ rest) (b ∷ others) = (a < b) ⊎ ((a ≡ b) × LessByFirstDifference rest others)
LessByFirstDifference [] others = ⊥
LessByFirstDifference (a ∷ rest) [] = ⊥

-- by rule, then node, then entry, then EID
abbrev pub ComesBefore : FaultSite → FaultSite → Type 0
ComesBefore p q = LessByFirstDifference
    (order_of p.rule ∷ p.node ∷ order_of_number p.entry ∷ order_of_number p.eid ∷ [])
    (order_of q.rule ∷ q.node ∷ order_of_number q.entry ∷ order_of_number q.eid ∷ [])

-- the rule holds at the site
abbrev pub IsMet : Plan → Certificate → FaultSite → Type 0
IsMet plan cert p = Demands plan cert p.rule p.node p.entry p.eid

abbrev pub IsBroken : Plan → Certificate → FaultSite → Type 0
IsBroken plan cert p = ¬ IsMet plan cert p

-- the rule is broken at the site, and none is at a site before it
pub record IsFirstFault (plan : Plan) (cert : Certificate) (site : FaultSite) : Type 0 where
  pub broken : IsBroken plan cert site
  pub first : (other : FaultSite) → ComesBefore other site → IsMet plan cert other
