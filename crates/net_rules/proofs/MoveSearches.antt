-- What the searches for a fault find.
use Rattle.std.{proofs.Common.{◌≡◌, ℕ, ◌<◌, ◌≤◌, length, Bool, true, false, Option, Some, None, refl, sym, subst, inl, inr, Result, Ok, Err}, specs.Prelude.{IfOk, ⊤}}
use Rattle.net_rules.{specs.declared.rule.Rule.{Rule}, specs.declared.rule.Rule.TheVariants.{C01, C02, C03, C04, C05, C06, C07, C08, C09, C10, C11, C12, C13, C14, C15, C16}, specs.declared.fault.Fault.{Fault}, specs.declared.spot.Spot.{Spot}, specs.declared.move_fault.MoveRule.{MoveRule}, specs.Rules.{AtNodeOrEid, Demands}, specs.Superfluous.{NeedsWhatItIsGiven, NeedsItsRank}, specs.declared.asked.Asked.{Asked}, specs.declared.asked.Asked.TheVariants.{Alone, Before, After}, specs.Asked.{is_asked, DemandsAsked}, specs.Search.{IsFirstSpot, IsFirstOfAll}, specs.MoveSearch.{IsFirstByRule, IsFirstByRules, IsFirstByNode, NodeComesBefore}, proofs.Beyond.{at_node_or_eid, needs_given, needs_rank}}
use Rattle.plan_values.{specs.declared.plan.Plan.{Plan}, specs.declared.certificate.Certificate.{Certificate}}
use Rattle.net_tables.{specs.Routing.{eid_number}, specs.TwoPlans.{Tables}}

-- a rule's first fault, where something else demands the same
by_rule : (D E : Rule → ℕ → Option ℕ → Option ℕ → Type 0) (rule : Rule) (found : Option Fault)
    → ((n : ℕ) (entry eid : Option ℕ) → (D rule n entry eid → E rule n entry eid) × (E rule n entry eid → D rule n entry eid))
    → IsFirstByRule D rule found → IsFirstByRule E rule found
by_rule D E rule None same holds = λ n entry eid. (same n entry eid).0 (holds n entry eid)
by_rule D E rule (Some fault) same (is, broken, first) = (
  is,
  λ met. broken ((same fault.node fault.entry (eid_number fault.eid)).1 met),
  λ n entry eid before. (same n entry eid).0 (first n entry eid before),
)

-- what a rule demands where it is asked is what it demands of any plan
abbrev Agree : Bool → Type 0 → Type 0 → Type 0
Agree true asked any = (any → asked) × (asked → any)
Agree false asked any = ⊤

module _ (plan : Plan) (cert : Certificate) where
  agrees : (asked : Asked) (rule : Rule) (n : ℕ) (entry eid : Option ℕ) → Agree (is_asked asked rule) (DemandsAsked asked plan cert rule n entry eid) (Demands plan cert rule n entry eid)
  agrees Alone rule n entry eid = (λ d. d, λ d. d)
  agrees Before C01 n entry eid = (λ d. d, λ d. d)
  agrees Before C02 n entry eid = (λ d. d, λ d. d)
  agrees Before C03 n entry eid = (λ d. d, λ d. d)
  agrees Before C04 n entry eid = (λ d. d, λ d. d)
  agrees Before C05 n entry eid = (λ d. d, λ d. d)
  agrees Before C06 n entry eid = (λ d. d, λ d. d)
  agrees Before C07 n entry eid = (λ d. d, λ d. d)
  agrees Before C08 n entry eid = (λ d. d, λ d. d)
  agrees Before C09 n entry eid = (λ d. d, λ d. d)
  agrees Before C10 n entry eid = (λ d. d, λ d. d)
  agrees Before C11 n entry eid = (λ d. d, λ d. d)
  agrees Before C12 n entry eid = (λ d. d, λ d. d)
  agrees Before C13 n entry eid = (λ d. d, λ d. d)
  agrees Before C14 n entry eid = (λ d. d, λ d. d)
  agrees Before C15 n entry eid = (λ d. d, λ d. d)
  agrees Before C16 n entry eid = tt
  agrees After C01 n entry eid = tt
  agrees After C02 n entry eid = tt
  agrees After C03 n entry eid = tt
  agrees After C04 n entry eid = (λ d. d, λ d. d)
  agrees After C05 n entry eid = (λ d. d, λ d. d)
  agrees After C06 n entry eid = (λ d. d, λ d. d)
  agrees After C07 n entry eid = tt
  agrees After C08 n entry eid = tt
  agrees After C09 n entry eid = tt
  agrees After C10 n entry eid = (λ d. d, λ d. d)
  agrees After C11 n entry eid = (λ d. d, λ d. d)
  agrees After C12 n entry eid = tt
  agrees After C13 n entry eid = tt
  agrees After C14 n entry eid = tt
  agrees After C15 n entry eid = tt
  agrees After C16 n entry eid = tt

  pub found_asked : (asked : Asked) (rule : Rule) (found : Option Fault) → is_asked asked rule ≡ true → IsFirstByRule (Demands plan cert) rule found → IsFirstByRule (DemandsAsked asked plan cert) rule found
  found_asked asked rule found is =
      by_rule (Demands plan cert) (DemandsAsked asked plan cert) rule found
      (λ n entry eid. let P : Bool → Type 0 = λ b. Agree b (DemandsAsked asked plan cert rule n entry eid) (Demands plan cert rule n entry eid) in subst P is (agrees asked rule n entry eid))

  -- the first fault of all rules
  pub of_all : (found : Option Fault) → IsFirstByRules (DemandsAsked Alone plan cert) found → IsFirstOfAll plan cert found
  of_all None holds = holds
  of_all (Some fault) (broken, first) = record { broken = broken; first = first }

-- what is demanded before the first spot of a node, where nothing is broken at the nodes before it
met_before : (D : ℕ → Option ℕ → Option ℕ → Type 0) (node : ℕ) (spot : Spot) → ((k : ℕ) → k < node → (entry eid : Option ℕ) → D k entry eid) → IsFirstSpot (D node) (Some spot)
    → (n : ℕ) (entry eid : Option ℕ) → NodeComesBefore n entry eid node spot.entry (eid_number spot.eid) → D n entry eid
met_before D node spot earlier found n entry eid before = elim before [
  | inl less ↦ earlier n less entry eid
  | inr (same, rest) ↦ (let P : ℕ → Type 0 = λ k. D k entry eid in subst P (sym same) (found.1 entry eid rest))
]

-- the first node at which a rule of one plan, or of both plans, is broken, and where there
pub first_at_node : (D : Rule → ℕ → Option ℕ → Option ℕ → Type 0) (rule : Rule) (node : ℕ) (spot : Spot)
    → ((k : ℕ) → k < node → (entry eid : Option ℕ) → D rule k entry eid) → IsFirstSpot (D rule node) (Some spot)
    → IsFirstByRule D rule (Some (record { rule = rule; node = node; entry = spot.entry; eid = spot.eid }))
first_at_node D rule node spot earlier found = (refl, found.0, met_before (D rule) node spot earlier found)

pub first_by_node : (rule : MoveRule) (D : ℕ → Option ℕ → Option ℕ → Type 0) (node : ℕ) (spot : Spot)
    → ((k : ℕ) → k < node → (entry eid : Option ℕ) → D k entry eid) → IsFirstSpot (D node) (Some spot)
    → IsFirstByNode rule D (Some (record { rule = rule; node = node; entry = spot.entry; eid = spot.eid }))
first_by_node rule D node spot earlier found = (refl, found.0, met_before D node spot earlier found)

-- a node beyond the plan is given nothing that it has to need
pub given_beyond : (tables : Tables) (cert : Certificate) (n : ℕ) (entry eid : Option ℕ) → length tables.plan.nodes.items ≤ n
    → AtNodeOrEid (NeedsWhatItIsGiven tables.plan cert n) (NeedsItsRank tables cert n) entry eid
given_beyond tables cert n entry eid past =
    at_node_or_eid (NeedsWhatItIsGiven tables.plan cert n) (NeedsItsRank tables cert n) entry eid (needs_given tables.plan cert n past) (λ e. needs_rank tables cert n e past)

-- where a call succeeds, what it answers is so too
pub if_ok : {A E : Type 0} (result : Result A E) (P Q : A → Type 0) → ((a : A) → P a → Q a) → IfOk result P → IfOk result Q
if_ok (Ok a) P Q follows holds = follows a holds
if_ok (Err error) P Q follows holds = tt
