-- Which rules are asked of a plan, and what they demand of it where they are.
use Rattle.std.specs.Prelude.{ℕ, Bool, true, false, Option}
use Rattle.net_rules.{specs.declared.rule.Rule.{Rule}, specs.declared.rule.Rule.TheVariants.{C04, C05, C06, C10, C11, C16}, specs.declared.asked.Asked.{Asked}, specs.declared.asked.Asked.TheVariants.{Alone, Before, After}, specs.Rules.{Demands}, specs.MoveRules.{DemandsBefore, DemandsAfter}}
use Rattle.plan_values.{specs.declared.plan.Plan.{Plan}, specs.declared.certificate.Certificate.{Certificate}}

-- all rules; all but the last; the rules that speak of rows
abbrev pub is_asked : Asked → Rule → Bool
is_asked Alone rule = true
is_asked Before C16 = false
is_asked Before rule = true
is_asked After C04 = true
is_asked After C05 = true
is_asked After C06 = true
is_asked After C10 = true
is_asked After C11 = true
is_asked After rule = false

-- what a rule demands of the plan
abbrev pub DemandsAsked : Asked → Plan → Certificate → Rule → ℕ → Option ℕ → Option ℕ → Type 0
DemandsAsked Alone plan cert rule n entry eid = Demands plan cert rule n entry eid
DemandsAsked Before plan cert rule n entry eid = DemandsBefore plan cert rule n entry eid
DemandsAsked After plan cert rule n entry eid = DemandsAfter plan cert rule n entry eid
