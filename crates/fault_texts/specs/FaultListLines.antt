-- The lines of all faults, a line for each.
use Rattle.std.{specs.Prelude.{◌≡◌, ℕ, ◌-◌, List, [], ◌∷◌, ◌++◌, length, codes, Option, Some, None, option_map, nat_eq, if◌then◌else◌}, specs.Fmt.{decimal}}
use Rattle.net_rules.{specs.declared.certify_error.CertifyError.{CertifyError}, specs.declared.fault_run.EidSpan.{EidSpan}, specs.declared.fault_run.FaultRun.{FaultRun}, specs.Rules.{code_of}}
use Rattle.net_faults.{specs.declared.plan_fault.PlanFault.{PlanFault}, specs.declared.plan_fault.PlanFault.TheVariants.{Broken, Obstacle}}
use Rattle.plan_values.specs.declared.plan.Plan.{Plan}
use Rattle.net_tables.specs.Names.{node_name}
use Rattle.plan_texts.specs.Lines.{number_or_dash, obstacle_words}
use Rattle.fault_texts.specs.Places.{IsAtTold, plan_fault_pointer}

-- two endpoint IDs and what lies between them, or the one that both are
abbrev pub span_text : ℕ → ℕ → List ℕ
span_text first last =
    if nat_eq first last then decimal first else (decimal first ++ (codes " to " ++ decimal last))

-- the endpoint IDs of a run, or a dash
abbrev pub eids_text : Option EidSpan → List ℕ
eids_text None = codes "-"
eids_text (Some eids) = span_text eids.first.value eids.last.value

-- the rule's code, the node's name, the entry and the endpoint IDs
abbrev pub run_words : Plan → FaultRun → List ℕ
run_words plan run = codes "fault " ++ (code_of run.rule ++ (codes " node " ++ (node_name plan run.node
    ++ (codes " entry " ++ (number_or_dash run.entry ++ (codes " eid " ++ eids_text run.eids))))))

-- how many more endpoint IDs go round a loop; nothing where none do
abbrev pub more_eids_text : ℕ → List ℕ
more_eids_text count = if nat_eq count 0 then [] else if nat_eq count 1 then codes " and 1 more endpoint ID"
    else (codes " and " ++ (decimal count ++ codes " more endpoint IDs"))

-- the words of `certify`, and how many more endpoint IDs go round
abbrev pub words_with_more : Plan → CertifyError → ℕ → Option (List ℕ)
words_with_more plan obstacle more = option_map (λ words. words ++ more_eids_text more) (obstacle_words plan obstacle)

-- the words of a fault: those of a run, or those of a loop or a chain
abbrev pub plan_fault_words : Plan → PlanFault → Option (List ℕ)
plan_fault_words plan (Broken run) = Some (run_words plan run)
plan_fault_words plan (Obstacle obstacle more) = words_with_more plan obstacle more

-- the line of a fault of the plan that stands in the text of this name: its words, and its place
abbrev pub IsFaultLine : Plan → List ℕ → List ℕ → PlanFault → List ℕ → Type 0
IsFaultLine plan name text fault line = (words : List ℕ) × (at : List ℕ) × (plan_fault_words plan fault ≡ Some words)
    × IsAtTold name text (plan_fault_pointer plan fault) at × (line ≡ words ++ (at ++ codes "\n"))

-- A line for each fault, in their order.
pub data AreFaultLines (plan : Plan) (name text : List ℕ) : List PlanFault → List ℕ → Type 0 where
  none : AreFaultLines plan name text [] []
  more : {faults : List PlanFault} {lines : List ℕ} (fault : PlanFault) (line : List ℕ)
      → AreFaultLines plan name text faults lines → IsFaultLine plan name text fault line
      → AreFaultLines plan name text (faults ++ fault ∷ []) (lines ++ line)

-- how many lines there are
abbrev pub count_text : ℕ → List ℕ
count_text count = codes "faults " ++ (decimal count ++ codes "\n")

-- a line for each fault, in their order, and how many they are
abbrev pub IsFaultsText : Plan → List ℕ → List ℕ → List PlanFault → List ℕ → Type 0
IsFaultsText plan name text faults lines = (listed : List ℕ) × AreFaultLines plan name text faults listed
    × (lines ≡ listed ++ count_text (length faults))

-- what is said of a plan whose certificate is at fault: that another fits it
abbrev pub remedy_text : List ℕ
remedy_text = codes "This plan has a certificate.\nHint: take the one that mctpplan certify makes.\n"

-- or that none does
abbrev pub no_certificate_text : List ℕ
no_certificate_text = codes "This plan has no certificate, whatever this one says. mctpplan certify says:\n"

-- how many more faults there are than one, and what lists them; nothing where there are none
abbrev pub more_text : List ℕ → ℕ → List ℕ
more_text words count = if nat_eq (count - 1) 0 then []
    else (codes "And " ++ (decimal (count - 1) ++ (codes " more: mctpplan faults " ++ (words ++ codes "\n"))))
