-- How termini are dealt to the nodes of a plan.
use Rattle.std.{specs.Prelude.{ℕ, List, [], ◌∷◌, length, Option, Some, None, false}, specs.List.{filter_map, range_with_len}}
use Rattle.plan_values.{specs.declared.plan.Plan.{Plan}, specs.declared.certificate.Certificate.{Certificate}, specs.declared.nodes.Node.{Node}, specs.declared.terminus.PlannedTerminus.{PlannedTerminus}}
use Rattle.pdr_repository.specs.Records.{Entry}
use Rattle.net_runs.{specs.Termini.{TerminusState, terminus_at_start}, specs.States.{NetworkState}}
use Rattle.net_sim.specs.Standing.{at_place}

-- a terminus at which nothing waits
abbrev pub resting : {T : Type 0} → (T → ℕ) → (T → List Entry) → T → TerminusState
resting tid records t = record { tid = tid t; records = records t; waiting = [] }

-- one to each node that has a terminus, in the order of the nodes
abbrev pub dealt_to : Option PlannedTerminus → List TerminusState → Option TerminusState
dealt_to None termini = None
dealt_to (Some t) [] = None
dealt_to (Some t) (first ∷ rest) = Some first

abbrev pub left_by : Option PlannedTerminus → List TerminusState → List TerminusState
left_by None termini = termini
left_by (Some t) [] = []
left_by (Some t) (first ∷ rest) = rest

abbrev pub dealt : List Node → List TerminusState → List (Option TerminusState)
dealt [] termini = []
dealt (node ∷ nodes) termini = dealt_to node.terminus termini ∷ dealt nodes (left_by node.terminus termini)

-- the state in which nothing has happened, with these termini, one to each node of the plan that has one
abbrev pub at_rest : Plan → List TerminusState → NetworkState
at_rest plan termini = record {
  flight = λ _. None;
  made = 0;
  history = λ _. [];
  terminus = at_place (dealt plan.nodes.items termini);
  switched = λ _. false;
}

-- the termini of a plan, in the order of its nodes, as they are planned
abbrev pub planned_termini : Plan → Certificate → List TerminusState
planned_termini plan cert = filter_map (terminus_at_start plan cert) (range_with_len 0 (length plan.nodes.items))
