-- The lines that tell what comes of events.
use Rattle.std.{specs.Prelude.{ℕ, ◌+◌, List, [], ◌∷◌, ◌++◌, Bool, true, false, Option, Some, None, unwrap_or, Result, Ok, Err, codes}, specs.Fmt.{decimal}}
use Rattle.hex.specs.Hex.{encode_lower}
use Rattle.mctp_transport.{specs.Causes.{cause_code}, specs.Hearing.{Answer, Whole, Held, Dropped}}
use Rattle.mctp_routing.specs.Decisions.{forward_fault_code}
use Rattle.pdr_repository.{specs.declared.walk_fault.Step.{Step as WalkStep}, specs.declared.walk_fault.Step.TheVariants.{More, Record, Done}, specs.declared.walk_fault.WalkFault.{WalkFault}, specs.Faults.{code_of}}
use Rattle.plan_values.specs.declared.plan.Plan.{Plan}
use Rattle.net_runs.{specs.Events.{OutcomeValue, PutIn, Moved, Entered, Stopped, Lost, Expired, Answered, Silent, Switched, Refused, Refusal, N01, N02, N03, N04, N05, N06, N07}, specs.Walkers.{WalkedOutcome, Happened, Begun, Asked, ToldWalk, WalkRefused, WalkRefusal, Also, N08, N09, N10, N11, N12, N13, Handed, Standing, Open, Finished, EndedBy}}
use Rattle.net_tables.specs.Names.{node_name}

-- the code of a cause for which an event is refused
abbrev pub refusal_text : Refusal → List ℕ
refusal_text N01 = codes "N01"
refusal_text N02 = codes "N02"
refusal_text N03 = codes "N03"
refusal_text N04 = codes "N04"
refusal_text N05 = codes "N05"
refusal_text N06 = codes "N06"
refusal_text N07 = codes "N07"

-- whether a message of the key was open
abbrev pub open_text : Bool → List ℕ
open_text true = codes "open"
open_text false = codes "none"

-- a message that came whole at the node of a name, its bytes in hex
abbrev pub whole_text : ℕ → List ℕ → List ℕ → List ℕ
whole_text number name hex = codes "whole " ++ (decimal number ++ (codes " at " ++ (name ++ (codes " bytes " ++ hex))))

-- what the assembler of a node answered to the packet of a flight that ended there
abbrev pub entered_text : Plan → ℕ → ℕ → Answer → List ℕ
entered_text plan number node (Whole bytes) = whole_text number (node_name plan node) (encode_lower bytes)
entered_text plan number node Held = codes "held " ++ decimal number
entered_text plan number node (Dropped why) = codes "dropped " ++ (decimal number ++ (codes " " ++ cause_code why))

-- what an event does to the packets
abbrev pub effect_text : Plan → OutcomeValue → List ℕ
effect_text plan (PutIn number node) = codes "put " ++ (decimal number ++ (codes " at " ++ node_name plan node))
effect_text plan (Moved number node hops) =
    codes "moved " ++ (decimal number ++ (codes " to " ++ (node_name plan node ++ (codes " hops " ++ decimal hops))))
effect_text plan (Entered number node key answer) = entered_text plan number node answer
effect_text plan (Stopped number why) = codes "dropped " ++ (decimal number ++ (codes " " ++ forward_fault_code why))
effect_text plan (Lost number) = codes "lost " ++ decimal number
effect_text plan (Expired node was_open) =
    codes "expired " ++ (node_name plan node ++ (codes " " ++ open_text was_open))
effect_text plan (Answered node first last) =
    codes "answered " ++ (node_name plan node ++ (codes " flights " ++ (decimal first
    ++ (codes " to " ++ decimal last))))
effect_text plan (Silent node) = codes "silent " ++ node_name plan node
effect_text plan (Switched node) = codes "switched " ++ node_name plan node
effect_text plan (Refused why) = codes "refused " ++ refusal_text why

-- the code of a cause for which an event of a walk is refused
abbrev pub walk_refusal_text : WalkRefusal → List ℕ
walk_refusal_text (Also why) = refusal_text why
walk_refusal_text N08 = codes "N08"
walk_refusal_text N09 = codes "N09"
walk_refusal_text N10 = codes "N10"
walk_refusal_text N11 = codes "N11"
walk_refusal_text N12 = codes "N12"
walk_refusal_text N13 = codes "N13"

-- the code of a fault of a walk; want of memory, by which no walk ends, has a dash
abbrev pub walk_fault_text : WalkFault → List ℕ
walk_fault_text fault = unwrap_or (code_of fault) (codes "-")

-- what an answer led to, or the fault for which it was not taken
abbrev pub step_text : Result WalkStep WalkFault → List ℕ
step_text (Ok More) = codes "more"
step_text (Ok Record) = codes "record"
step_text (Ok Done) = codes "done"
step_text (Err fault) = walk_fault_text fault

-- the end of a line: the walker that was handed the message, and what it made of it
abbrev pub handed_text : Option Handed → List ℕ
handed_text None = []
handed_text (Some handed) = codes " walker " ++ (decimal handed.number ++ (codes " " ++ step_text handed.result))

-- whether a walk goes on, is done, or was ended by a fault
abbrev pub standing_text : Standing → List ℕ
standing_text Open = codes "open"
standing_text Finished = codes "done"
standing_text (EndedBy fault) = walk_fault_text fault

-- what comes of an event
abbrev pub outcome_text : Plan → WalkedOutcome → List ℕ
outcome_text plan (Happened effect handed) = effect_text plan effect ++ handed_text handed
outcome_text plan (Begun walker) = codes "walker " ++ decimal walker
outcome_text plan (Asked walker flight) = codes "asked " ++ (decimal walker ++ (codes " flight " ++ decimal flight))
outcome_text plan (ToldWalk walker records standing) =
    codes "collected " ++ (decimal walker ++ (codes " records " ++ (decimal records
    ++ (codes " " ++ standing_text standing))))
outcome_text plan (WalkRefused why) = codes "refused " ++ walk_refusal_text why

-- the line of what comes of the event of a number
abbrev pub outcome_line : Plan → ℕ → WalkedOutcome → List ℕ
outcome_line plan number outcome = decimal number ++ (codes " " ++ (outcome_text plan outcome ++ codes "\n"))

-- the lines of outcomes, numbered from one number on
abbrev pub lines_from : Plan → ℕ → List WalkedOutcome → List ℕ
lines_from plan number [] = []
lines_from plan number (outcome ∷ outcomes) = outcome_line plan number outcome ++ lines_from plan (number + 1) outcomes

-- the lines of outcomes, numbered from 1
abbrev pub outcome_lines : Plan → List WalkedOutcome → List ℕ
outcome_lines plan outcomes = lines_from plan 1 outcomes
