-- The lines of ways.
use Rattle.std.{specs.Prelude.{◌+◌, ℕ, List, [], ◌∷◌, ◌++◌, length, Option, option_map, slice_get, codes}, specs.Fmt.{decimal}}
use Rattle.mctp_routing.specs.Decisions.{forward_fault_code}
use Rattle.net_tables.{specs.Names.{address_on, node_name}, specs.Routing.{ports_of}}
use Rattle.plan_values.{specs.declared.nodes.Port.{Port}, specs.declared.plan.Plan.{Plan}}
use Rattle.net_questions.{specs.declared.step.WayStep.{WayStep}, specs.declared.way.End.{End}, specs.declared.way.End.TheVariants.{Arrives, Stops}}
use Rattle.plan_texts.specs.LineParts.{address_text, bus_text}

-- the bus of the port by which a step leaves
abbrev pub bus_of_step : Plan → WayStep → Option ℕ
bus_of_step plan step =
    option_map (λ (port : Port). port.bus) (slice_get (ports_of plan step.node) step.hop.port)

-- a hop's number, its node and port, the bus, the address of the next node there, and that node
abbrev pub hop_text : ℕ → List ℕ → ℕ → (bus address next : List ℕ) → List ℕ
hop_text number node port bus address next = decimal number ++ (codes " " ++ (node ++ (codes " port " ++ (decimal port
    ++ (codes " bus " ++ (bus ++ (codes " address " ++ (address ++ (codes " to " ++ (next ++ codes "\n"))))))))))

-- the line of the step of a number
abbrev pub step_line : Plan → ℕ → WayStep → List ℕ
step_line plan number step = hop_text number (node_name plan step.node) step.hop.port
    (bus_text plan (bus_of_step plan step)) (address_text (address_on plan step.hop.next (bus_of_step plan step)))
    (node_name plan step.hop.next)

-- the lines of steps, numbered from one number on
abbrev pub steps_from : Plan → ℕ → List WayStep → List ℕ
steps_from plan number [] = []
steps_from plan number (step ∷ steps) = step_line plan number step ++ steps_from plan (number + 1) steps

-- how many hops a packet makes that arrives, or where it stops and why
abbrev pub end_line : Plan → ℕ → ℕ → End → List ℕ
end_line plan hops last Arrives = codes "hops " ++ (decimal hops ++ codes "\n")
end_line plan hops last (Stops why) =
    codes "stops at " ++ (node_name plan last ++ (codes " " ++ (forward_fault_code why ++ codes "\n")))

-- a line for each step, numbered from 1, and one that says how the way ends
abbrev pub trace_text : Plan → List WayStep → ℕ → End → List ℕ
trace_text plan steps last end = steps_from plan 1 steps ++ end_line plan (length steps) last end
