use Rattle.std.proofs.Common.{◌≡◌, map, take}
use Rattle.net_sim.{specs.Networks.{network_value, checked_of}, specs.Outcomes.{event_value}}
use Rattle.net_tables.specs.TwoPlans.{one_plan}
use Rattle.net_runs.specs.Walkers.{walked_at_start}
use Rattle.pdr_repository.specs.BlockTermini.{block_tid, block_records}
use Rattle.bus_commands.proofs.HopLaws.{HasCaptured}
use Rattle.bus_commands.proofs.capture.captured.Given as goal

abbrev pub invariant-loop-index : goal.invariant-loop-index
invariant-loop-index l = (checked_of l.network ≡ (one_plan l.fn.checked.0, l.fn.checked.1))
    × HasCaptured l.fn.checked.0 (walked_at_start l.fn.checked.0 l.fn.checked.1) (take l.index (map event_value l.events)) l.file.items (network_value block_tid block_records l.network)
