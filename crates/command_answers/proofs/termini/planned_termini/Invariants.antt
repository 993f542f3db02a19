use Rattle.std.{proofs.Common.{◌≡◌, map}, specs.List.{filter_map, range_with_len}}
use Rattle.pdr_repository.specs.BlockTermini.{block_tid, block_records}
use Rattle.net_runs.specs.Termini.{terminus_at_start}
use Rattle.net_sim.specs.Dealing.{resting}
use Rattle.command_answers.proofs.termini.planned_termini.Given as goal

abbrev pub invariant-loop-node : goal.invariant-loop-node
invariant-loop-node l =
    map (resting block_tid block_records) l.termini.items ≡ filter_map (terminus_at_start l.plan l.certificate) (range_with_len 0 l.node)
