use Rattle.std.{proofs.Common.{◌≡◌, option_map}, specs.List.{filter_map, range_with_len}}
use Rattle.pdr_repository.specs.Records.{entries}
use Rattle.net_tables.specs.Repositories.{entry_of, record_at, places_of}
use Rattle.command_answers.proofs.repositories.records_by_place.Given as goal

abbrev pub invariant-loop-place : goal.invariant-loop-place
invariant-loop-place l =
    entries l.ordered.items ≡ filter_map (λ k. option_map entry_of (record_at l.listed (places_of l.certificate l.node) k)) (range_with_len 0 l.place)
