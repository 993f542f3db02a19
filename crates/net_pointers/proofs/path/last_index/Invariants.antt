-- The last stands in what is left, or where it was seen.
use Rattle.std.{proofs.Common.{◌≡◌, ◌+◌, drop, option_map}, specs.Option.{option_or}}
use Rattle.json.specs.Value.{members_view}
use Rattle.net_pointers.specs.Paths.{last_index}
use Rattle.net_pointers.proofs.path.last_index.Given as goal

abbrev pub invariant-loop-index : goal.invariant-loop-index
invariant-loop-index l = option_or (option_map (λ n. n + l.index) (last_index l.key (members_view (drop l.index l.members)))) l.last
    ≡ last_index l.key (members_view l.members)
