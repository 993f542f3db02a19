-- What is left to pass leads from here as it led from the start.
use Rattle.std.proofs.Common.{◌≡◌, ◌-◌, ◌≤◌, List, Some, drop, map}
use Rattle.json.{specs.Tape.{node_token}, specs.Token.{Token}}
use Rattle.net_pointers.specs.PartTokens.{past_items}
use Rattle.net_pointers.proofs.tape.after_items.Given as goal

abbrev pub invariant-loop : goal.invariant-loop
invariant-loop l = (l.counter ≤ l.count) × ((ts : List Token) → past_items l.count (drop l.start (map node_token l.nodes)) ≡ Some ts
    → past_items (l.count - l.counter) (drop l.at (map node_token l.nodes)) ≡ Some ts)
