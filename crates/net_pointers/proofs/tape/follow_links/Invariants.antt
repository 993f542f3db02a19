-- The rest of the path leads from here as the whole leads from the start.
use Rattle.std.proofs.Common.{◌≡◌, List, Some, drop, map}
use Rattle.json.{specs.Tape.{node_token}, specs.Token.{Token}}
use Rattle.net_pointers.specs.PartTokens.{from_path}
use Rattle.net_pointers.proofs.tape.follow_links.Given as goal

abbrev pub invariant-loop-index : goal.invariant-loop-index
invariant-loop-index l = (ts : List Token) → from_path l.path (map node_token l.nodes) ≡ Some ts
    → from_path (drop l.index-index l.path) (drop l.at (map node_token l.nodes)) ≡ Some ts
