use Rattle.std.proofs.Common.{◌≢◌, ℕ, List, ◌<◌, get_or, map, string_bytes}
use Rattle.verify_commands.proofs.names.is_among.Given as goal

abbrev pub invariant-loop-index : goal.invariant-loop-index
invariant-loop-index l = (k : ℕ) (d : List ℕ) → k < l.index → get_or (map string_bytes l.names) k d ≢ l.name
