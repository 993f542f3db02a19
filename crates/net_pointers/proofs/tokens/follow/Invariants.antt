-- What is left decides.
use Rattle.std.proofs.Common.{◌≡◌, drop}
use Rattle.net_pointers.specs.PartTokens.{from_path}
use Rattle.net_pointers.proofs.tokens.follow.Given as goal

abbrev pub invariant-loop-index : goal.invariant-loop-index
invariant-loop-index l = from_path (drop l.index-index l.path) l.reader ≡ from_path l.path l.fn.reader
