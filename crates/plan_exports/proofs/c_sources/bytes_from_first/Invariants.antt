use Rattle.std.proofs.Common.{◌≡◌, ◌++◌, drop, string_bytes}
use Rattle.plan_exports.specs.CSources.{bytes_from}
use Rattle.plan_exports.proofs.c_sources.bytes_from_first.Given as goal

-- with the bytes that are left, they are all
abbrev pub invariant-loop-index : goal.invariant-loop-index
invariant-loop-index l = string_bytes l.text ++ bytes_from l.index (drop l.index l.bytes) ≡ bytes_from 0 l.bytes
