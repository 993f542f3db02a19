use Rattle.std.proofs.Common.{◌≡◌, string_bytes, take}
use Rattle.net_reached.specs.Lines.{wish_lines}
use Rattle.net_reached.proofs.texts.wish_lines.Given as goal

abbrev pub invariant-loop-wish : goal.invariant-loop-wish
invariant-loop-wish l = string_bytes l.lines ≡ wish_lines l.plan (take l.wish-index l.wishes)
