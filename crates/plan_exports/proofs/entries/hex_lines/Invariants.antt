use Rattle.std.{proofs.Common.{◌≡◌, map, string_bytes, take}, specs.List.{flat_map}}
use Rattle.plan_exports.specs.TableAnswers.{hex_line}
use Rattle.plan_exports.proofs.entries.hex_lines.Given as goal

abbrev pub invariant-loop-message : goal.invariant-loop-message
invariant-loop-message l = string_bytes l.text ≡ flat_map hex_line (map (λ m. m.items) (take l.message-index l.messages))
