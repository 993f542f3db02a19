use Rattle.std.{proofs.Common.{◌≡◌, map, string_bytes}, specs.List.{flat_map, range_with_len}}
use Rattle.plan_exports.specs.MctpdScripts.{child_line}
use Rattle.plan_exports.proofs.mctpd.children_lines.Given as goal

abbrev pub invariant-loop-child : goal.invariant-loop-child
invariant-loop-child l = string_bytes l.text ≡ flat_map (child_line l.plan l.node (map (λ d. d.now) l.devices)) (range_with_len 0 l.child)
