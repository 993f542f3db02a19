use Rattle.std.{proofs.Common.{◌≡◌, string_bytes}, specs.List.{flat_map, range_with_len}}
use Rattle.plan_exports.specs.LinuxScripts.{neighbor_line}
use Rattle.plan_exports.proofs.linux.address_lines.Given as goal

abbrev pub invariant-loop-place : goal.invariant-loop-place
invariant-loop-place l = string_bytes l.text ≡ flat_map (neighbor_line l.front l.device l.address l.name) (range_with_len l.first.value l.place)
