use Rattle.std.proofs.Common.{string_bytes}
use Rattle.explain_commands.specs.MoveRows.{AreHopsTold, file_of}
use Rattle.explain_commands.proofs.explain.moved.rows.hops_text.Given as goal

abbrev pub invariant-loop-hop : goal.invariant-loop-hop
invariant-loop-hop l = AreHopsTold (file_of l.name l.before) (file_of l.new_name l.after) l.eid.value l.nodes l.sides l.hop (string_bytes l.text)
