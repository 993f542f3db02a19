use Rattle.std.{proofs.Common.{map, take}, specs.Prelude.{string_bytes, option_map}}
use Rattle.bus_captures.specs.Values.{entry_value}
use Rattle.decoded_texts.proofs.SeenLaws.{HasTold}
use Rattle.decoded_texts.proofs.decoding.lines_by.Given as goal

abbrev pub invariant-loop-i : goal.invariant-loop-i
invariant-loop-i l = HasTold (option_map (λ n. n.now.plan.now) l.names) (map entry_value (take l.i l.capture.entries.items)) l.stations (string_bytes l.text)
