use Rattle.std.{proofs.Common.{take}, specs.Str.Lines.{lines}}
use Rattle.net_reached.specs.Reading.{SayEach}
use Rattle.net_reached.proofs.reading.wishes_of_text.Given as goal

abbrev pub invariant-loop-index : goal.invariant-loop-index
invariant-loop-index l = SayEach l.plan (take l.index (lines l.text)) l.wishes.items
