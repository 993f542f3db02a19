use Rattle.std.{proofs.Common.{◌≡◌, map, string_bytes, take}, specs.List.{flat_map}}
use Rattle.net_plan.specs.Finding.{step_value}
use Rattle.reading_texts.specs.ReadingLines.{step_text}
use Rattle.reading_texts.proofs.positions.steps_text.Given as goal

abbrev pub invariant-loop-step : goal.invariant-loop-step
invariant-loop-step l = string_bytes l.words ≡ flat_map step_text (map step_value (take l.step-index l.pointer))
