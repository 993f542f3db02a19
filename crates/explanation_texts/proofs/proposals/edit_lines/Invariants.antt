use Rattle.std.{proofs.Common.{◌≡◌, string_bytes, take}, specs.List.{flat_map}}
use Rattle.explanation_texts.specs.EditLines.{tried_text}
use Rattle.explanation_texts.proofs.proposals.edit_lines.Given as goal

abbrev pub invariant-loop-tried : goal.invariant-loop-tried
invariant-loop-tried l = string_bytes l.lines ≡ flat_map (tried_text l.plan) (take l.tried-index l.edits)
