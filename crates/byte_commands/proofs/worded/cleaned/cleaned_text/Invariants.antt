use Rattle.std.{proofs.Common.{◌≡◌, map, take, string_bytes}, specs.List.{flat_map}}
use Rattle.byte_commands.specs.Worded.{cleaned}
use Rattle.byte_commands.proofs.worded.cleaned.cleaned_text.Given as goal

abbrev pub invariant-loop-word : goal.invariant-loop-word
invariant-loop-word l = l.text.items ≡ flat_map cleaned (map string_bytes (take l.word-index l.words))
