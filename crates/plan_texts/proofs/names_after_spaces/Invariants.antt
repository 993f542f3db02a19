use Rattle.std.proofs.Common.{◌≡◌, string_bytes, take}
use Rattle.plan_texts.specs.Lines.{names_text}
use Rattle.plan_texts.proofs.names_after_spaces.Given as goal

abbrev pub invariant-loop-node : goal.invariant-loop-node
invariant-loop-node l = string_bytes l.names ≡ names_text l.plan (take l.node-index l.nodes)
