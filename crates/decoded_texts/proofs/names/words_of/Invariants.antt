use Rattle.std.{proofs.Common.{◌≡◌, take}, specs.Prelude.{string_bytes}, specs.List.{flat_map}}
use Rattle.decoded_texts.specs.Names.{holder_words}
use Rattle.decoded_texts.proofs.names.words_of.Given as goal

abbrev pub invariant-loop-node : goal.invariant-loop-node
invariant-loop-node l = string_bytes l.text ≡ flat_map (holder_words l.words l.eid) (take l.node-index l.plan.nodes.items)
