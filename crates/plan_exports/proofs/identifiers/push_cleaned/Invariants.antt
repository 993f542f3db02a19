use Rattle.std.{proofs.Common.{◌≡◌, ◌++◌, ◌∷◌, [], string_bytes, take}, specs.List.{flat_map}}
use Rattle.plan_exports.specs.CSources.{cleaned}
use Rattle.plan_exports.proofs.identifiers.push_cleaned.Given as goal

abbrev pub invariant-loop-byte : goal.invariant-loop-byte
invariant-loop-byte l = string_bytes l.text ≡ string_bytes l.fn.text ++ flat_map (λ b. cleaned b ∷ []) (take l.byte-index l.name)
