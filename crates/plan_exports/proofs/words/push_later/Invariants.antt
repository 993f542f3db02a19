use Rattle.std.{proofs.Common.{◌≡◌, ◌++◌, ◌∷◌, [], string_bytes, take}, specs.List.{flat_map}}
use Rattle.hex.specs.Hex.{encode_lower}
use Rattle.plan_exports.proofs.words.push_later.Given as goal

abbrev pub invariant-loop-byte : goal.invariant-loop-byte
invariant-loop-byte l =
    string_bytes l.text ≡ string_bytes l.fn.text ++ flat_map (λ byte. l.between ++ encode_lower (byte ∷ [])) (take l.byte-index l.bytes)
