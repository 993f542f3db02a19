-- Bytes in hex.
use Rattle.std.{specs.Prelude.{ℕ, List, [], ◌∷◌, ◌++◌}, specs.List.{flat_map}}
use Rattle.hex.specs.Hex.{encode_lower}
pub use Rattle.net_tables.specs.Names.{bus_name, node_name}

-- the bytes in hex, two digits each, with this text before each but the first
abbrev pub hex_list : List ℕ → List ℕ → List ℕ
hex_list between [] = []
hex_list between (byte ∷ bytes) =
    encode_lower (byte ∷ []) ++ flat_map (λ later. between ++ encode_lower (later ∷ [])) bytes
