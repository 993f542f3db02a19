-- The keys of a board's tables.
use Rattle.std.specs.Prelude.{◌≡◌, ◌⊎◌, ℕ, List, codes}
use Rattle.board_kept.{specs.declared.keys.Level.{Level}, specs.declared.keys.Level.TheVariants.{Top, OfBus, OfNode, OfHex, OfFile}}

-- at the top
abbrev pub IsBoardKey : List ℕ → Type 0
IsBoardKey key = (key ≡ codes "unit") ⊎ (key ≡ codes "bus") ⊎ (key ≡ codes "node")

-- of a bus
abbrev pub IsBusKey : List ℕ → Type 0
IsBusKey key = (key ≡ codes "name") ⊎ (key ≡ codes "binding") ⊎ (key ≡ codes "media") ⊎ (key ≡ codes "addresses")

-- what a node is
abbrev pub IsHeadKey : List ℕ → Type 0
IsHeadKey key = (key ≡ codes "name") ⊎ (key ≡ codes "kind") ⊎ (key ≡ codes "eid") ⊎ (key ≡ codes "owner")
    ⊎ (key ≡ codes "pool")

-- what a node has
abbrev pub IsPartKey : List ℕ → Type 0
IsPartKey key = (key ≡ codes "ports") ⊎ (key ≡ codes "reaches") ⊎ (key ≡ codes "rows") ⊎ (key ≡ codes "tid")
    ⊎ (key ≡ codes "record")

-- of a node
abbrev pub IsNodeKey : List ℕ → Type 0
IsNodeKey key = IsHeadKey key ⊎ IsPartKey key

-- of a record in hex
abbrev pub IsHexKey : List ℕ → Type 0
IsHexKey key = (key ≡ codes "handle") ⊎ (key ≡ codes "next") ⊎ (key ≡ codes "hex")

-- of a record in a file
abbrev pub IsFileKey : List ℕ → Type 0
IsFileKey key = (key ≡ codes "handle") ⊎ (key ≡ codes "next") ⊎ (key ≡ codes "file")

-- of a table of the level
abbrev pub IsKeyOf : Level → List ℕ → Type 0
IsKeyOf Top key = IsBoardKey key
IsKeyOf OfBus key = IsBusKey key
IsKeyOf OfNode key = IsNodeKey key
IsKeyOf OfHex key = IsHexKey key
IsKeyOf OfFile key = IsFileKey key
