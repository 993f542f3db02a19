-- The section to which reading has come, and what a block changes.
use Rattle.std.{specs.Prelude.{◌≡◌, ◌≤◌, ◌⊎◌, ℕ, true, false, List, [], ◌∷◌, ◌++◌, length, map, drop, None, Some}, specs.List.{AllZip}}
use Rattle.bus_captures.{specs.declared.section.Section.{Section}, specs.declared.interfaces.Described.{Described}, specs.Blocks.{Block, IsDescribed, is_section, is_interface, order_behind, described, described_before, last_section, IsPacketEntry}, specs.Interfaces.{InterfaceValue}, specs.InterfaceValues.{interface_value}, specs.Values.{EntryValue}}

-- the interfaces of the section
abbrev pub own_of : Section → List InterfaceValue
own_of s = drop s.before (map interface_value s.interfaces.items)

-- no block was read
pub record IsBefore (s : Section) : Type 0 where
  pub order : s.order ≡ None
  pub before : s.before ≡ 0
  pub none : s.interfaces.items ≡ []

-- these blocks were read
pub record IsBehind (s : Section) (blocks : List Block) : Type 0 where
  pub order : s.order ≡ order_behind blocks
  pub before : s.before ≡ described_before blocks
  pub many : length s.interfaces.items ≡ length (described blocks)
  pub own : AllZip IsDescribed (described (last_section blocks)) (own_of s)
  pub within : s.before ≤ length s.interfaces.items

-- a section begins
pub record Begins (old new : Section) (b : Block) : Type 0 where
  pub kind : is_section b ≡ true
  pub order : new.order ≡ Some b.order
  pub before : new.before ≡ length old.interfaces.items
  pub all : new.interfaces.items ≡ old.interfaces.items

-- an interface is described
pub record Describes (old new : Section) (b : Block) : Type 0 where
  pub kind : is_section b ≡ false
  pub interface : is_interface b ≡ true
  pub order : new.order ≡ old.order
  pub before : new.before ≡ old.before
  pub described : Described
  pub is : IsDescribed b (interface_value described)
  pub all : new.interfaces.items ≡ old.interfaces.items ++ described ∷ []

-- nothing changes
pub record Keeps (old new : Section) (b : Block) : Type 0 where
  pub kind : is_section b ≡ false
  pub interface : is_interface b ≡ false
  pub same : new ≡ old

-- what a block without a packet changes
abbrev pub Takes : Section → Section → Block → Type 0
Takes old new b = Begins old new b ⊎ (Describes old new b ⊎ Keeps old new b)

-- the packet of a block in the section is this entry
abbrev pub IsEntryIn : Section → Block → EntryValue → Type 0
IsEntryIn s b e = IsPacketEntry s.before (own_of s) b e
