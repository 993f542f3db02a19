-- Who owns whom on a board, and what the nodes take of a pool.
use Rattle.std.specs.Prelude.{◌≡◌, ◌⊎◌, ℕ, zero, suc, ◌+◌, ◌<◌, ◌≤◌, List, codes, length, sum, slice_get, Bool, true, Option, Some, None, option_and_then}
use Rattle.toml.specs.Data.{Data, get}
use Rattle.board_values.{specs.Said.{SaysText, SaysNumber, item_at}, specs.Eids.{SaysRun}}

-- what stands at a key of the node at an index
abbrev pub at_node : List ℕ → ℕ → Data → Option Data
at_node key n board = option_and_then (get key) (item_at (codes "node") n board)

-- n has the name
abbrev pub IsNamed : Data → ℕ → List ℕ → Type 0
IsNamed board n name = SaysText (at_node (codes "name") n board) name

-- n names m as its owner
abbrev pub Owns : Data → ℕ → ℕ → Type 0
Owns board m n = (name : List ℕ) × IsNamed board m name × SaysText (at_node (codes "owner") n board) name

-- m stands so many owners above n
abbrev pub IsOwnerAbove : Data → ℕ → ℕ → ℕ → Type 0
IsOwnerAbove board zero n m = n ≡ m
IsOwnerAbove board (suc k) n m = (o : ℕ) × Owns board o n × IsOwnerAbove board k o m

-- above n there is an owner however far one goes
abbrev pub HasOwnersWithoutEnd : Data → ℕ → Type 0
HasOwnersWithoutEnd board n = (k : ℕ) → (m : ℕ) × IsOwnerAbove board k n m

-- n is a node, at whose key nothing stands
abbrev pub LeavesOut : List ℕ → Data → ℕ → Type 0
LeavesOut key board n = (d : Data) × (item_at (codes "node") n board ≡ Some d) × (get key d ≡ None)

-- n has this owner; where it is none, nobody owns n
abbrev pub IsOf : Data → Option ℕ → ℕ → Type 0
IsOf board (Some m) n = Owns board m n
IsOf board None n = LeavesOut (codes "owner") board n

-- what stands there is a pool of so many endpoint IDs, by its ends or by its size
abbrev pub IsPoolOf : Option Data → ℕ → Type 0
IsPoolOf said size = SaysNumber said size ⊎ ((first : ℕ) × SaysRun said first size)

-- n has this owner, of whose endpoint IDs it takes so many: one, and those of its pool
abbrev pub TakesAs : Data → Option ℕ → ℕ → ℕ → Type 0
TakesAs board owner n taken = IsOf board owner n × ((taken ≡ 1)
    ⊎ ((size : ℕ) × IsPoolOf (at_node (codes "pool") n board) size × (taken ≡ size + 1)))

-- n takes no fewer endpoint IDs of this owner
abbrev pub Takes : Data → Option ℕ → ℕ → ℕ → Type 0
Takes board owner n taken = (taken ≡ 0) ⊎ TakesAs board owner n taken

-- each node takes no fewer than the list says
abbrev pub AreTaken : Data → Option ℕ → List ℕ → Type 0
AreTaken board owner shares = (n taken : ℕ) → slice_get shares n ≡ Some taken → Takes board owner n taken

-- the owner's pool has so many endpoint IDs; 8 to 254 where it is none
abbrev pub HasInPool : Data → Option ℕ → ℕ → Type 0
HasInPool board (Some m) size = IsPoolOf (at_node (codes "pool") m board) size
HasInPool board None size = size ≡ 247

-- the nodes of the owner take more endpoint IDs, with their pools, than its pool has
pub record IsOverdrawn (board : Data) (owner : Option ℕ) : Type 0 where
  pub shares : List ℕ
  pub taken : AreTaken board owner shares
  pub size : ℕ
  pub has : HasInPool board owner size
  pub more : size < sum shares

-- ---- searching

-- the flags have the owner of n, if they have n
abbrev pub IsOwnerFlagged : Data → List Bool → ℕ → Type 0
IsOwnerFlagged board flags n =
    slice_get flags n ≡ Some true → (m : ℕ) × Owns board m n × (slice_get flags m ≡ Some true)

-- so it is of each node
abbrev pub AreOwnersFlagged : Data → List Bool → Type 0
AreOwnersFlagged board flags = (n : ℕ) → IsOwnerFlagged board flags n

-- what the nodes take of this owner, so many of them one by one, is no less than that in all
pub record HaveTaken (board : Data) (owner : Option ℕ) (count total : ℕ) : Type 0 where
  pub shares : List ℕ
  pub counted : length shares ≡ count
  pub taken : AreTaken board owner shares
  pub most : total ≤ sum shares
