-- What a board lacks, so that no plan is made of it.
use Rattle.std.specs.Prelude.{◌≡◌, ◌⊎◌, ℕ, codes, Option, None}
use Rattle.toml.specs.Data.{Data}
use Rattle.board.{specs.declared.making.NoPlan.{NoPlan}, specs.declared.making.NoPlan.TheVariants.{OwnerLoop, NoPool, NoEid, NoRun, TooManyRows, WrongRecord, OutOfMemory}}
use Rattle.board_values.{specs.Said.{SaysNumber}, specs.Owners.{at_node, Owns, HasOwnersWithoutEnd, LeavesOut, IsOf, IsOverdrawn}}

-- n's endpoint ID or its pool are left to be chosen
abbrev pub IsToTake : Data → ℕ → Type 0
IsToTake board n =
    LeavesOut (codes "eid") board n ⊎ ((size : ℕ) × SaysNumber (at_node (codes "pool") n board) size)

-- n is to take endpoint IDs from m, its owner, at which no pool stands
pub record IsWithoutPool (board : Data) (n m : ℕ) : Type 0 where
  pub owner : Owns board m n
  pub pool : at_node (codes "pool") m board ≡ None
  pub takes : IsToTake board n

-- n's endpoint ID is left to be chosen of its owner's, and the nodes of the owner take more than there are
pub record IsWithoutEid (board : Data) (n : ℕ) (owner : Option ℕ) : Type 0 where
  pub owned : IsOf board owner n
  pub eid : LeavesOut (codes "eid") board n
  pub overdrawn : IsOverdrawn board owner

-- n's pool of this size is left to be chosen of its owner's endpoint IDs, and the nodes of the owner take more than
-- there are
pub record IsWithoutRun (board : Data) (n size : ℕ) (owner : Option ℕ) : Type 0 where
  pub owned : IsOf board owner n
  pub pool : SaysNumber (at_node (codes "pool") n board) size
  pub overdrawn : IsOverdrawn board owner

-- The board lacks what is said to be lacking. Of rows and of the fields of records nothing is judged, so no reason says
-- so of them.
abbrev pub Lacks : Data → NoPlan → Type 0
Lacks board (OwnerLoop n) = HasOwnersWithoutEnd board n
Lacks board (NoPool n m) = IsWithoutPool board n m
Lacks board (NoEid n owner) = IsWithoutEid board n owner
Lacks board (NoRun n size owner) = IsWithoutRun board n size owner
Lacks board (TooManyRows n) = ⊥
Lacks board (WrongRecord n place) = ⊥
Lacks board OutOfMemory = ⊥
