-- The instance IDs of a requester: each stands for one request at a time (DSP0240, PLDM message fields).
use Rattle.std.specs.Prelude.{◌≡◌, ℕ, ◌<◌, ◌≤◌, ◌+◌, ◌-◌, ◌%◌, Bool, true, false, not, ◌==◌, ◌&&◌, ◌||◌, Option, Some, None}

-- which IDs are out, and the last one given, if any was
pub record IdSet : Type 0 where
  pub out : ℕ → Bool
  pub last : Option ℕ

-- where the next one is looked for first: after the last one given, and at 0 before any was
abbrev pub first_place : Option ℕ → ℕ
first_place None = 0
first_place (Some last) = (last + 1) % 32

-- how many steps it takes from a place to an ID, where 0 follows 31
abbrev pub steps_to : ℕ → ℕ → ℕ
steps_to place id = (id + 32 - place) % 32

abbrev pub IsFree : IdSet → ℕ → Type 0
IsFree ids id = (id < 32) × (ids.out id ≡ false)

-- all 32 are out
abbrev pub AreAllOut : IdSet → Type 0
AreAllOut ids = (id : ℕ) → id < 32 → ids.out id ≡ true

-- a free ID to which no other free one comes before
pub record IsNextFree (ids : IdSet) (id : ℕ) : Type 0 where
  pub free : IsFree ids id
  pub first : (other : ℕ) → IsFree ids other
      → steps_to (first_place ids.last) id ≤ steps_to (first_place ids.last) other

-- the next free ID goes out, and is the last one given; of the others nothing changes
pub record Gives (old : IdSet) (id : ℕ) (new : IdSet) : Type 0 where
  pub next : IsNextFree old id
  pub out : (i : ℕ) → new.out i ≡ (i == id || old.out i)
  pub last : new.last ≡ Some id

-- an ID is out no more; of the others, and of the last one given, nothing changes
pub record TakesBack (old : IdSet) (id : ℕ) (new : IdSet) : Type 0 where
  pub out : (i : ℕ) → new.out i ≡ (not (i == id) && old.out i)
  pub last : new.last ≡ old.last
