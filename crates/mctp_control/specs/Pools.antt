-- Pools: a set of EIDs, and the subset that is out.
use Rattle.std.specs.Prelude.{◌≡◌, ◌≢◌, ◌⊎◌, ◌↔◌, ℕ, ◌+◌, ◌<◌, ◌≤◌, Bool, false, true, List, slice_index_or}
use Rattle.mctp_control.{specs.Ranges.{IsWithin}, specs.declared.eid_pool.EidPool.{EidPool}}

-- a pool: its EIDs as a range, and a mark at each number that is out
pub record PoolValue : Type 0 where
  pub first : ℕ
  pub size : ℕ
  pub marks : List Bool

abbrev pub pool_value : EidPool → PoolValue
pool_value p = record { first = p.range.first.value; size = p.range.size; marks = p.out }

-- the EID is one of the pool's
abbrev pub Has : PoolValue → ℕ → Type 0
Has p eid = IsWithin p.first p.size eid

-- the EID is one of the pool's, and out
abbrev pub IsOut : PoolValue → ℕ → Type 0
IsOut p eid = Has p eid × (slice_index_or p.marks eid false ≡ true)

-- the EID is one of the pool's, and not out
abbrev pub IsFree : PoolValue → ℕ → Type 0
IsFree p eid = Has p eid × ¬ IsOut p eid

-- so many EIDs from this one on are free
abbrev pub IsFreeRun : PoolValue → ℕ → ℕ → Type 0
IsFreeRun p count eid = (i : ℕ) → i < count → IsFree p (eid + i)

-- the least EID that is free
pub record IsLowestFree (p : PoolValue) (eid : ℕ) : Type 0 where
  pub free : IsFree p eid
  pub lowest : (other : ℕ) → IsFree p other → eid ≤ other

-- the first EID of the lowest run of so many free ones
pub record IsLowestRun (p : PoolValue) (count eid : ℕ) : Type 0 where
  pub run : IsFreeRun p count eid
  pub lowest : (other : ℕ) → IsFreeRun p count other → eid ≤ other

-- the pools have the same EIDs
pub record SameEids (old new : PoolValue) : Type 0 where
  pub first : new.first ≡ old.first
  pub size : new.size ≡ old.size

-- these EIDs are out then, and all others as before
pub record GoesOut (old new : PoolValue) (eid count : ℕ) : Type 0 where
  pub eids : SameEids old new
  pub out : (e : ℕ) → IsOut new e ↔ (IsOut old e ⊎ IsWithin eid count e)

-- the EID isn't out then, and all others are as before
pub record ComesBack (old new : PoolValue) (eid : ℕ) : Type 0 where
  pub eids : SameEids old new
  pub out : (e : ℕ) → IsOut new e ↔ (IsOut old e × (e ≢ eid))
