-- What a device holds.
use Rattle.std.specs.Prelude.{◌≡◌, ℕ, zero, suc, Option, Some, None, IfSome}
use Rattle.mctp_control.{specs.declared.eid_range.EidRange.{EidRange}, specs.declared.device.HeldEid.{HeldEid}, specs.declared.device.HeldPool.{HeldPool}, specs.declared.device.Device.{Device}}
use Rattle.mctp_transport.specs.declared.device_kind.DeviceKind.{DeviceKind}
use Rattle.mctp_transport.specs.declared.device_kind.DeviceKind.TheVariants as kind

-- an EID, and the bus that gave it, if one did
pub record EidHeld : Type 0 where
  pub eid : ℕ
  pub giver : Option ℕ

-- a pool by its first EID and its size, and the bus that gave it, if one did
pub record PoolHeld : Type 0 where
  pub first : ℕ
  pub size : ℕ
  pub giver : Option ℕ

-- a device: what it is, the EID that it holds, if any, the size of the pool that it wants, the pool that it
-- holds, if any
pub record DeviceValue : Type 0 where
  pub kind : DeviceKind
  pub eid : Option EidHeld
  pub wants : ℕ
  pub pool : Option PoolHeld

abbrev pub eid_held : Option HeldEid → Option EidHeld
eid_held None = None
eid_held (Some h) = Some (record { eid = h.eid.value; giver = h.giver })

abbrev pub pool_held : Option HeldPool → Option PoolHeld
pool_held None = None
pool_held (Some h) = Some (record { first = h.range.first.value; size = h.range.size; giver = h.giver })

abbrev pub device_value : Device → DeviceValue
device_value d = record { kind = d.kind; eid = eid_held d.eid; wants = d.wants; pool = pool_held d.pool }

-- the EID that is held, 0 for none
abbrev pub present_eid : Option EidHeld → ℕ
present_eid None = 0
present_eid (Some h) = h.eid

-- the size and the first EID of the pool that is held, 0 for none
abbrev pub present_size : Option PoolHeld → ℕ
present_size None = 0
present_size (Some h) = h.size

abbrev pub present_first : Option PoolHeld → ℕ
present_first None = 0
present_first (Some h) = h.first

-- the bus may give an EID: none is held, or the same bus gave it
abbrev pub MayGiveEid : Option EidHeld → ℕ → Type 0
MayGiveEid held bus = IfSome held (λ h. h.giver ≡ Some bus)

-- the bus may give a pool: none is held, or the same bus gave it
abbrev pub MayGivePool : Option PoolHeld → ℕ → Type 0
MayGivePool held bus = IfSome held (λ h. h.giver ≡ Some bus)

-- the endpoint type of Get Endpoint ID in its bits 5 and 4: 0 a simple endpoint, 1 a bridge
abbrev pub endpoint_type : DeviceKind → ℕ
endpoint_type kind.Endpoint = 0
endpoint_type kind.Bridge = 16

-- the allocation status of Set Endpoint ID: 0 where no pool is used, 1 where one is wanted and none is held, 2
-- where one is held
abbrev pub allocation_of : ℕ → Option PoolHeld → ℕ
allocation_of zero held = 0
allocation_of (suc n) None = 1
allocation_of (suc n) (Some h) = 2

-- an endpoint uses no pool, whatever it is said to want
abbrev pub pool_wanted : DeviceKind → ℕ → ℕ
pool_wanted kind.Endpoint wants = 0
pool_wanted kind.Bridge wants = wants

-- a pool that no bus gave
abbrev pub configured_pool : Option EidRange → Option PoolHeld
configured_pool None = None
configured_pool (Some r) = Some (record { first = r.first.value; size = r.size; giver = None })

abbrev pub size_of : Option EidRange → ℕ
size_of None = 0
size_of (Some r) = r.size
