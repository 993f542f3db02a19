-- The Linux network devices of a plan's buses.
use Rattle.std.specs.Prelude.{◌≡◌, ◌≢◌, ◌⊎◌, ℕ, List, length, take, All, Some, slice_get, unwrap_or, codes}
use Rattle.plan_values.specs.declared.plan.Plan.{Plan}
use Rattle.net_tables.specs.Names.{bus_name}
use Rattle.plan_exports.specs.declared.links.Link.{Link}

-- the first link of a bus of this name has the device
pub record IsLinked (links : List Link) (name device : List ℕ) : Type 0 where
  pub place : ℕ
  pub link : Link
  pub there : slice_get links place ≡ Some link
  pub named : link.bus.now ≡ name
  pub first : All (λ (other : Link). other.bus.now ≢ name) (take place links)
  pub device_is : device ≡ link.device.now

-- the device of a bus is that of the first link of the bus's name, or has that name itself where there is no such link
abbrev pub IsDeviceOf : Plan → List Link → ℕ → List ℕ → Type 0
IsDeviceOf plan links bus device = IsLinked links (bus_name plan bus) device
    ⊎ (All (λ (other : Link). other.bus.now ≢ bus_name plan bus) links × (device ≡ bus_name plan bus))

-- each bus of the plan has its device
pub record AreDevices (plan : Plan) (links : List Link) (devices : List (List ℕ)) : Type 0 where
  pub many : length devices ≡ length plan.buses.items
  pub each : (bus : ℕ) (device : List ℕ) → slice_get devices bus ≡ Some device → IsDeviceOf plan links bus device

-- the device at an index; a dash beyond the list
abbrev pub device_at : List (List ℕ) → ℕ → List ℕ
device_at devices bus = unwrap_or (slice_get devices bus) (codes "-")
