-- Which packets a plan has on a bus.
use Rattle.std.{specs.Prelude.{◌≡◌, ◌≢◌, ℕ, ◌==◌, Bool, true, false, List, Option, Some, None, IsTrue}, specs.List.{list_any}}
use Rattle.plan_values.specs.declared.plan.Plan.{Plan}
use Rattle.net_questions.{specs.Ways.{IsWay}, specs.declared.step.WayStep.{WayStep}, specs.declared.way.End.TheVariants.{Arrives}}
use Rattle.net_tables.{specs.Routing.{Holds, IsHeld}, specs.Rows.{bus_of}}

-- Nobody can have sent it: no node holds the source. The null endpoint ID, 0, is that of a device that has none yet.
abbrev pub LacksSender : Plan → ℕ → Type 0
LacksSender plan source = (source ≢ 0) × ¬ IsHeld plan source

-- Nobody can take it: no node holds the destination. The null endpoint ID is for the device at the physical address,
-- and 255 for all.
abbrev pub LacksReceiver : Plan → ℕ → Type 0
LacksReceiver plan destination = (destination ≢ 0) × (destination ≢ 255) × ¬ IsHeld plan destination

abbrev pub is_bus : ℕ → Option ℕ → Bool
is_bus bus None = false
is_bus bus (Some other) = other == bus

-- the step goes over the bus; where none is named, over any
abbrev pub is_over : Plan → Option ℕ → WayStep → Bool
is_over plan None step = true
is_over plan (Some bus) step = is_bus bus (bus_of plan step.node step.hop.port)

-- one of the steps does
abbrev pub is_one_over : Plan → Option ℕ → List WayStep → Bool
is_one_over plan bus steps = list_any (is_over plan bus) steps

-- a packet for e that is put in at n arrives, by these steps
abbrev pub ArrivesBy : Plan → (e n : ℕ) → List WayStep → Type 0
ArrivesBy plan e n steps = (last : ℕ) × IsWay plan e n steps last Arrives

-- and goes over the bus
abbrev pub GoesOver : Plan → Option ℕ → (e n : ℕ) → Type 0
GoesOver plan bus e n = (steps : List WayStep) × ArrivesBy plan e n steps × IsTrue (is_one_over plan bus steps)

-- Packets from an endpoint ID to another are planned on the bus: there are nodes to send and to take them, and between
-- two nodes the way by the plan's rows goes over the bus.
pub record IsPlanned (plan : Plan) (bus : Option ℕ) (source destination : ℕ) : Type 0 where
  pub sent : ¬ LacksSender plan source
  pub taken : ¬ LacksReceiver plan destination
  pub goes : (from to : ℕ) → Holds plan from source → Holds plan to destination → GoesOver plan bus destination from

-- Why packets aren't planned: no node holds the source, the destination, or either; there is no way between the nodes;
-- or it goes along these steps.
pub data Unplanned : Type 0 where
  NoSender : Unplanned
  NoReceiver : Unplanned
  Nobody : Unplanned
  NoWay : Unplanned
  Elsewhere : List WayStep → Unplanned

abbrev pub IsWhy : Plan → Option ℕ → (source destination : ℕ) → Unplanned → Type 0
IsWhy plan bus source destination NoSender = LacksSender plan source × ¬ LacksReceiver plan destination
IsWhy plan bus source destination NoReceiver = ¬ LacksSender plan source × LacksReceiver plan destination
IsWhy plan bus source destination Nobody = LacksSender plan source × LacksReceiver plan destination
IsWhy plan bus source destination NoWay =
    (from to : ℕ) × Holds plan from source × Holds plan to destination
    × ((steps : List WayStep) → ¬ ArrivesBy plan destination from steps)
IsWhy plan bus source destination (Elsewhere steps) =
    (from to : ℕ) × Holds plan from source × Holds plan to destination × ArrivesBy plan destination from steps
    × (is_one_over plan bus steps ≡ false)

-- packets from an endpoint ID to another are planned, or for this reason they aren't
abbrev pub IsJudged : Plan → Option ℕ → (source destination : ℕ) → Option Unplanned → Type 0
IsJudged plan bus source destination None = IsPlanned plan bus source destination
IsJudged plan bus source destination (Some why) =
    ¬ IsPlanned plan bus source destination × IsWhy plan bus source destination why
