-- What the counters of a network tell.
use Rattle.std.specs.Prelude.{◌≡◌, ℕ, ◌<◌, List, count_by, Bool, option_map, Some}
use Rattle.mctp_transport.{specs.PacketValues.{KeyValue}, specs.Packets.{key_value}}
use Rattle.net_sim.{specs.FlightValues.{flight_value}, specs.KeyCounts.{count_of, are_these}, specs.Settling.{goes_to}, specs.declared.flights.Slot.{Slot}, specs.declared.key_counts.KeyCounts.{KeyCounts}, specs.declared.waiting.Waiting.{Waiting}}

-- where a key to d is counted, it is as often as there are such elements
abbrev pub IsTally : {X : Type 0} → (KeyValue → ℕ → X → Bool) → KeyCounts → List X → Type 0
IsTally test counts xs =
    (key : KeyValue) (d n : ℕ) → key.tag < 8 → count_of counts key d ≡ Some n → n ≡ count_by (test key d) xs

-- the flight in a slot is of the key and goes to d
abbrev pub slot_goes_to : KeyValue → ℕ → Slot → Bool
slot_goes_to key d slot = goes_to key d (option_map flight_value slot.flight)

abbrev pub AreTallied : KeyCounts → List Slot → Type 0
AreTallied counts slots = IsTally slot_goes_to counts slots

-- the message is of the key, where 0 stands for the place at which it waits
abbrev pub waits_under : KeyValue → ℕ → Waiting → Bool
waits_under key d message = are_these (key_value message.key) 0 key d

abbrev pub AreCounted : KeyCounts → List Waiting → Type 0
AreCounted counts messages = IsTally waits_under counts messages
