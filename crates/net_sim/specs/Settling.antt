-- What a network that has settled for a key and a destination holds, part by part.
use Rattle.std.specs.Prelude.{◌≡◌, ◌≢◌, ℕ, Bool, false, Option, Some, None, All}
use Rattle.mctp_transport.{specs.PacketValues.{KeyValue, key_of}, specs.Histories.{IsOpen}}
use Rattle.net_sim.specs.KeyCounts.{are_these}
use Rattle.net_runs.{specs.Termini.{TerminusState}, specs.States.{NetworkState, Flight, destination, slots, limit}}

-- its packet is of the key and goes to d
abbrev pub IsTo : KeyValue → ℕ → Flight → Type 0
IsTo key d f = (key_of f.packet ≡ key) × (destination f ≡ d)

-- the same of a flight that may be there, as a test
abbrev pub goes_to : KeyValue → ℕ → Option Flight → Bool
goes_to key d None = false
goes_to key d (Some f) = are_these (key_of f.packet) (destination f) key d

-- no flight is there, or one that isn't
abbrev pub IsNotTo : KeyValue → ℕ → Option Flight → Type 0
IsNotTo key d None = Unit {0}
IsNotTo key d (Some f) = ¬ IsTo key d f

-- no message of the key waits at the terminus, if there is one
abbrev pub NoneWaits : KeyValue → Option TerminusState → Type 0
NoneWaits key None = Unit {0}
NoneWaits key (Some t) = All (λ message. message.key ≢ key) t.waiting

-- at node n no message of the key is open, and none waits
abbrev pub IsClearAt : NetworkState → KeyValue → ℕ → Type 0
IsClearAt w key n = (¬ IsOpen slots limit (w.history n) key) × NoneWaits key (w.terminus n)
