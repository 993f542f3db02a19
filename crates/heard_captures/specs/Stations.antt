-- An assembler for each interface and destination, and what each has been given.
use Rattle.std.{specs.Prelude.{◌≡◌, ◌&&◌, ◌==◌, ℕ, [], Option, Some, None, false}, specs.BTreeMap.{get}}
use Rattle.bus_captures.specs.declared.capture.Interface.{Interface}
use Rattle.mctp_transport.{specs.Assembly.{HoldsHistory, assembler_slots, assembler_limit}, specs.PacketValues.{PacketValue}, specs.Hearing.{Answer, HearsOnly}, specs.Histories.{History, Arrived, after}, specs.declared.assembler.Assembler.{Assembler}}
use Rattle.heard_captures.{specs.Places.{is_same, place_of, place_cmp}, specs.declared.stations.Stations.{Stations}}

-- the assembler of an interface and a destination, if it was given something
abbrev pub station_at : Stations → Interface → ℕ → Option Assembler
station_at s i d = get place_cmp s.by_place (place_of i d)

-- an assembler of 16 slots for messages of at most 4096 bytes that was given this; or none, which was given nothing
abbrev pub HasBeenGiven : Option Assembler → History → Type 0
HasBeenGiven None history = history ≡ []
HasBeenGiven (Some a) history = HoldsHistory a history × (assembler_slots a ≡ 16) × (assembler_limit a ≡ 4096)

-- the assembler of each interface and destination was given the history of these
abbrev pub AreGiven : Stations → (Interface → ℕ → History) → Type 0
AreGiven s history_of = (i : Interface) (d : ℕ) → HasBeenGiven (station_at s i d) (history_of i d)

-- none was given anything
abbrev pub AreIdle : Stations → Type 0
AreIdle s = AreGiven s (λ i d. [])

-- The assembler of the packet's interface and destination alone was given the packet, and this is heard of it.
pub record IsFedAt (old new : Stations) (i : Interface) (p : PacketValue) (answer : Answer) : Type 0 where
  pub hears : (history : History) → HasBeenGiven (station_at old i p.destination) history
      → HearsOnly 16 4096 history p answer
  pub given : (history : History) → HasBeenGiven (station_at old i p.destination) history
      → HasBeenGiven (station_at new i p.destination) (after history (Arrived p))
  pub others : (j : Interface) (d : ℕ) → (is_same i j && (p.destination == d)) ≡ false
      → station_at new j d ≡ station_at old j d
