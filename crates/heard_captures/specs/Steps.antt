-- What one entry changes.
use Rattle.std.specs.Prelude.{◌≡◌, ℕ, List, [], ◌∷◌, ◌++◌}
use Rattle.bus_captures.specs.Values.{EntryValue}
use Rattle.mctp_transport.specs.PacketValues.{Spelled}
use Rattle.heard_captures.{specs.Seen.{Seen, Fed, NoPacket, Told, Other, NotRead, IsNoPacketFor, AreSeen, history_to}, specs.Stations.{IsFedAt, AreGiven}, specs.declared.stations.Stations.{Stations}}
use Rattle.bus_captures.specs.declared.capture.Kind.TheVariants as kind

-- this becomes of the entry under a transmission unit, and of the stations
abbrev pub Sees : (unit : ℕ) → Stations → Stations → EntryValue → Seen → Type 0
Sees unit old new e (Fed i p answer) =
    (e.kind ≡ kind.Packet) × (i ≡ e.interface) × Spelled unit p e.bytes × IsFedAt old new i p answer
Sees unit old new e (NoPacket why) = (e.kind ≡ kind.Packet) × IsNoPacketFor unit why e.bytes × (new ≡ old)
Sees unit old new e (Told way message) =
    (e.kind ≡ kind.Message) × (way ≡ e.direction) × (message ≡ e.bytes) × (new ≡ old)
Sees unit old new e (Other protocol) = (e.kind ≡ kind.Other protocol) × (new ≡ old)
Sees unit old new e (NotRead why) = (e.kind ≡ kind.Unread why) × (new ≡ old)

-- this became of the entries, and each station was given the packets to its destination on its interface
pub record HaveSeen (unit : ℕ) (entries : List EntryValue) (seen : List Seen) (stations : Stations) : Type 0 where
  pub are : AreSeen unit entries seen
  pub given : AreGiven stations (λ i d. history_to i d seen)

-- an entry more
abbrev pub SeesOneMore : Type 0
SeesOneMore =
    (unit : ℕ) (entries : List EntryValue) (seen : List Seen) (old new : Stations) (e : EntryValue) (s : Seen)
    → HaveSeen unit entries seen old → Sees unit old new e s → HaveSeen unit (entries ++ e ∷ []) (seen ++ s ∷ []) new
