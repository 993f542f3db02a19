-- What an assembler has been given, and what follows from it.
use Rattle.std.{specs.Prelude.{◌≡◌, ◌≢◌, ◌⊎◌, ℕ, zero, suc, ◌<◌, ◌≤◌, List, [], ◌∷◌, ◌++◌, length, Bool, true, false, ◌&&◌, ◌==◌, filter, if◌then◌else◌, All, AllPairs}, specs.Bool.{beq}}
use Rattle.mctp_transport.{specs.PacketValues.{PacketValue, KeyValue, key_of}, specs.Messages.{Joined, payloads_of}}

-- one thing that an assembler is given: a packet, or word that a key's time is up
pub data Input : Type 0 where
  Arrived : PacketValue → Input
  TimeUp : KeyValue → Input

-- everything that an assembler was given, oldest first
abbrev pub History : Type 0
History = List Input

-- each packet that arrived has the property
abbrev pub EachArrival : (PacketValue → Type 0) → History → Type 0
EachArrival P [] = Unit {0}
EachArrival P (Arrived p ∷ is) = P p × EachArrival P is
EachArrival P (TimeUp k ∷ is) = EachArrival P is

-- the history with one more input
abbrev pub after : History → Input → History
after history i = history ++ i ∷ []

abbrev pub same_key : KeyValue → KeyValue → Bool
same_key a b = (a.source == b.source) && ((a.tag == b.tag) && beq a.owner b.owner)

abbrev pub key_of_input : Input → KeyValue
key_of_input (Arrived p) = key_of p
key_of_input (TimeUp k) = k

-- a packet that starts a message
abbrev pub is_start : Input → Bool
is_start (Arrived p) = p.som
is_start (TimeUp k) = false

abbrev pub has_start : List Input → Bool
has_start [] = false
has_start (i ∷ is) = if is_start i then true else has_start is

-- from the last start on; nothing where there is no start
abbrev pub from_last_start : List Input → List Input
from_last_start [] = []
from_last_start (i ∷ is) = if has_start is then from_last_start is else if is_start i then i ∷ is else []

-- what was given for the key
abbrev pub inputs_of : History → KeyValue → List Input
inputs_of history key = filter (λ i. same_key (key_of_input i) key) history

-- what was given for the key since its last start, that start included
abbrev pub last_of : History → KeyValue → List Input
last_of history key = from_last_start (inputs_of history key)

-- these inputs are these packets, with no word of time among them
abbrev pub ArePackets : List Input → List PacketValue → Type 0
ArePackets [] [] = Unit {0}
ArePackets (Arrived p ∷ is) (q ∷ qs) = (p ≡ q) × ArePackets is qs
ArePackets [] (q ∷ qs) = ⊥
ArePackets (Arrived p ∷ is) [] = ⊥
ArePackets (TimeUp k ∷ is) qs = ⊥

-- packets that begin a message and don't end it
abbrev pub IsBegun : List PacketValue → Type 0
IsBegun ps =
    (0 < length ps) × ((rest : List PacketValue) × (message : List ℕ) × (0 < length rest) × Joined (ps ++ rest) message)

-- The key's message has begun, isn't whole and fits the limit, whether or not a slot was free for it.
abbrev pub IsUnderWay : ℕ → History → KeyValue → Type 0
IsUnderWay limit history key =
    (ps : List PacketValue) × ArePackets (last_of history key) ps × IsBegun ps × (length (payloads_of ps) ≤ limit)

-- the history before the key's last start
abbrev pub before_last_start : KeyValue → History → History
before_last_start key [] = []
before_last_start key (i ∷ is) =
    if has_start (inputs_of is key) then i ∷ before_last_start key is
    else if same_key (key_of_input i) key && is_start i then [] else i ∷ before_last_start key is

-- fewer keys than this, all different, have the property
abbrev pub FewerThan : ℕ → (KeyValue → Type 0) → Type 0
FewerThan slots P = (keys : List KeyValue) → AllPairs ◌≢◌ keys → All P keys → length keys < slots

-- so many keys, all different, have the property
abbrev pub AsManyAs : ℕ → (KeyValue → Type 0) → Type 0
AsManyAs slots P = (keys : List KeyValue) × AllPairs ◌≢◌ keys × All P keys × (length keys ≡ slots)

-- exactly so many keys have the property
abbrev pub IsKeyCount : (KeyValue → Type 0) → ℕ → Type 0
IsKeyCount P count = AsManyAs count P × FewerThan (suc count) P

-- The key is open, as far as a look back over so many inputs shows: its message is under way, and
-- fewer than all slots were taken by other keys before it began.
abbrev pub IsOpenWithin : ℕ → ℕ → ℕ → History → KeyValue → Type 0
IsOpenWithin zero slots limit history key = ⊥
IsOpenWithin (suc n) slots limit history key =
    IsUnderWay limit history key
    × FewerThan slots (λ other. (other ≢ key) × IsOpenWithin n slots limit (before_last_start key history) other)

-- the key is open after the history
abbrev pub IsOpen : ℕ → ℕ → History → KeyValue → Type 0
IsOpen slots limit history key = IsOpenWithin (length history) slots limit history key

-- another key than this is open after the history
abbrev pub IsOtherOpen : ℕ → ℕ → History → KeyValue → KeyValue → Type 0
IsOtherOpen slots limit history key other = (other ≢ key) × IsOpen slots limit history other

-- The message comes at the end of the history: its last input is a packet whose key's inputs since the
-- last start join to it, it fits the limit, and that packet starts it or the key was open before.
pub record Comes (slots limit : ℕ) (history : History) (message : List ℕ) : Type 0 where
  pub earlier : History
  pub packet : PacketValue
  pub packets : List PacketValue
  pub ends : history ≡ after earlier (Arrived packet)
  pub since_start : ArePackets (last_of history (key_of packet)) packets
  pub joined : Joined packets message
  pub fits : length message ≤ limit
  pub begun : (packet.som ≡ true) ⊎ IsOpen slots limit earlier (key_of packet)
