-- A table of the messages that are open, and the histories that it stands for.
use Rattle.std.specs.Prelude.{◌≡◌, ℕ, Bool, false, List, length, slice_get, Option, Some, None}
use Rattle.mctp_transport.{specs.PacketValues.{PacketValue, KeyValue}, specs.Messages.{payloads_of, AtFirst, AtLast}, specs.Histories.{History, same_key, last_of, ArePackets, IsOpen}}

-- an open message: the number of its last packet, the length of its first payload, its bytes
pub record Partial : Type 0 where
  pub key : KeyValue
  pub number : ℕ
  pub unit : ℕ
  pub bytes : List ℕ

-- a slot holds the message
abbrev pub Holds : List (Option Partial) → ℕ → Partial → Type 0
Holds table i q = slice_get table i ≡ Some (Some q)

-- what is held is what was given since the key's last start
pub record HoldsLast (history : History) (q : Partial) : Type 0 where
  pub packets : List PacketValue
  pub are : ArePackets (last_of history q.key) packets
  pub bytes : q.bytes ≡ payloads_of packets
  pub unit : AtFirst packets (λ p. q.unit ≡ length p.payload)
  pub number : AtLast packets (λ p. q.number ≡ p.number)

-- The table stands for the history: the keys that it holds are the open ones, each in one slot, with
-- the joined payloads, the first length and the last number of what was given since its last start.
pub record TableStandsFor (slots limit : ℕ) (table : List (Option Partial)) (history : History) : Type 0 where
  pub held : (i : ℕ) (q : Partial) → Holds table i q → IsOpen slots limit history q.key × HoldsLast history q
  pub opened : (key : KeyValue) → IsOpen slots limit history key
      → (i : ℕ) × (q : Partial) × Holds table i q × (q.key ≡ key)
  pub once : (i j : ℕ) (q r : Partial) → Holds table i q → Holds table j r → q.key ≡ r.key → i ≡ j

abbrev pub Table : Type 0
Table = List (Option Partial)

-- a message of this key is open there
abbrev pub is_at : KeyValue → Option Partial → Bool
is_at key None = false
is_at key (Some q) = same_key q.key key
