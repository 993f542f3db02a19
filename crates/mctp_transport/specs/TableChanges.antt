-- What a packet, or the end of a key's time, makes of a table, as the code does it.
use Rattle.std.specs.Prelude.{ℕ, ◌+◌, ◌%◌, Bool, true, false, not, ◌&&◌, ◌||◌, ◌==◌, if◌then◌else◌, nat_lt, ◌++◌, length, slice_get, slice_set, position, is_none, Option, Some, None}
use Rattle.mctp_transport.{specs.PacketValues.{PacketValue, KeyValue, key_of}, specs.Hearing.{Answer, Whole, Held, Dropped}, specs.declared.drop_cause.DropCause.{DropCause}, specs.Tables.{Partial, Table, is_at}}
use Rattle.mctp_transport.specs.declared.drop_cause.DropCause.TheVariants as drop_cause

-- what a first packet begins
abbrev pub begun : PacketValue → Partial
begun p = record { key = key_of p; number = p.number; unit = length p.payload; bytes = p.payload }

-- why packet p doesn't go on from a message with this last number, first length and number of bytes, the first cause
abbrev pub fault_of : ℕ → ℕ → ℕ → ℕ → PacketValue → Option DropCause
fault_of limit number unit len p =
    if not (p.number == ((number + 1) % 4)) then Some drop_cause.Number
    else (if nat_lt unit (length p.payload) || (not p.eom && nat_lt (length p.payload) unit) then Some drop_cause.Length
    else (if nat_lt limit (len + length p.payload) then Some drop_cause.Limit else None))

abbrev pub fault_at : ℕ → Partial → PacketValue → Option DropCause
fault_at limit q p = fault_of limit q.number q.unit (length q.bytes) p

abbrev pub extended : Partial → PacketValue → Partial
extended q p = record q { number = p.number; bytes = q.bytes ++ p.payload }

-- what a packet that doesn't start a message leaves of q, by the fault and its EOM
abbrev pub goes_on : Option DropCause → Bool → Partial → PacketValue → Option Partial
goes_on (Some w) e q p = None
goes_on None true q p = None
goes_on None false q p = Some (extended q p)

abbrev pub next_partial : ℕ → Partial → PacketValue → Option Partial
next_partial limit q p = goes_on (fault_at limit q p) p.eom q p

-- the answer to it
abbrev pub answers_on : Option DropCause → Bool → Partial → PacketValue → Answer
answers_on (Some w) e q p = Dropped w
answers_on None true q p = Whole (q.bytes ++ p.payload)
answers_on None false q p = Held

abbrev pub next_answer : ℕ → Partial → PacketValue → Answer
next_answer limit q p = answers_on (fault_at limit q p) p.eom q p

-- a start with no message of its key in the table: the table then, and the answer
abbrev pub placed : Table → PacketValue → Option ℕ → Table × Answer
placed t p None = (t, Dropped drop_cause.Full)
placed t p (Some i) = (slice_set t i (Some (begun p)), Held)

abbrev pub started : ℕ → Table → PacketValue → Table × Answer
started limit t p =
    if nat_lt limit (length p.payload) then (t, Dropped drop_cause.Limit)
    else (if p.eom then (t, Whole p.payload) else placed t p (position is_none t))

-- t with the message at that index ended
abbrev pub ended : Table → Option ℕ → Table
ended t None = t
ended t (Some i) = slice_set t i None

-- a packet that starts nothing, at the index of its key
abbrev pub carried_at : ℕ → Table → PacketValue → ℕ → Option (Option Partial) → Table × Answer
carried_at limit t p i (Some (Some q)) = (slice_set t i (next_partial limit q p), next_answer limit q p)
carried_at limit t p i _ = (t, Dropped drop_cause.NotOpen)

abbrev pub carried : ℕ → Table → PacketValue → Option ℕ → Table × Answer
carried limit t p None = (t, Dropped drop_cause.NotOpen)
carried limit t p (Some i) = carried_at limit t p i (slice_get t i)

-- what a table becomes by a packet, and the answer
abbrev pub moved : ℕ → Table → PacketValue → Table × Answer
moved limit t p =
    if p.som then started limit (ended t (position (is_at (key_of p)) t)) p
    else carried limit t p (position (is_at (key_of p)) t)

-- what a table becomes when a key's time is up
abbrev pub expired : Table → KeyValue → Table
expired t key = ended t (position (is_at key) t)
