-- The messages of a capture, each once, and what one entry adds to them.
use Rattle.std.specs.Prelude.{◌≡◌, ℕ, Bool, List, [], ◌∷◌, ◌++◌, map, if◌then◌else◌}
use Rattle.bus_captures.specs.Values.{EntryValue}
use Rattle.heard_captures.{specs.Seen.{Seen, AreSeen}, specs.Steps.{Sees}, specs.Messages.{MessageValue, Came, message_value, messages_of, messages_in}, specs.Said.{AreSaid}, specs.Times.{Tallies}, specs.declared.messages.Message.{Message}, specs.declared.stations.Stations.{Stations}, specs.declared.times.Tally.{Tally}}

-- what came was counted, and added where it is new
abbrev pub AddsCame : List Came → Tally → Tally → List MessageValue → List MessageValue → Type 0
AddsCame [] old new before after = (new ≡ old) × (after ≡ before)
AddsCame (c ∷ more) old new before after =
    (is_new : Bool) × Tallies old new c.on c.message is_new
    × (after ≡ before ++ (if is_new then c.message ∷ [] else []))

-- the entry was seen, and the message that it ended was added
pub record HearsMore (unit : ℕ) (old new : Stations) (old_tally new_tally : Tally) (e : EntryValue)
    (before after : List Message) : Type 0 where
  pub seen : Seen
  pub sees : Sees unit old new e seen
  pub added : AddsCame (messages_of seen) old_tally new_tally (map message_value before) (map message_value after)

-- The messages are those of the entries that came whole, in packets under a transmission unit, each once.
abbrev pub AreHeard : (unit : ℕ) → List EntryValue → List MessageValue → Type 0
AreHeard unit entries messages = (seen : List Seen) × AreSeen unit entries seen × AreSaid (messages_in seen) messages
