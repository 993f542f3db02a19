-- What the entries of the code stand for, wherever their bytes lie.
use Rattle.std.specs.Prelude.{◌≡◌, ℕ, List, [], ◌∷◌, ◌++◌, map, Option, None, option_map}
use Rattle.bus_captures.{specs.declared.capture.Direction.{Direction}, specs.declared.capture.Interface.{Interface}, specs.declared.capture.Kind.{Kind}, specs.declared.capture.Entry.{Entry}, specs.declared.capture.Time.{Time}}
use Rattle.bus_captures.specs.declared.capture.Time.TheVariants as time

-- the most entries of a capture
abbrev pub most_entries : ℕ
most_entries = 100000

-- no time, a time as it is written, or seconds and nanoseconds
pub data TimeValue : Type 0 where
  Unknown : TimeValue
  Written : List ℕ → TimeValue
  At : ℕ → ℕ → TimeValue

pub record EntryValue : Type 0 where
  pub time : TimeValue
  pub direction : Option Direction
  pub interface : Interface
  pub name : Option (List ℕ)
  pub kind : Kind
  pub bytes : List ℕ

-- no interface is told, or only Linux' number of it
abbrev pub nowhere : Interface
nowhere = record { number = None; index = None }

abbrev pub on_linux : Option ℕ → Interface
on_linux index = record { number = None; index = index }

abbrev pub time_value : Time → TimeValue
time_value time.Unknown = Unknown
time_value (time.Written text) = Written text.now
time_value (time.At seconds nanoseconds) = At seconds nanoseconds

abbrev pub entry_value : Entry → EntryValue
entry_value e = record {
  time = time_value e.time;
  direction = e.direction;
  interface = e.interface;
  name = option_map (λ n. n.now) e.name;
  kind = e.kind;
  bytes = e.bytes.items;
}

-- one entry of which this holds is added at the end
abbrev pub Adds : (EntryValue → Type 0) → List Entry → List Entry → Type 0
Adds P old new = (e : EntryValue) × P e × (map entry_value new ≡ map entry_value old ++ e ∷ [])
