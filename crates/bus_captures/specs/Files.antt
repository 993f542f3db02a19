-- Capture files: a header and records, one behind the other (libpcap's format, version 2.4).
use Rattle.std.{specs.Prelude.{◌≡◌, ◌≢◌, ◌⊎◌, ℕ, ◌+◌, ◌*◌, ◌<◌, ◌^◌, List, [], ◌++◌, length, All, None}, specs.List.{flat_map, AllZip}}
use Rattle.bus_captures.{specs.declared.capture.CaptureFault.{CaptureFault}, specs.declared.capture.End.{End}, specs.declared.format.Order.{Order}, specs.declared.format.TimeUnit.{TimeUnit}, specs.declared.link.Link.{Link}, specs.Frames.{FrameValue, IsFrameOf, entry_of}, specs.Links.{link_number, link_of}, specs.Numbers.{number_bytes}, specs.Values.{most_entries, EntryValue, At}}
use Rattle.bus_captures.specs.declared.capture.CaptureFault.TheVariants as fault
use Rattle.bus_captures.specs.declared.capture.End.TheVariants as end
use Rattle.bus_captures.specs.declared.format.TimeUnit.TheVariants as unit

-- the number at the head of a file, by which its byte order and its unit of time are known
abbrev pub magic : TimeUnit → ℕ
magic unit.Micro = 2712847316
magic unit.Nano = 2712812621

-- a fraction of a second in nanoseconds
abbrev pub nanoseconds : TimeUnit → ℕ → ℕ
nanoseconds unit.Micro fraction = 1000 * fraction
nanoseconds unit.Nano fraction = fraction

-- one record of a file: when it was captured, how long the packet was on the bus, and what was kept of it
pub record FileRecord : Type 0 where
  pub seconds : ℕ
  pub fraction : ℕ
  pub original : ℕ
  pub bytes : List ℕ

pub record IsRecord (r : FileRecord) : Type 0 where
  pub seconds : r.seconds < 2 ^ 32
  pub fraction : r.fraction < 2 ^ 32
  pub original : r.original < 2 ^ 32
  pub count : length r.bytes < 2 ^ 32

-- four numbers, and then the bytes: seconds, fraction, how many bytes were kept, how many there were
abbrev pub record_bytes : Order → FileRecord → List ℕ
record_bytes order r =
    number_bytes order r.seconds ++ number_bytes order r.fraction ++ number_bytes order (length r.bytes)
    ++ number_bytes order r.original ++ r.bytes

-- the bytes begin with the record
abbrev pub Begins : Order → List ℕ → FileRecord → Type 0
Begins order bytes r = IsRecord r × ((rest : List ℕ) × (bytes ≡ record_bytes order r ++ rest))

-- the record is this entry
abbrev pub IsEntryOf : TimeUnit → Link → FileRecord → EntryValue → Type 0
IsEntryOf unit link r e = (f : FrameValue) × IsFrameOf link r.original r.bytes f
    × (e ≡ entry_of (At r.seconds (nanoseconds unit r.fraction)) None None f)

-- how reading ends behind so many records, where these bytes are left
abbrev pub EndsFile : Order → ℕ → List ℕ → End → Type 0
EndsFile order count left end.Whole = left ≡ []
EndsFile order count left end.Full = (count ≡ most_entries) × (left ≢ [])
EndsFile order count left (end.Broken place why) =
    (place ≡ count + 1) × (why ≡ fault.Record) × (left ≢ []) × ((r : FileRecord) → ¬ Begins order left r)

-- The bytes are records, each of which is an entry, and then what is left.
pub record AreRead (order : Order) (unit : TimeUnit) (link : Link) (bytes : List ℕ) (entries : List EntryValue)
    (left : List ℕ) : Type 0 where
  pub records : List FileRecord
  pub spelled : bytes ≡ flat_map (record_bytes order) records ++ left
  pub lawful : All IsRecord records
  pub each : AllZip (IsEntryOf unit link) records entries

-- The bytes are these entries, a record each, up to what is left, and reading ends there so.
pub record IsBody (order : Order) (unit : TimeUnit) (link : Link) (bytes : List ℕ) (entries : List EntryValue)
    (how : End) : Type 0 where
  pub left : List ℕ
  pub read : AreRead order unit link bytes entries left
  pub ends : EndsFile order (length entries) left how

-- what stands behind the first number has no such header: it is too short, or the link type is another
abbrev pub HasNoHeader : Order → List ℕ → CaptureFault → Type 0
HasNoHeader order bytes fault.Header = length bytes < 20
HasNoHeader order bytes (fault.Link number) =
    (ahead : List ℕ) × (rest : List ℕ) × (length ahead ≡ 16) × (number < 2 ^ 32)
    × (bytes ≡ ahead ++ number_bytes order number ++ rest) × (link_of number ≡ None)
HasNoHeader order bytes fault.Record = ⊥
HasNoHeader order bytes fault.Block = ⊥
HasNoHeader order bytes fault.Line = ⊥

-- The rest of the header: 16 bytes that aren't looked at (version, zone, accuracy, largest record), and the link type.
abbrev pub HasHeader : Order → List ℕ → Link → List ℕ → Type 0
HasHeader order bytes link body =
    (ahead : List ℕ) × (length ahead ≡ 16) × (bytes ≡ ahead ++ number_bytes order (link_number link) ++ body)

-- the file whose first number is followed by these bytes has these entries, and reading it ends so
abbrev pub IsFile : Order → TimeUnit → List ℕ → List EntryValue → End → Type 0
IsFile order unit bytes entries how =
    ((entries ≡ []) × ((why : CaptureFault) × (how ≡ end.Broken 0 why) × HasNoHeader order bytes why))
    ⊎ ((link : Link) × (body : List ℕ) × HasHeader order bytes link body × IsBody order unit link body entries how)
