-- What was captured of one thing that went over a bus, by its link type.
use Rattle.std.specs.Prelude.{◌≡◌, ◌≢◌, ◌⊎◌, ◌<◌, ◌≤◌, ℕ, List, length, Option, None, Some}
use Rattle.bus_captures.{specs.declared.capture.Direction.{Direction}, specs.declared.capture.Kind.{Kind}, specs.declared.capture.Unread.{Unread}, specs.declared.link.Link.{Link}, specs.Links.{link_length, link_of, direction_of, index_of, IsReadOf}, specs.Values.{TimeValue, EntryValue}}
use Rattle.bus_captures.specs.declared.capture.Kind.TheVariants as kind
use Rattle.bus_captures.specs.declared.capture.Unread.TheVariants as cause

-- which way it went, on which interface of Linux, what it is, and its bytes behind the header of the link
pub record FrameValue : Type 0 where
  pub direction : Option Direction
  pub index : Option ℕ
  pub kind : Kind
  pub bytes : List ℕ

-- what isn't read, and all that was kept of it
abbrev pub unread : Unread → List ℕ → FrameValue
unread why kept = record { direction = None; index = None; kind = kind.Unread why; bytes = kept }

-- what was kept whole, with its link header
pub record IsFrameRead (link : Link) (kept : List ℕ) (f : FrameValue) : Type 0 where
  pub direction : f.direction ≡ direction_of link kept
  pub index : f.index ≡ index_of link kept
  pub read : IsReadOf link kept f.kind f.bytes

-- What was kept of something that had so many bytes: it is read where it was kept whole and has a link header.
abbrev pub IsFrameOf : Link → ℕ → List ℕ → FrameValue → Type 0
IsFrameOf link original kept f =
    ((length kept ≢ original) × (f ≡ unread cause.Cut kept))
    ⊎ (((length kept ≡ original) × (length kept < link_length link) × (f ≡ unread cause.LinkHeader kept))
    ⊎ ((length kept ≡ original) × (link_length link ≤ length kept) × IsFrameRead link kept f))

-- the same where the link type is one that isn't read, or another
abbrev pub IsFrameBy : ℕ → Option Link → ℕ → List ℕ → FrameValue → Type 0
IsFrameBy number None original kept f = f ≡ unread (cause.Link number) kept
IsFrameBy number (Some link) original kept f = IsFrameOf link original kept f

-- the same under the number of a link type
abbrev pub IsFrameUnder : ℕ → ℕ → List ℕ → FrameValue → Type 0
IsFrameUnder number original kept f = IsFrameBy number (link_of number) original kept f

-- the entry at a time, on an interface of this number and this name in a file
abbrev pub entry_of : TimeValue → Option ℕ → Option (List ℕ) → FrameValue → EntryValue
entry_of time number name f = record {
  time = time;
  direction = f.direction;
  interface = record { number = number; index = f.index };
  name = name;
  kind = f.kind;
  bytes = f.bytes;
}
