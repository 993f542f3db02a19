-- What it means that a routing table was read as it is planned.
use Rattle.std.specs.Prelude.{◌≡◌, ◌⊎◌, ◌↔◌, ℕ, false, ⊤, List, [], ◌∷◌}
use Rattle.mctp_control.specs.RouteEntries.{EntryValue}
use Rattle.audited_captures.specs.Routes.{has_range, unlike_lines}

-- x is one of the items
abbrev pub IsAmong : {A : Type 0} → A → List A → Type 0
IsAmong x [] = ⊥
IsAmong x (y ∷ ys) = (y ≡ x) ⊎ IsAmong x ys

-- The entry that was read is the planned one. Whether it is static isn't planned.
pub record IsLike (planned found : EntryValue) : Type 0 where
  pub first : planned.first ≡ found.first
  pub size : planned.size ≡ found.size
  pub kind : planned.kind ≡ found.kind
  pub port : planned.port ≡ found.port
  pub binding : planned.binding ≡ found.binding
  pub media : planned.media ≡ found.media
  pub address : planned.address ≡ found.address

-- no two of the entries are for the same endpoint IDs
abbrev pub AreOnce : List EntryValue → Type 0
AreOnce [] = ⊤
AreOnce (f ∷ fs) = (has_range fs f ≡ false) × AreOnce fs

-- The entries that were read are those of the plan, in any order: each planned one was read, each that was read is
-- planned, and none was read twice.
pub record AreAsPlanned (planned found : List EntryValue) : Type 0 where
  pub all : (e : EntryValue) → IsAmong e planned → (f : EntryValue) × IsAmong f found × IsLike e f
  pub only : (f : EntryValue) → IsAmong f found → (e : EntryValue) × IsAmong e planned × IsLike e f
  pub once : AreOnce found

-- a reading has no line of a difference exactly where its entries are those of the plan
abbrev pub MatchesWhereAsPlanned : Type 0
MatchesWhereAsPlanned =
    (name : List ℕ) (planned found : List EntryValue)
    → (unlike_lines name planned found ≡ []) ↔ AreAsPlanned planned found
