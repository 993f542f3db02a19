-- A reading from one part to the next.
use Rattle.std.proofs.Common.{◌≡◌, ℕ, List}
use Rattle.mctp_control.specs.RouteEntries.{EntryValue}
use Rattle.audited_captures.specs.Readings.{PartValue, behind, read_from}

-- the parts from here on, read with the handle that is due, bring what is still wanting of the whole reading
abbrev pub IsLeft : (requester due : ℕ) → List PartValue → List EntryValue → List PartValue → Type 0
IsLeft requester due left entries all = read_from requester 0 all ≡ behind entries (read_from requester due left)
