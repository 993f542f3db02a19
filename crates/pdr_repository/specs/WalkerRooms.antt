-- The room that a walker's vectors have, and when a part lacks room.
use Rattle.std.specs.Prelude.{◌≡◌, ◌⊎◌, ◌+◌, ◌<◌, ◌≤◌, ℕ, List, length, Ok, vec_len, vec_capacity}
use Rattle.pldm_message.{specs.Messages.{ResponseMessage}, specs.Pdrs.{Part}}
use Rattle.pdr_repository.{specs.Faults.{IsLast}, specs.Walkers.{IsAnswerIn}, specs.declared.walker.Walker.{Walker}}

-- There is room for a record more, and in the record under way for as many bytes as are asked for.
abbrev pub HasRoom : Walker → Type 0
HasRoom w =
    (vec_len w.collected.records < vec_capacity w.collected.records)
    × (vec_len w.under_way + w.count ≤ vec_capacity w.under_way)

-- The part is no longer than asked for. The record under way has no room for its bytes, or the part is a last one and
-- the list has no room for a record more.
abbrev pub LacksRoom : Walker → Part → Type 0
LacksRoom w p =
    (length p.bytes ≤ w.count)
    × ((vec_capacity w.under_way < vec_len w.under_way + length p.bytes)
    ⊎ (IsLast p × (vec_capacity w.collected.records ≤ vec_len w.collected.records)))

-- the bytes are an answer with a part that lacks room
abbrev pub BringsTooMuch : Walker → List ℕ → Type 0
BringsTooMuch w bytes =
    (m : ResponseMessage Part) × (p : Part) × IsAnswerIn bytes m × (m.outcome ≡ Ok p) × LacksRoom w p
