-- The record that a request means, found, and where the part begins that is answered from it.
use Rattle.std.specs.Prelude.{◌≡◌, ℕ, ◌+◌, List, Option, Result, Ok, Err, MatchOption}
use Rattle.mctp_transport.specs.First.{First}
use Rattle.pldm_message.specs.Pdrs.{PartRequest}
use Rattle.pdr_repository.{specs.Records.{Entry, IsMeant, Means, handle_at}, specs.Parts.{HasChange, IsWithin, offset_of}}

-- the handle means the record of these bytes, after which the one of the handle `next` stands
abbrev pub IsFound : List Entry → ℕ → ℕ → List ℕ → Type 0
IsFound records handle next bytes =
    (place : ℕ) × (e : Entry) × Means records handle place e × (next ≡ handle_at records (place + 1))
    × (bytes ≡ e.bytes)

-- a handle and the record that was found, if it means one
abbrev pub Finds : List Entry → ℕ → Option (ℕ × List ℕ) → Type 0
Finds records handle found = MatchOption found (¬ IsMeant records handle) (λ f. IsFound records handle f.0 f.1)

-- where in the record the part begins that is asked for, or why it is not given
abbrev pub BeginsAt : PartRequest → List ℕ → Result ℕ ℕ → Type 0
BeginsAt r bytes offset =
    First (¬ HasChange r bytes) (offset ≡ Err 0x83)
    (First (¬ IsWithin r bytes) (offset ≡ Err 0x80)
    (offset ≡ Ok (offset_of r)))
