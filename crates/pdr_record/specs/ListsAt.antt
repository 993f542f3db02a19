-- Lists that stand at the front of bytes.
use Rattle.std.specs.Prelude.{ℕ, zero, suc, ◌+◌, nat_lt, if◌then◌else◌, List, [], ◌∷◌, length, take, drop, slice_index, Option, Some, None}
use Rattle.byteorder.specs.Endian.{little_number}
use Rattle.pdr_record.specs.Layouts.{EntityValue, StateSetValue}

-- the entity that stands in the first six bytes
abbrev pub entity_at : List ℕ → EntityValue
entity_at bytes =
    record {
      entity_type = little_number 2 bytes;
      instance_number = little_number 2 (drop 2 bytes);
      container_id = little_number 2 (drop 4 bytes);
    }

-- so many entities, one after the other
abbrev pub entities_of : ℕ → List ℕ → List EntityValue
entities_of zero bytes = []
entities_of (suc n) bytes = entity_at bytes ∷ entities_of n (drop 6 bytes)

-- the state set whose size is the third byte
abbrev pub state_set_at : List ℕ → StateSetValue
state_set_at bytes =
    record { state_set_id = little_number 2 bytes; possible_states = take (slice_index bytes 2) (drop 3 bytes) }

-- what follows it
abbrev pub after_state_set : List ℕ → List ℕ
after_state_set bytes = drop (slice_index bytes 2) (drop 3 bytes)

-- so many state sets, one after the other
abbrev pub state_sets_of : ℕ → List ℕ → List StateSetValue
state_sets_of zero bytes = []
state_sets_of (suc n) bytes = state_set_at bytes ∷ state_sets_of n (after_state_set bytes)

-- what follows so many state sets, where the bytes do not end before them
abbrev pub after_state_sets : ℕ → List ℕ → Option (List ℕ)
after_state_sets zero bytes = Some bytes
after_state_sets (suc n) bytes =
    if nat_lt (length bytes) (3 + slice_index bytes 2) then None else after_state_sets n (after_state_set bytes)
