-- What a state set of the code stands for.
use Rattle.std.{specs.Prelude.{ℕ, List, Option, Some, None}, specs.Borrow.{Bor}}
use Rattle.pdr_record.{specs.declared.state_sets.StateSet.{StateSet}, specs.Layouts.{StateSetValue}}

abbrev pub state_set_value : StateSet → StateSetValue
state_set_value s = record { state_set_id = s.state_set_id; possible_states = s.possible_states.now }

-- the bytes behind a reference, where there is one
abbrev pub bytes_after : Option (Bor (List ℕ)) → Option (List ℕ)
bytes_after (Some bytes) = Some bytes.now
bytes_after None = None
