-- The place of the record that a handle means.
use Rattle.std.{proofs.Common.{◌≡◌, ℕ, List, slice_get, Some, option_map, ap, ◌∙◌}, specs.Prelude.{Vec}, proofs.lemmas.Option.{slice_get-map}}
use Rattle.pdr_repository.specs.Records.{Entry, entries, entry_of, bytes_by_place}

-- what stands at a place is the entry there
pub entry_there : {Z : Type 0} (records : List (ℕ × Vec ℕ Z)) (k : ℕ) (x : ℕ × Vec ℕ Z) → slice_get records k ≡ Some x → slice_get (entries records) k ≡ Some (entry_of x)
entry_there records k x here = slice_get-map entry_of records k ∙ ap (option_map entry_of) here

-- the bytes of the entry at a place
pub bytes_there : (records : List Entry) (place : ℕ) (e : Entry) → slice_get records place ≡ Some e → slice_get (bytes_by_place records) place ≡ Some e.bytes
bytes_there records place e here = slice_get-map (λ (f : Entry). f.bytes) records place ∙ ap (option_map (λ (f : Entry). f.bytes)) here
