-- What one entry adds to the refused ones before it.
use Rattle.std.specs.Prelude.{◌≡◌, ◌⊎◌, ℕ, List, [], ◌∷◌, ◌++◌}
use Rattle.bus_captures.specs.Values.{EntryValue}
use Rattle.audited_captures.{specs.Refusals.{IsRefused, IsNotRefused, refusal}, specs.declared.refusals.Cause.{Cause}, specs.declared.refusals.Refusal.{Refusal}}

-- an entry of this number was added, if it is refused
abbrev pub AddsRefusal : (unit number : ℕ) → EntryValue → List Refusal → List Refusal → Type 0
AddsRefusal unit number e old new =
    (IsNotRefused unit e × (new ≡ old))
    ⊎ ((why : Cause) × IsRefused unit e why × (new ≡ old ++ refusal number why ∷ []))
