-- Why rows make no routing table (the order of the causes is this project's own).
use Rattle.std.specs.Prelude.{◌≡◌, ℕ, List, take, Option, Some, None, slice_get, All, codes}
use Rattle.mctp_routing.{specs.declared.row.TableRow.{TableRow}, specs.declared.table_fault.TableFault.{TableFault}, specs.declared.table_fault.TableFault.TheVariants.{Empty, Outside, Overlap, Memory}, specs.Rows.{IsEmpty, IsOutside, AreApart, AreLawful}}

-- there is a row at this index, and this is true of it
abbrev pub IsAt : List TableRow → ℕ → (TableRow → Type 0) → Type 0
IsAt rows index P = (row : TableRow) × (slice_get rows index ≡ Some row) × P row

-- the rows before this index are lawful, and this is true of the one there
abbrev pub IsFirstAt : List TableRow → ℕ → (TableRow → Type 0) → Type 0
IsFirstAt rows index P = AreLawful (take index rows) × IsAt rows index P

-- of these rows the one at this index is the first that shares an EID with the row
abbrev pub IsFirstOverlap : List TableRow → TableRow → ℕ → Type 0
IsFirstOverlap rows row index = IsAt rows index (λ other. ¬ AreApart row other) × All (AreApart row) (take index rows)

-- The first row that is not lawful or shares an EID with an earlier one, and its first cause. Out of memory is told of
-- lawful rows only.
abbrev pub IsFirstFault : List TableRow → TableFault → Type 0
IsFirstFault rows (Empty index) = IsFirstAt rows index IsEmpty
IsFirstFault rows (Outside index) = IsFirstAt rows index (λ row. ¬ IsEmpty row × IsOutside row)
IsFirstFault rows (Overlap index earlier) =
    IsFirstAt rows index (λ row. ¬ IsEmpty row × ¬ IsOutside row × IsFirstOverlap (take index rows) row earlier)
IsFirstFault rows Memory = AreLawful rows

-- the code that users see; out of memory has none
abbrev pub table_code : TableFault → Option (List ℕ)
table_code (Empty index) = Some (codes "B01")
table_code (Outside index) = Some (codes "B02")
table_code (Overlap index earlier) = Some (codes "B03")
table_code Memory = None
