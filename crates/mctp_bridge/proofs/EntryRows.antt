-- The entries of the rows up to an index, and of one row more.
use Rattle.std.{proofs.Common.{◌≡◌, ℕ, ◌+◌, ◌<◌, ◌≤◌, List, [], ◌∷◌, ◌++◌, length, get_or, take, ap, ◌∙◌, arith}, specs.List.{flat_map, zip}, proofs.lemmas.List.{take_more, take_all, append-nil}, proofs.lemmas.List.Concat.{flat_map-append}, proofs.lemmas.Slice.Zip.{length-zip, get_or-zip}}
use Rattle.mctp_control.specs.RouteEntries.{EntryValue}
use Rattle.mctp_routing.specs.declared.row.TableRow.{TableRow}
use Rattle.mctp_bridge.{specs.declared.routing_entries.Neighbor.{Neighbor}, specs.Entries.{row_entries, table_entries}}

-- the entries of the rows before an index
abbrev pub entries_before : List TableRow → List Neighbor → ℕ → List EntryValue
entries_before rows neighbors i = flat_map (λ p. row_entries p.0 p.1) (take i (zip rows neighbors))

pub entries_more : (rows : List TableRow) (neighbors : List Neighbor) (i : ℕ) (row : TableRow) (next : Neighbor) → length neighbors ≡ length rows → i < length rows
    → row ≡ get_or rows i row → next ≡ get_or neighbors i next → entries_before rows neighbors (i + 1) ≡ entries_before rows neighbors i ++ row_entries row next
entries_more rows neighbors i row next same lt is_row is_next =
    let in_both : i < length neighbors = omega arith in
    let long : i < length (zip rows neighbors) = omega (arith, length-zip rows neighbors) in
    let pair : get_or (zip rows neighbors) i (row, next) ≡ (row, next) = rw (get_or-zip rows neighbors i (row, next) lt in_both, ← is_row, ← is_next) in
    let f : TableRow × Neighbor → List EntryValue = λ p. row_entries p.0 p.1 in
    ap (flat_map f) (take_more (zip rows neighbors) i (row, next) long ∙ ap (λ p. take i (zip rows neighbors) ++ p ∷ []) pair)
    ∙ flat_map-append f (take i (zip rows neighbors)) ((row, next) ∷ [])
    ∙ ap (λ es. entries_before rows neighbors i ++ es) (append-nil (row_entries row next))

pub entries_all : (rows : List TableRow) (neighbors : List Neighbor) (i : ℕ) → length neighbors ≡ length rows → length rows ≤ i → entries_before rows neighbors i ≡ table_entries rows neighbors
entries_all rows neighbors i same all =
    let long : length (zip rows neighbors) ≤ i = omega (arith, length-zip rows neighbors) in
    ap (flat_map (λ p. row_entries p.0 p.1)) (take_all i (zip rows neighbors) long)
