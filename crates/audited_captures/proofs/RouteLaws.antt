-- One entry, and one reading, more.
use Rattle.std.{proofs.Common.{◌≡◌, ℕ, ◌<◌, ◌+◌, List, [], ◌∷◌, ◌++◌, length, ap, sym, ◌∙◌, get_or, map, drop, append_assoc}, specs.Prelude.{Some, slice_get, true, ◌==◌, if◌then◌else◌}, specs.Borrow.{Bor}, specs.List.{flat_map}, proofs.lemmas.List.{append-nil}, proofs.lemmas.Grind.{flat_map-append}, proofs.lemmas.Option.{same_Some, get_or_from_slice_get}}
use Rattle.net_tables.proofs.Elements.{element}
use Rattle.mctp_control.{specs.RouteEntries.{EntryValue, entry_value}, specs.declared.route_entry.RouteEntry.{RouteEntry}}
use Rattle.audited_captures.{specs.Lines.{LineValue}, specs.Readings.{Read, part_value, readings, begun_with, read_from}, specs.declared.readings.Part.{Part}, specs.Routes.{reading_lines, begun_lines, readings_lines, extra_lines, lines_if_extra}, specs.Turns.{entry_values}, proofs.WordLaws.{left_mapped}}

-- the reading that the first part begins
pub begun : (name : List ℕ) (planned : List EntryValue) (parts : List Part) (first : Part) (found : List EntryValue) → slice_get parts 0 ≡ Some first → first.handle ≡ 0
    → read_from first.requester.value 0 (map part_value parts) ≡ Read found → reading_lines name planned (Read found) ≡ begun_lines name planned (map part_value parts)
begun name planned [] first found is zero reads = cc
begun name planned (p ∷ ps) first found is zero reads =
    let same : p ≡ first = same_Some p first is in
    let at : (p.handle == 0) ≡ true = ap (λ (q : Part). q.handle == 0) same ∙ ap (λ n. n == 0) zero in
    let brings : read_from p.requester.value 0 (map part_value (p ∷ ps)) ≡ Read found = ap (λ (q : Part). read_from q.requester.value 0 (map part_value (p ∷ ps))) same ∙ reads in
    sym (ap (λ b. flat_map (reading_lines name planned) (if b then read_from p.requester.value 0 (map part_value (p ∷ ps)) ∷ [] else [])) at
    ∙ append-nil (reading_lines name planned (read_from p.requester.value 0 (map part_value (p ∷ ps))))
    ∙ ap (reading_lines name planned) brings)

-- one more place at which a reading may begin
pub next_begun : (name : List ℕ) (planned : List EntryValue) (parts : List Part) (i : ℕ) (old new more all : List LineValue) → i < length parts
    → all ≡ old ++ readings_lines name planned (readings (map part_value (drop i parts))) → more ≡ begun_lines name planned (map part_value (drop i parts)) → new ≡ old ++ more
    → all ≡ new ++ readings_lines name planned (readings (map part_value (drop (i + 1) parts)))
next_begun name planned parts i old new more all within before begins joined =
    let at = element parts i within in
    let part = at.0 in
    let left = left_mapped part_value parts i part within (sym (get_or_from_slice_get parts i part part at.1)) in
    let later = map part_value (drop (i + 1) parts) in
    let rest = readings_lines name planned (readings later) in
    let split : readings_lines name planned (readings (map part_value (drop i parts))) ≡ more ++ rest =
    ap (λ ps. readings_lines name planned (readings ps)) left
    ∙ flat_map-append (reading_lines name planned) (begun_with (part_value part) later) (readings later)
    ∙ ap (λ ls. ls ++ rest) (sym (begins ∙ ap (begun_lines name planned) left)) in
    before ∙ ap (λ ls. old ++ ls) split ∙ sym (append_assoc old more rest) ∙ ap (λ ls. ls ++ rest) (sym joined)

-- one entry more
pub next_extra : (name : List ℕ) (planned : List EntryValue) (found : List (Bor RouteEntry)) (i : ℕ) (f : Bor RouteEntry) (old new all : List LineValue) → i < length found → f ≡ get_or found i f
    → all ≡ old ++ extra_lines name planned (entry_values (drop i found)) → new ≡ old ++ lines_if_extra name planned (entry_value f.now) (entry_values (drop (i + 1) found))
    → all ≡ new ++ extra_lines name planned (entry_values (drop (i + 1) found))
next_extra name planned found i f old new all within is before added =
    let left = left_mapped (λ (e : Bor RouteEntry). entry_value e.now) found i f within is in
    let rest = extra_lines name planned (entry_values (drop (i + 1) found)) in
    before ∙ ap (λ es. old ++ extra_lines name planned es) left
    ∙ sym (append_assoc old (lines_if_extra name planned (entry_value f.now) (entry_values (drop (i + 1) found))) rest) ∙ ap (λ ls. ls ++ rest) (sym added)
