-- Reading entries one after another.
use Rattle.std.{proofs.Common.{◌≡◌, ℕ, suc, ◌+◌, ◌*◌, ◌<◌, ◌≤◌, List, [], ◌∷◌, ◌++◌, length, refl, sym, ◌∙◌, ap, append_assoc, append-nil, length-append, arith}, specs.List.{AllByRecursion}, proofs.lemmas.List.{map-append}, proofs.lemmas.Grind.{flat_map-append}}
use Rattle.mctp_control.{specs.RouteEntries.{EntryValue, IsEntry, entry_value, entry_bytes}, specs.EntryLists.{SpellsEntries, entries_bytes, values_of}, specs.declared.route_entry.RouteEntry.{RouteEntry}}

-- So many of count entries are read off the bytes, and the rest is left.
pub record HasRead (bytes : List ℕ) (count i : ℕ) (items : List RouteEntry) (rest : List ℕ) : Type 0 where
  pub counted : length items ≡ i
  pub each : AllByRecursion IsEntry (values_of items)
  pub read : bytes ≡ entries_bytes (values_of items) ++ rest
  -- whatever entries the bytes are, those that are left are the rest
  pub left : (es : List EntryValue) → SpellsEntries es bytes → length es ≡ count
      → (more : List EntryValue) × SpellsEntries more rest × (es ≡ values_of items ++ more)

-- an entry has at least six bytes
pub six_each : (es : List EntryValue) → 6 * length es ≤ length (entries_bytes es)
six_each [] = omega arith
six_each (e ∷ es) = rw (length-append (entry_bytes e) (entries_bytes es)) (omega (arith, six_each es))

pub each_more : (es : List EntryValue) (e : EntryValue) → AllByRecursion IsEntry es → IsEntry e → AllByRecursion IsEntry (es ++ e ∷ [])
each_more [] e a h = (h, tt)
each_more (x ∷ es) e a h = (a.0, each_more es e a.1 h)

pub length_values : (es : List RouteEntry) → length (values_of es) ≡ length es
length_values [] = refl
length_values (e ∷ es) = ap suc (length_values es)

-- there is room for one more
pub has_room : (bytes : List ℕ) (count i : ℕ) (items : List RouteEntry) (rest : List ℕ) (e : RouteEntry) (after : List ℕ)
    → HasRead bytes count i items rest → rest ≡ entry_bytes (entry_value e) ++ after → length bytes ≤ 58 → length items < 9
has_room bytes count i items rest e after h r small =
    let a = six_each (values_of items) in
    let b = length_values items in
    let c : length bytes ≡ length (entries_bytes (values_of items)) + length rest = ap length h.read ∙ length-append _ _ in
    let d : length rest ≡ length (entry_bytes (entry_value e)) + length after = ap length r ∙ length-append (entry_bytes (entry_value e)) after in
    omega arith

-- what an entry at the front of the rest is
abbrev pub IsFirst : RouteEntry → List ℕ → List ℕ → Type 0
IsFirst e after rest = (m : EntryValue) (more : List ℕ) → IsEntry m → rest ≡ entry_bytes m ++ more → (entry_value e ≡ m) × (after ≡ more)

-- the entries that are left begin with an entry that is wanted
next_left : (count i : ℕ) (items : List RouteEntry) (rest : List ℕ) (es more : List EntryValue) → length items ≡ i → i < count → length es ≡ count
    → SpellsEntries more rest → es ≡ values_of items ++ more
    → (m : EntryValue) × (ms : List EntryValue) × (more ≡ m ∷ ms) × IsEntry m × AllByRecursion IsEntry ms × (rest ≡ entry_bytes m ++ entries_bytes ms)
next_left count i items rest es [] n l c s e =
    absurd (let a = ap length e ∙ length-append (values_of items) [] in omega (arith, a, length_values items))
next_left count i items rest es (m ∷ ms) n l c s e = (m, ms, refl, s.each.0, s.each.1, s.whole)

pub one_more : (bytes : List ℕ) (count i : ℕ) (items : List RouteEntry) (rest : List ℕ) (e : RouteEntry) (after : List ℕ) (new : List RouteEntry)
    → HasRead bytes count i items rest → i < count → IsEntry (entry_value e) → rest ≡ entry_bytes (entry_value e) ++ after → IsFirst e after rest
    → new ≡ items ++ e ∷ [] → HasRead bytes count (i + 1) new after
one_more bytes count i items rest e after new h l lawful r only n = rw n (record {
  counted = length-append items (e ∷ []) ∙ ap (λ k. k + 1) h.counted;
  each = rw (map-append entry_value items (e ∷ [])) (each_more (values_of items) (entry_value e) h.each lawful);
  read = h.read ∙ ap (λ x. entries_bytes (values_of items) ++ x) r
      ∙ sym (ap (λ x. x ++ after) (ap entries_bytes (map-append entry_value items (e ∷ [])) ∙ flat_map-append entry_bytes (values_of items) (entry_value e ∷ [])
      ∙ ap (λ x. entries_bytes (values_of items) ++ x) (append-nil (entry_bytes (entry_value e))))
      ∙ append_assoc (entries_bytes (values_of items)) (entry_bytes (entry_value e)) after);
  left = λ es s c.
      let w = h.left es s c in
      let f = next_left count i items rest es w.0 h.counted l c w.1 w.2 in
      let g = only f.0 (entries_bytes f.1) f.3 f.5 in (
        f.1,
        record { each = f.4; whole = g.1 },
        w.2 ∙ ap (λ x. values_of items ++ x) f.2 ∙ ap (λ x. values_of items ++ x ∷ f.1) (sym g.0)
            ∙ sym (ap (λ x. x ++ f.1) (map-append entry_value items (e ∷ [])) ∙ append_assoc (values_of items) (entry_value e ∷ []) f.1),
      );
})

-- where an entry is wanted, the rest begins with one
pub must_follow : (bytes : List ℕ) (count i : ℕ) (items : List RouteEntry) (rest : List ℕ) → HasRead bytes count i items rest → i < count
    → ((m : EntryValue) (more : List ℕ) → IsEntry m → rest ≡ entry_bytes m ++ more → ⊥)
    → (es : List EntryValue) → SpellsEntries es bytes → length es ≡ count → ⊥
must_follow bytes count i items rest h l never es s c =
    let w = h.left es s c in
    let f = next_left count i items rest es w.0 h.counted l c w.1 w.2 in
    never f.0 (entries_bytes f.1) f.3 f.5
