-- The entries so far, and one more.
use Rattle.std.{proofs.Common.{◌≡◌, ℕ, ◌+◌, ◌<◌, ◌≤◌, List, [], ◌∷◌, ◌++◌, length, get_or, take, drop, ap, sym, ◌∙◌, append-nil, length-append, arith}, proofs.lemmas.List.{map-append, take_more, take-append-drop}, proofs.lemmas.Grind.{flat_map-append}}
use Rattle.mctp_control.{specs.RouteEntries.{entry_value, entry_bytes}, specs.EntryLists.{entries_bytes, values_of}, specs.declared.route_entry.RouteEntry.{RouteEntry}}

-- the bytes of one entry more
pub bytes_more : (es : List RouteEntry) (i : ℕ) (e : RouteEntry) → i < length es → e ≡ get_or es i e
    → entries_bytes (values_of (take (i + 1) es)) ≡ entries_bytes (values_of (take i es)) ++ entry_bytes (entry_value e)
bytes_more es i e h s =
    ap (λ x. entries_bytes (values_of x)) (take_more es i e h ∙ ap (λ x. take i es ++ x ∷ []) (sym s))
    ∙ ap entries_bytes (map-append entry_value (take i es) (e ∷ []))
    ∙ flat_map-append entry_bytes (values_of (take i es)) (entry_value e ∷ [])
    ∙ ap (λ x. entries_bytes (values_of (take i es)) ++ x) (append-nil (entry_bytes (entry_value e)))

-- the bytes of the first entries, and then those of the others
pub bytes_split : (es : List RouteEntry) (n : ℕ)
    → entries_bytes (values_of es) ≡ entries_bytes (values_of (take n es)) ++ entries_bytes (values_of (drop n es))
bytes_split es n =
    sym (ap (λ x. entries_bytes (values_of x)) (take-append-drop n es))
    ∙ ap entries_bytes (map-append entry_value (take n es) (drop n es))
    ∙ flat_map-append entry_bytes (values_of (take n es)) (values_of (drop n es))

-- the first entries and one more have no more bytes than all
pub bytes_below : (es : List RouteEntry) (i : ℕ) (e : RouteEntry) → i < length es → e ≡ get_or es i e
    → length (entries_bytes (values_of (take i es))) + length (entry_bytes (entry_value e)) ≤ length (entries_bytes (values_of es))
bytes_below es i e h s =
    let a = ap length (bytes_split es (i + 1)) ∙ length-append (entries_bytes (values_of (take (i + 1) es))) _ in
    let b = ap length (bytes_more es i e h s) ∙ length-append (entries_bytes (values_of (take i es))) (entry_bytes (entry_value e)) in
    omega (arith, a, b)
