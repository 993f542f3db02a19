-- The lines of fields, with one more at their end.
use Rattle.std.{proofs.Common.{◌≡◌, ◌+◌, ◌<◌, List, ℕ, [], ◌∷◌, ◌++◌, length, map, take, get_or, refl, sym, ap, ◌∙◌, arith}, proofs.lemmas.List.{append_assoc, append-nil, map_more}, proofs.lemmas.Option.{slice_get-get_or}, specs.Prelude.{slice_get, Some}}
use Rattle.record_fields.{specs.declared.held.NamedField.{NamedField}, specs.Meanings.{named_of}, specs.Named.{Named}, specs.Texts.{IsFieldLine, AreFieldLines}}

pub one_line_more : (fields : List Named) (field : Named) (text line : List ℕ) → AreFieldLines fields text → IsFieldLine field line
    → AreFieldLines (fields ++ field ∷ []) (text ++ line)
one_line_more [] field text line told more = (line, [], more, refl, ap (λ t. t ++ line) told ∙ sym (append-nil line))
one_line_more (f ∷ fs) field text line (first, rest, is, are, made) more =
    (first, rest ++ line, is, one_line_more fs field rest line are more, ap (λ t. t ++ line) made ∙ append_assoc first rest line)

-- the line of the next field
pub next_line : (fields : List NamedField) (i : ℕ) (text line : List ℕ) → i < length fields → AreFieldLines (map named_of (take i fields)) text
    → ((field : NamedField) → slice_get fields i ≡ Some field → IsFieldLine (named_of field) line)
    → AreFieldLines (map named_of (take (i + 1) fields)) (text ++ line)
next_line [] i text line within told more = absurd (omega (arith, within))
next_line (f ∷ fs) i text line within told more =
    let field = get_or (f ∷ fs) i f in
    rw (map_more named_of (f ∷ fs) i f within)
    (one_line_more (map named_of (take i (f ∷ fs))) (named_of field) text line told (more field (slice_get-get_or (f ∷ fs) i f within)))
