-- One answer about a record more.
use Rattle.std.{proofs.Common.{◌≡◌, ℕ, ◌<◌, ◌+◌, List, [], ◌∷◌, ◌++◌, length, sym, subst, map, take, get_or}, specs.Prelude.{option_to_list}}
use Rattle.audited_captures.{specs.Words.{word_value}, specs.declared.words.Word.{Word}, specs.RecordParts.{RecordPartValue, record_part_of, AreRecordParts, More}, proofs.WordLaws.{mapped_more}}

-- the next word of a list
pub next_part : (eid : ℕ) (items : List Word) (i : ℕ) (item : Word) (old new : List RecordPartValue) → i < length items → item ≡ get_or items i item
    → AreRecordParts eid (map word_value (take i items)) old → new ≡ old ++ option_to_list (record_part_of eid (map word_value (take i items)) (word_value item))
    → AreRecordParts eid (map word_value (take (i + 1) items)) new
next_part eid items i item old new within is are more =
    subst (λ ws. AreRecordParts eid ws new) (sym (mapped_more word_value items i item within is))
    (subst (λ ps. AreRecordParts eid (map word_value (take i items) ++ word_value item ∷ []) ps) (sym more) (More (map word_value (take i items)) old (word_value item) are))
