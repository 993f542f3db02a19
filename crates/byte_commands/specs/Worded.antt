-- What the end of `describe` and of `record` says of the words that they were given.
use Rattle.std.{specs.Prelude.{◌≡◌, ◌⊎◌, ℕ, List, [], ◌∷◌, ◌++◌, codes, nat_eq, ◌&&◌, if◌then◌else◌}, specs.List.{flat_map}}
use Rattle.hex.specs.Hex.{encode_lower}
use Rattle.pdr_record.{specs.declared.record_error.RecordError.{RecordError}, specs.Codes.{code_of}, specs.Faults.{IsFault}, specs.Records.{RecordValue, Spelled}}
use Rattle.record_fields.{specs.Named.{named_fields}, specs.Said.{IsRecordOfWords}, specs.Texts.{AreFieldLines}}
use Rattle.command_questions.specs.declared.words.WordQuestion.{WordQuestion}
use Rattle.command_answers.{specs.declared.refused.Refused.{Refused}, specs.declared.status.Status.{Status}}
use Rattle.byte_commands.specs.Show.{IsDecoded, IsNoHex}
use Rattle.plan_texts.specs.Shown.{refused_bytes}
use Rattle.command_questions.specs.declared.words.WordQuestion.TheVariants as question
use Rattle.command_answers.specs.declared.refused.Refused.TheVariants as refused
use Rattle.command_answers.specs.declared.status.Status.TheVariants as status

-- ---- describe

-- the text without spaces, and without each 0x
abbrev pub cleaned : List ℕ → List ℕ
cleaned [] = []
cleaned (c ∷ []) = if nat_eq c 32 then [] else (c ∷ [])
cleaned (c ∷ d ∷ rest) = if nat_eq c 32 then cleaned (d ∷ rest)
    else if (nat_eq c 48 && nat_eq d 120) then cleaned rest else (c ∷ cleaned (d ∷ rest))

-- the hex of all words
abbrev pub hex_of : List (List ℕ) → List ℕ
hex_of words = flat_map cleaned words

-- the text has a line for each field of the record that the bytes are, or the code of the cause for which they are none
abbrev pub IsDescribed : Status → List ℕ → List ℕ → Type 0
IsDescribed status.Yes bytes text = (r : RecordValue) × Spelled r bytes × AreFieldLines (named_fields r) text
IsDescribed status.Fault bytes text = (e : RecordError) × IsFault e bytes × (text ≡ refused_bytes (code_of e))
IsDescribed status.Unreadable bytes text = ⊥
IsDescribed status.NoMemory bytes text = ⊥

-- so it is of the bytes whose hex the words are
abbrev pub Describes : List (List ℕ) → Status → List ℕ → Type 0
Describes words ended text = (bytes : List ℕ) × IsDecoded (hex_of words) bytes × IsDescribed ended bytes text

-- ---- record

-- bytes in hex, in a line
abbrev pub hex_line : List ℕ → List ℕ
hex_line bytes = encode_lower bytes ++ codes "\n"

-- the text is the hex of a record of the type that the first word names, of whose fields the others say what they hold
abbrev pub IsRecordText : List (List ℕ) → List ℕ → Type 0
IsRecordText words text = (type : List ℕ) × (said : List (List ℕ)) × (bytes : List ℕ) × (words ≡ type ∷ said)
    × IsRecordOfWords type said bytes × (text ≡ hex_line bytes)

abbrev pub Records : List (List ℕ) → Status → List ℕ → Type 0
Records words status.Yes text = IsRecordText words text
Records words _ text = ⊥

-- ---- both

-- the text answers the question, in a run that ends so
abbrev pub AnswersWords : WordQuestion → List (List ℕ) → Status → List ℕ → Type 0
AnswersWords question.Describe words ended text = Describes words ended text
AnswersWords question.Record words ended text = Records words ended text

-- why there is no answer: memory is wanting; or the words are no hex; or of `record` they are refused
abbrev pub IsUnansweredByWords : WordQuestion → List (List ℕ) → Refused → Type 0
IsUnansweredByWords question.Describe words why =
    (why ≡ refused.NoMemory) ⊎ ((why ≡ refused.UnreadableHex) × IsNoHex (hex_of words))
IsUnansweredByWords question.Record words why = (why ≡ refused.NoMemory) ⊎ (why ≡ refused.Usage)
