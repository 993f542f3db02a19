-- What words say of a record's fields.
use Rattle.std.{specs.Prelude.{◌≡◌, ◌⊎◌, ℕ, List, ◌++◌, map, codes, All, Contains, Some, Float, to_bits}, specs.Char.{to_ascii_lowercase}, specs.Float.{binary32}, specs.Float.Parse.{parse_float}, specs.Str.Parse.{digits_value, without_leading_plus}}
use Rattle.pdr_record.specs.Records.{RecordValue, Spelled, type_of}
use Rattle.record_fields.{specs.Named.{Number, Sized, Named, named_fields}, specs.Texts.{field_text, hexadecimal}}

-- both are one word, in letters of either case
abbrev pub IsOneWord : List ℕ → List ℕ → Type 0
IsOneWord a b = map to_ascii_lowercase a ≡ map to_ascii_lowercase b

-- the word is the field's name, a sign of equality and what it holds
abbrev pub SaysField : List ℕ → Named → Type 0
SaysField word field = IsOneWord word (field_text (codes "=") field)

-- the same with the number in hexadecimal digits
abbrev pub SaysHexadecimal : List ℕ → Named → Type 0
SaysHexadecimal word field = (n : ℕ) × (field.held ≡ Number n)
    × IsOneWord word (field.name ++ (codes "=" ++ hexadecimal n))

-- n has the bits (IEEE 754) of the number of 32 bits that is nearest to the decimal number that the text writes
abbrev pub IsDecimalReal : List ℕ → ℕ → Type 0
IsDecimalReal text n = (x : Float) × (parse_float binary32 text ≡ Some x) × (n ≡ to_bits binary32 x)

-- the text writes n in hexadecimal digits behind 0x, with zeros before them or without
abbrev pub IsHexadecimalReal : List ℕ → ℕ → Type 0
IsHexadecimalReal text n =
    (digits : List ℕ) × (text ≡ codes "0x" ++ digits) × (n ≡ digits_value 16 (without_leading_plus digits))

-- the text writes the real number of 32 bits whose bits n has: in decimal digits, or its bits
abbrev pub IsReal : List ℕ → ℕ → Type 0
IsReal text n = IsDecimalReal text n ⊎ IsHexadecimalReal text n

-- the field holds a real number, and the word is its name, a sign of equality and a text that writes this number
abbrev pub SaysReal : List ℕ → Named → Type 0
SaysReal word field = (n : ℕ) × (text : List ℕ) × (field.held ≡ Sized 6 n)
    × IsOneWord word (field.name ++ (codes "=" ++ text)) × IsReal text n

-- the word says what the field holds
abbrev pub Says : List ℕ → Named → Type 0
Says word field = SaysField word field ⊎ SaysHexadecimal word field ⊎ SaysReal word field

-- the word says what one of the fields holds
abbrev pub IsSaidOf : List Named → List ℕ → Type 0
IsSaidOf fields word = (field : Named) × Contains fields field × Says word field

-- the word is the name of a type of records
abbrev pub IsTypeWord : List ℕ → ℕ → Type 0
IsTypeWord word number = ((word ≡ codes "terminus-locator") × (number ≡ 1))
    ⊎ ((word ≡ codes "numeric-sensor") × (number ≡ 2)) ⊎ ((word ≡ codes "state-sensor") × (number ≡ 4))
    ⊎ ((word ≡ codes "entity-association") × (number ≡ 15)) ⊎ (word ≡ codes "other")

-- The bytes are a record's of the type that the word names, and each of the other words says what one of its fields
-- holds.
pub record IsRecordOfWords (type : List ℕ) (words : List (List ℕ)) (bytes : List ℕ) : Type 0 where
  pub whole : RecordValue
  pub spelled : Spelled whole bytes
  pub type_is : IsTypeWord type (type_of whole.body)
  pub said : All (IsSaidOf (named_fields whole)) words
