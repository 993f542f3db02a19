-- How what a field holds is written, and the lines of a record's fields.
use Rattle.std.{specs.Prelude.{◌≡◌, ◌⊎◌, ℕ, ◌*◌, ◌-◌, nat_eq, nat_lt, if◌then◌else◌, List, [], ◌∷◌, ◌++◌, codes, false}, specs.Fmt.{decimal, digits}}
use Rattle.hex.specs.Hex.{encode_lower}
use Rattle.record_fields.specs.Named.{Holding, Number, Sized, Bytes, Set, Thing, Named}

-- a number in hexadecimal digits, behind 0x
abbrev pub hexadecimal : ℕ → List ℕ
hexadecimal n = codes "0x" ++ digits 16 false n

-- the number whose bits are two's complement, with the weight of its sign bit
abbrev pub signed_text : ℕ → ℕ → List ℕ
signed_text sign n = if nat_lt n sign then decimal n else (codes "-" ++ decimal (2 * sign - n))

-- a number of a data size: 1, 3 and 5 are signed, and of a real number the bits are written
abbrev pub sized_text : ℕ → ℕ → List ℕ
sized_text code n =
    if nat_eq code 1 then signed_text 128 n else if nat_eq code 3 then signed_text 32768 n
    else if nat_eq code 5 then signed_text 2147483648 n else if nat_eq code 6 then hexadecimal n else decimal n

-- what a field holds
abbrev pub holding_text : Holding → List ℕ
holding_text (Number n) = decimal n
holding_text (Sized code n) = sized_text code n
holding_text (Bytes bytes) = encode_lower bytes
holding_text (Set s) = decimal s.state_set_id ++ (codes ":" ++ encode_lower s.possible_states)
holding_text (Thing e) =
    decimal e.entity_type ++ (codes "/" ++ (decimal e.instance_number ++ (codes "/" ++ decimal e.container_id)))

-- ---- lines

-- a field's name and what it holds
abbrev pub field_text : List ℕ → Named → List ℕ
field_text between field = field.name ++ (between ++ holding_text field.held)

-- the line has the field's name and what it holds, and it may have words behind these
abbrev pub IsFieldLine : Named → List ℕ → Type 0
IsFieldLine field line = (line ≡ field_text (codes " ") field ++ codes "\n")
    ⊎ ((words : List ℕ) × (line ≡ field_text (codes " ") field ++ (codes " " ++ (words ++ codes "\n"))))

-- the text is a line for each field, in their order
abbrev pub AreFieldLines : List Named → List ℕ → Type 0
AreFieldLines [] text = text ≡ []
AreFieldLines (field ∷ fields) text =
    (line rest : List ℕ) × IsFieldLine field line × AreFieldLines fields rest × (text ≡ line ++ rest)
