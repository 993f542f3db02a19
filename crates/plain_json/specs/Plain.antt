-- Texts in which nothing is unusual.
use Rattle.std.{specs.Prelude.{◌≡◌, ◌⊎◌, ℕ, List, ◌∷◌, ◌++◌, Bool, true, not, ◌&&◌, ◌==◌, nat_lt, nat_le}, specs.List.{list_all}, specs.Char.{is_ascii_digit}, specs.Str.Parse.{IsNumeral, digits_value_after, digits_value}}
use Rattle.json.{specs.Token.{Token, number}, specs.Lex.{token, lex, between, fresh, after_value, may_begin, punctuate}}
use Rattle.plain_json.{specs.declared.reader.Place.{Place}, specs.declared.reader.Place.TheVariants.{Fresh, AfterValue}}
use Rattle.json.specs.Lex as spec

-- a byte of ASCII that stands for itself in a string
abbrev pub is_plain : ℕ → Bool
is_plain x = nat_le 32 x && nat_lt x 128 && not (x == 34) && not (x == 92)

-- a comma, or what closes an object or an array
abbrev pub IsEnd : ℕ → Type 0
IsEnd x = (x ≡ 44) ⊎ ((x ≡ 125) ⊎ (x ≡ 93))

-- the text begins with digits, the number of these behind the first is this one, and it goes on with the rest
abbrev pub DigitsFollow : ℕ → List ℕ → ℕ → List ℕ → Type 0
DigitsFollow first text n rest =
    (s : List ℕ) × (list_all is_ascii_digit s ≡ true) × (digits_value_after 10 first s ≡ n) × (text ≡ s ++ rest)

-- the text begins with the digits s of this number, and goes on with the rest
abbrev pub IsNumberAt : List ℕ → ℕ → List ℕ → Type 0
IsNumberAt text n rest =
    (s : List ℕ) × IsNumeral 10 s × (digits_value 10 s ≡ n) × (text ≡ s ++ rest)
    × (lex between text ≡ token (number s) ∷ lex between rest)

-- the tokens begin with this number, in digits alone, and go on with these
abbrev pub IsNextNumber : List Token → ℕ → List Token → Type 0
IsNextNumber old n new = (s : List ℕ) × IsNumeral 10 s × (digits_value 10 s ≡ n) × (old ≡ number s ∷ new)

-- the tokens of what is left
abbrev pub tokens_at : Place → List ℕ → List Token
tokens_at Fresh text = punctuate fresh (lex between text)
tokens_at AfterValue text = punctuate after_value (lex between text)

-- the tokens are those of a text at whose front a value or a key may begin
abbrev pub BeginAt : List Token → List ℕ → Type 0
BeginAt ts text = (p : spec.Place) × (may_begin p ≡ true) × (ts ≡ punctuate p (lex between text))
