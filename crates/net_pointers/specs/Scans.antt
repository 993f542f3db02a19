-- Where in a JSON text its tokens begin.
use Rattle.std.specs.Prelude.{◌≡◌, ◌≢◌, ◌==◌, ◌||◌, not, ℕ, Bool, false, cond, List, ◌∷◌, ◌++◌, length, Option, Some, None}
use Rattle.json.{specs.Lex.{Mode, between, in_word, in_string, in_escape}, specs.Token.{Token}}
use Rattle.net_pointers.{specs.Offsets.{is_mark}, specs.declared.scan.Mode.{Mode as Within}, specs.declared.scan.Mode.TheVariants.{Between, InWord, InString, InEscape}}

abbrev pub is_bracket : ℕ → Bool
is_bracket b = b == 91 || b == 93 || b == 123 || b == 125

abbrev pub lexed : Within → Mode
lexed Between = between
lexed InWord = in_word
lexed InString = in_string
lexed InEscape = in_escape

-- a token begins with the byte
abbrev pub begins_token : Mode → ℕ → Bool
begins_token between b = not (is_mark b)
begins_token in_word b = is_bracket b
begins_token in_string b = false
begins_token in_escape b = false

-- within what the next byte stands
abbrev pub mode_after : Mode → ℕ → Mode
mode_after between b = cond (b == 34) in_string (cond (is_mark b || is_bracket b) between in_word)
mode_after in_word b = cond (is_mark b || is_bracket b) between in_word
mode_after in_string b = cond (b == 34) between (cond (b == 92) in_escape in_string)
mode_after in_escape b = in_string

-- the list ends with these tokens
abbrev pub Ends : List Token → List Token → Type 0
Ends ts us = (pre : List Token) × (ts ≡ pre ++ us)

-- so many tokens are left, the first of which doesn't say that the text is no JSON; or there are none such
abbrev pub AreLeft : Option (List Token) → Option ℕ → Type 0
AreLeft o None = (t : Token) (us : List Token) → o ≡ Some (t ∷ us) → t ≢ Token.bad → ⊥
AreLeft o (Some n) = (t : Token) × (us : List Token) × (o ≡ Some (t ∷ us)) × (t ≢ Token.bad) × (n ≡ length (t ∷ us))
