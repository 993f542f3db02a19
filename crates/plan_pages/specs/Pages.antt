-- How a text stands in HTML, and which verdict a page tells.
use Rattle.std.{specs.Prelude.{◌≡◌, ℕ, List, [], ◌∷◌, ◌++◌, ◌==◌, chars, codes, encode_utf8_all, if◌then◌else◌}, specs.List.{flat_map}}

-- a character, or its reference: `&`, `<`, `>` and `"` have one
abbrev pub escaped_char : ℕ → List ℕ
escaped_char c = if c == 38 then codes "&amp;" else if c == 60 then codes "&lt;" else if c == 62 then codes "&gt;"
    else if c == 34 then codes "&quot;" else c ∷ []

-- a text as it stands in HTML
abbrev pub escaped : List ℕ → List ℕ
escaped text = encode_utf8_all (flat_map escaped_char (chars text))

-- the paragraph of a verdict, which is of the class `yes` or `no`
abbrev pub verdict_text : (class verdict : List ℕ) → List ℕ
verdict_text class verdict =
    codes "<p class=\"verdict " ++ (class ++ (codes "\">" ++ (escaped verdict ++ codes "</p>\n")))

-- the page has this paragraph, whatever else stands on it
abbrev pub TellsVerdict : (class verdict page : List ℕ) → Type 0
TellsVerdict class verdict page =
    (before after : List ℕ) × (page ≡ before ++ (verdict_text class verdict ++ after))
