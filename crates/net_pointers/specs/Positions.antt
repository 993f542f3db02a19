-- Lines and columns.
use Rattle.std.{specs.Prelude.{ℕ, List, [], ◌∷◌, ◌||◌, ◌==◌, Bool, nat_lt, nat_le, if◌then◌else◌}, specs.List.{list_any}}

-- a line feed
abbrev pub is_line_feed : ℕ → Bool
is_line_feed b = b == 10

-- the first byte of a character of UTF-8, or its only one
abbrev pub begins_character : ℕ → Bool
begins_character b = nat_lt b 128 || nat_le 192 b

-- the bytes after the last line feed
abbrev pub last_line : List ℕ → List ℕ
last_line [] = []
last_line (b ∷ bs) = if list_any is_line_feed (b ∷ bs) then last_line bs else b ∷ bs
