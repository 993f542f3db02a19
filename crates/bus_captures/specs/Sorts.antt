-- What the bytes of a text capture may be, and where they stand.
use Rattle.std.{specs.Prelude.{ℕ, ◌==◌, ◌||◌, ◌&&◌, Bool, not, nat_le, List, reverse}, specs.List.{position_or_len}}
use Rattle.bus_captures.specs.declared.sort.Sort.{Sort}
use Rattle.bus_captures.specs.declared.sort.Sort.TheVariants as sort

-- a blank, a tab, or the carriage return at the end of a line
abbrev pub is_space : ℕ → Bool
is_space b = (b == 32) || (b == 9) || (b == 13)

abbrev pub is_decimal : ℕ → Bool
is_decimal b = nat_le 48 b && nat_le b 57

-- whether a byte is of a sort
abbrev pub is_of : Sort → ℕ → Bool
is_of sort.LineEnd b = b == 10
is_of sort.Hash b = b == 35
is_of sort.Colon b = b == 58
is_of sort.Space b = is_space b
is_of sort.NoSpace b = not (is_space b)
is_of sort.NoDecimal b = not (is_decimal b)

-- how many bytes stand before the first of the sort: all of them where there is none
abbrev pub before : Sort → List ℕ → ℕ
before s text = position_or_len (is_of s) text

-- how many bytes stand behind the last of the sort: all of them where there is none
abbrev pub behind : Sort → List ℕ → ℕ
behind s text = position_or_len (is_of s) (reverse text)
