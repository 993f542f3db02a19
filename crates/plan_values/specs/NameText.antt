-- How a name is spelled.
use Rattle.std.{specs.Prelude.{ℕ, ◌&&◌, ◌||◌, ◌==◌, Bool, List, length, nat_le}, specs.List.{list_all}}

-- an ASCII letter or digit, `-`, `.` or `_`
abbrev pub is_name_byte : ℕ → Bool
is_name_byte b =
    (nat_le 48 b && nat_le b 57) || (nat_le 65 b && nat_le b 90) || (nat_le 97 b && nat_le b 122) || (b == 45)
    || (b == 46) || (b == 95)

abbrev pub has_name_length : List ℕ → Bool
has_name_length s = nat_le 1 (length s) && nat_le (length s) 32

abbrev pub is_name : List ℕ → Bool
is_name s = has_name_length s && list_all is_name_byte s
