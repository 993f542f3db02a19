-- How a Linux network device is named.
use Rattle.std.specs.Prelude.{ℕ, ◌&&◌, Bool, List, length, nat_le}
use Rattle.plan_values.specs.NameText.{is_name}

-- a name of at most 15 bytes, as those of buses are spelled
abbrev pub is_device : List ℕ → Bool
is_device s = nat_le (length s) 15 && is_name s
