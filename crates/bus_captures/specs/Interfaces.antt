-- Interfaces, as blocks of a file describe them.
use Rattle.std.specs.Prelude.{◌≡◌, ◌≤◌, ℕ, ◌-◌, ◌*◌, ◌/◌, ◌%◌, ◌^◌, nat_le, ◌&&◌, List, [], ◌∷◌, drop, length, Option, None, Some, if◌then◌else◌}
use Rattle.bus_captures.{specs.declared.format.Order.{Order}, specs.Numbers.{number_at, short_at}, specs.Options.{OptionValue, AreOptions, value_of}, specs.Values.{TimeValue, Unknown, At}}

-- The number of its link type, the most bytes that are kept of a packet (0: all), its name, and how many of a
-- timestamp's units a second has, where they are known.
pub record InterfaceValue : Type 0 where
  pub link : ℕ
  pub most : ℕ
  pub name : Option (List ℕ)
  pub units : Option ℕ

-- how many units a second has: a power of 10, or from 128 on a power of 2, as far as it has room in eight bytes
abbrev pub units_by : ℕ → Option ℕ
units_by power =
    if nat_le power 19 then Some (10 ^ power)
    else if nat_le 128 power && nat_le power 191 then Some (2 ^ (power - 128)) else None

-- Microseconds, where no resolution is given. Times that are shifted aren't told.
abbrev pub units_of : Option (List ℕ) → Option (List ℕ) → Option ℕ
units_of resolution (Some shift) = None
units_of None None = units_by 6
units_of (Some []) None = units_by 6
units_of (Some (power ∷ more)) None = units_by power

-- what the body of a block says of an interface: the link type, two bytes that aren't looked at, the most bytes, and
-- options, of which 2 is the name, 9 the resolution of times, and 14 their shift
pub record Describes (order : Order) (body : List ℕ) (i : InterfaceValue) : Type 0 where
  pub options : List OptionValue
  pub are : AreOptions order (drop 8 body) options
  pub long : 8 ≤ length body
  pub link : i.link ≡ short_at order 0 body
  pub most : i.most ≡ number_at order 4 body
  pub name : i.name ≡ value_of 2 options
  pub units : i.units ≡ units_of (value_of 9 options) (value_of 14 options)

-- a timestamp in seconds and nanoseconds
abbrev pub time_by : Option ℕ → Option ℕ → TimeValue
time_by (Some units) (Some stamp) = At (stamp / units) (stamp % units * 1000000000 / units)
time_by None stamp = Unknown
time_by (Some units) None = Unknown
