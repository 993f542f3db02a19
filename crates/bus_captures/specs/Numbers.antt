-- Numbers in a file's byte order.
use Rattle.std.specs.Prelude.{ℕ, List, drop}
use Rattle.byteorder.specs.Endian.{little_bytes, big_bytes, little_number, big_number}
use Rattle.bus_captures.specs.declared.format.Order.{Order}
use Rattle.bus_captures.specs.declared.format.Order.TheVariants as order

-- the bytes of a number of four bytes
abbrev pub number_bytes : Order → ℕ → List ℕ
number_bytes order.Little number = little_bytes 4 number
number_bytes order.Big number = big_bytes 4 number

-- the bytes of a number of two bytes
abbrev pub short_bytes : Order → ℕ → List ℕ
short_bytes order.Little number = little_bytes 2 number
short_bytes order.Big number = big_bytes 2 number

-- the numbers of four and of two bytes that stand at a place
abbrev pub number_at : Order → ℕ → List ℕ → ℕ
number_at order.Little place bytes = little_number 4 (drop place bytes)
number_at order.Big place bytes = big_number 4 (drop place bytes)

abbrev pub short_at : Order → ℕ → List ℕ → ℕ
short_at order.Little place bytes = little_number 2 (drop place bytes)
short_at order.Big place bytes = big_number 2 (drop place bytes)
