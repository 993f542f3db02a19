-- Interfaces and destinations, by numbers.
use Rattle.std.{specs.Prelude.{ℕ, ◌+◌, ◌==◌, ◌&&◌, Bool, Option, Some, None}, specs.Ordering.{nat_cmp, ordering_then}, specs.declared.cmp.Ordering.{Ordering}}
use Rattle.bus_captures.specs.declared.capture.Interface.{Interface}

-- a number that may be missing, as a number: 0 where it is missing, and else one more than it
abbrev pub code_of : Option ℕ → ℕ
code_of None = 0
code_of (Some number) = number + 1

-- the interfaces are one: their numbers are equal, or both are missing
abbrev pub is_same : Interface → Interface → Bool
is_same i j = (code_of i.number == code_of j.number) && (code_of i.index == code_of j.index)

-- an interface and a destination as three numbers, and the order of these
abbrev pub place_of : Interface → ℕ → ℕ × ℕ × ℕ
place_of i d = (code_of i.number, code_of i.index, d)

abbrev pub place_cmp : ℕ × ℕ × ℕ → ℕ × ℕ × ℕ → Ordering
place_cmp = λ x y. ordering_then (ordering_then (nat_cmp x.0 y.0) (nat_cmp x.1 y.1)) (nat_cmp x.2 y.2)

-- the same of an interface alone
abbrev pub pair_of : Interface → ℕ × ℕ
pair_of i = (code_of i.number, code_of i.index)

abbrev pub pair_cmp : ℕ × ℕ → ℕ × ℕ → Ordering
pair_cmp = λ x y. ordering_then (nat_cmp x.0 y.0) (nat_cmp x.1 y.1)
