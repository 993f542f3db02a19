-- Options of a block: a code, a value, and bytes that fill it up to a multiple of four.
use Rattle.std.{specs.Prelude.{◌≡◌, ◌≢◌, ℕ, ◌+◌, ◌%◌, ◌<◌, ◌==◌, ◌^◌, List, ◌++◌, length, All, Option, find, option_map}, specs.List.{flat_map}}
use Rattle.bus_captures.{specs.declared.format.Order.{Order}, specs.Numbers.{short_bytes}}

pub record OptionValue : Type 0 where
  pub code : ℕ
  pub value : List ℕ
  pub fill : List ℕ

-- the code 0 ends a list of options, and is none
pub record IsOption (o : OptionValue) : Type 0 where
  pub code : o.code < 2 ^ 16
  pub other : o.code ≢ 0
  pub count : length o.value < 2 ^ 16
  pub fill : length o.fill < 4
  pub filled : (length o.value + length o.fill) % 4 ≡ 0

abbrev pub option_bytes : Order → OptionValue → List ℕ
option_bytes order o = short_bytes order o.code ++ short_bytes order (length o.value) ++ o.value ++ o.fill

-- the bytes begin with no option: they end, code 0 stands there, or what stands there is cut
abbrev pub HasNoOption : Order → List ℕ → Type 0
HasNoOption order bytes = (o : OptionValue) (rest : List ℕ) → IsOption o → bytes ≢ option_bytes order o ++ rest

-- these are the options at the front of the bytes, all of them
pub record AreOptions (order : Order) (bytes : List ℕ) (options : List OptionValue) : Type 0 where
  pub rest : List ℕ
  pub spelled : bytes ≡ flat_map (option_bytes order) options ++ rest
  pub lawful : All IsOption options
  pub ends : HasNoOption order rest

-- the value of the first option of a code
abbrev pub value_of : ℕ → List OptionValue → Option (List ℕ)
value_of code options = option_map (λ o. o.value) (find (λ o. o.code == code) options)
