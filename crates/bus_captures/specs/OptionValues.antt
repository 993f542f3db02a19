-- Options, as the code holds them.
use Rattle.std.specs.Prelude.{◌≡◌, ℕ, List, option_map}
use Rattle.bus_captures.{specs.declared.format.Order.{Order}, specs.declared.options.FileOption.{FileOption}, specs.declared.options.Told.{Told}, specs.Options.{OptionValue, AreOptions, value_of}}

abbrev pub option_value : FileOption → OptionValue
option_value o = record { code = o.code; value = o.value.now; fill = o.fill.now }

-- this is told of these options: the name (2), the resolution of times (9), and how far they are shifted (14)
pub record IsTold (options : List OptionValue) (told : Told) : Type 0 where
  pub name : option_map (λ v. v.now) told.name ≡ value_of 2 options
  pub resolution : option_map (λ v. v.now) told.resolution ≡ value_of 9 options
  pub shift : option_map (λ v. v.now) told.shift ≡ value_of 14 options

-- this is told of the options at the front of the bytes
abbrev pub AreTold : Order → List ℕ → Told → Type 0
AreTold order bytes told = (options : List OptionValue) × AreOptions order bytes options × IsTold options told
