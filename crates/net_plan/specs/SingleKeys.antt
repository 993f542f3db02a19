-- Keys that stand once in their object, by functions.
use Rattle.std.specs.Prelude.{Bool, true, false, ◌&&◌, Result, Ok, Err}
use Rattle.json.{specs.Json.{Json, null, boolean, number, string, array, object, Items, no_items, item, Members, no_members, member}, specs.Strict.{keys}}
use Rattle.net_plan.{specs.Names.{names_differ}, specs.declared.error.ValueFault.{ValueFault}, specs.declared.error.ValueFault.TheVariants.{WrongKind, MissingKey, UnknownKey, OutOfRange, UnknownName, BadHex, OverLimit, Doubled, OutOfMemory}}

-- no object, however deep, has a key twice
abbrev mutual
  pub single : Json → Bool
  single null = true
  single (boolean b) = true
  single (number s) = true
  single (string s) = true
  single (array js) = items_single js
  single (object ms) = names_differ (keys ms) && members_single ms

  pub items_single : Items → Bool
  items_single no_items = true
  items_single (item j js) = single j && items_single js

  pub members_single : Members → Bool
  members_single no_members = true
  members_single (member k j ms) = single j && members_single ms

-- the fault of a doubled key is told before that of an unknown name, and after all others
abbrev pub doubled_first : ValueFault → ValueFault
doubled_first WrongKind = WrongKind
doubled_first MissingKey = MissingKey
doubled_first UnknownKey = UnknownKey
doubled_first OutOfRange = OutOfRange
doubled_first UnknownName = Doubled
doubled_first BadHex = BadHex
doubled_first OverLimit = OverLimit
doubled_first Doubled = Doubled
doubled_first OutOfMemory = OutOfMemory

-- what was read, where no key is doubled
abbrev pub unless_doubled : {A : Type 0} → Bool → Result A ValueFault → Result A ValueFault
unless_doubled true r = r
unless_doubled false (Ok a) = Err Doubled
unless_doubled false (Err f) = Err (doubled_first f)
