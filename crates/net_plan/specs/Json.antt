-- What a JSON value says, by functions: the value that it stands for, or its first fault in the order of tests.
use Rattle.std.{specs.Prelude.{ℕ, suc, ⊤, codes, is_some, ◌&&◌, ◌||◌, List, length, Bool, true, false, not, nat_le, if◌then◌else◌, Option, Some, None, Result, Ok, Err}, specs.List.{list_any}, specs.Str.{bytes_eq}}
use Rattle.hex.{specs.Hex.{decode_of}, specs.declared.error.FromHexError.{FromHexError}}
use Rattle.serde_json.{specs.Data.{Data, boolean, number, string, object, Items, no_items, item, Members, no_members, member}, specs.Find.{get, get_member, as_u64}}
use Rattle.plan_values.{specs.NameText.{is_name}, specs.declared.nodes.Kind.{Kind}, specs.declared.nodes.Kind.TheVariants.{Bridge, Endpoint}}
use Rattle.net_plan.{specs.Reading.{then_with}, specs.declared.error.ValueFault.{ValueFault}, specs.declared.error.ValueFault.TheVariants.{WrongKind, MissingKey, UnknownKey, OutOfRange, BadHex, OverLimit}}

abbrev pub items_count : Items → ℕ
items_count no_items = 0
items_count (item d ds) = suc (items_count ds)

abbrev pub demand : ValueFault → Bool → Result ⊤ ValueFault
demand fault true = Ok tt
demand fault false = Err fault

abbrev pub found : {A : Type 0} → Option A → Result A ValueFault
found (Some a) = Ok a
found None = Err MissingKey

-- what an object has at a key
abbrev pub at_key : {A : Type 0} → List ℕ → (Data → Result A ValueFault) → Data → Result A ValueFault
at_key key f d = then_with (found (get key d)) f

-- the key is one of those
abbrev pub is_among : List (List ℕ) → List ℕ → Bool
is_among keys key = list_any (λ other. bytes_eq key other) keys

abbrev pub has_unknown_key : List (List ℕ) → Members → Bool
has_unknown_key keys no_members = false
has_unknown_key keys (member key d ms) = not (is_among keys key) || has_unknown_key keys ms

abbrev pub lacks_key : List (List ℕ) → Members → Bool
lacks_key keys ms = list_any (λ key. not (is_some (get_member key ms))) keys

-- an object with no other keys than these
abbrev pub known_keys : List (List ℕ) → Data → Result ⊤ ValueFault
known_keys keys (object ms) = demand UnknownKey (not (has_unknown_key keys ms))
known_keys keys _ = Err WrongKind

-- an object with all these keys
abbrev pub given_keys : List (List ℕ) → Data → Result ⊤ ValueFault
given_keys keys (object ms) = demand MissingKey (not (lacks_key keys ms))
given_keys keys _ = Err WrongKind

-- an object with exactly these keys
abbrev pub keyed : List (List ℕ) → Data → Result ⊤ ValueFault
keyed keys d = then_with (known_keys keys d) (λ _. given_keys keys d)

-- any object
abbrev pub some_object : Data → Result ⊤ ValueFault
some_object (object ms) = Ok tt
some_object _ = Err WrongKind

abbrev pub number_within : ℕ → ℕ → Option ℕ → Result ℕ ValueFault
number_within least most None = Err OutOfRange
number_within least most (Some n) = if nat_le least n && nat_le n most then Ok n else Err OutOfRange

-- a whole number between two bounds
abbrev pub whole_number : ℕ → ℕ → Data → Result ℕ ValueFault
whole_number least most (number n) = number_within least most (as_u64 n)
whole_number least most _ = Err WrongKind

-- `true` or `false`
abbrev pub truth : Data → Result Bool ValueFault
truth (boolean b) = Ok b
truth _ = Err WrongKind

abbrev pub name_text : Data → Result (List ℕ) ValueFault
name_text (string s) = if is_name s then Ok s else Err OutOfRange
name_text _ = Err WrongKind

abbrev pub decoded : Result (List ℕ) FromHexError → Result (List ℕ) ValueFault
decoded (Ok bytes) = Ok bytes
decoded (Err e) = Err BadHex

-- hex text
abbrev pub hex_text : Data → Result (List ℕ) ValueFault
hex_text (string s) = decoded (decode_of s)
hex_text _ = Err WrongKind

-- hex text of at most 8 bytes
abbrev pub address_text : Data → Result (List ℕ) ValueFault
address_text d =
    then_with (hex_text d) (λ bytes.
    then_with (demand OverLimit (nat_le (length bytes) 8)) (λ _. Ok bytes))

abbrev pub kind_of : List ℕ → Result Kind ValueFault
kind_of s =
    if bytes_eq s (codes "bridge") then Ok Bridge
    else (if bytes_eq s (codes "endpoint") then Ok Endpoint else Err OutOfRange)

-- the kind of a node
abbrev pub kind_text : Data → Result Kind ValueFault
kind_text (string s) = kind_of s
kind_text _ = Err WrongKind
