-- The first fault of a value, and where it stands.
use Rattle.std.{specs.Prelude.{ℕ, suc, ◌+◌, codes, List, [], ◌∷◌, map, ⊤, Bool, true, false, not, nat_le, nat_lt, if◌then◌else◌, Option, Some, None, option_map, option_and_then, Result, Ok, Err}, specs.Option.{option_or}, specs.Str.{bytes_eq}}
use Rattle.serde_json.{specs.Data.{Data, null, boolean, number, string, array, object, Items, no_items, item}, specs.Find.{get}}
use Rattle.net_plan.{specs.Json.{demand, items_count, keyed, some_object, found, at_key, is_among, name_text, hex_text, address_text, whole_number, truth, kind_text}, specs.Names.{text_of}, specs.Reading.{then_with}, specs.declared.error.ValueFault.{ValueFault}, specs.declared.error.ValueFault.TheVariants.{WrongKind, OverLimit, OutOfRange, UnknownName}, specs.Grammar.{Grammar, plain, one_of, a_list, an_optional, an_object, a_choice, Fields, no_fields, field, keys_of, Known, grammar}, specs.declared.found.Found.{Found}, specs.declared.found.PointerStep.{PointerStep}, specs.declared.found.PointerStep.TheVariants.{Key, Index}, specs.declared.shape.Named.{Named}, specs.declared.shape.Named.TheVariants.{Buses, Nodes}, specs.declared.shape.Rule.{Rule}, specs.declared.shape.Word.{Word}}
use Rattle.net_plan.specs.declared.shape.Rule.TheVariants as rule
use Rattle.net_plan.specs.declared.shape.Word.TheVariants as word

-- the fault for which something was not read
abbrev pub fault_of : {A : Type 0} → Result A ValueFault → Option ValueFault
fault_of (Ok x) = None
fault_of (Err f) = Some f

-- those of the names that are known
abbrev pub names_of : Named → Known → List (List ℕ)
names_of Buses k = k.buses
names_of Nodes k = k.nodes

-- a name, and one of these where they are known
abbrev pub known_name : Option (List (List ℕ)) → Data → Result ⊤ ValueFault
known_name None d = then_with (name_text d) (λ _. Ok tt)
known_name (Some names) d = then_with (name_text d) (λ name. demand UnknownName (is_among names name))

-- the fault of a value without parts
abbrev pub word_fault : Option Known → Word → Data → Option ValueFault
word_fault known (word.Number least most) d = fault_of (whole_number least most d)
word_fault known word.Name d = fault_of (name_text d)
word_fault known (word.Named names) d = fault_of (known_name (option_map (names_of names) known) d)
word_fault known word.Truth d = fault_of (truth d)
word_fault known word.Kind d = fault_of (kind_text d)
word_fault known word.Hex d = fault_of (hex_text d)
word_fault known word.Address d = fault_of (address_text d)

-- one of these words
abbrev pub word_among : List (List ℕ) → Data → Result ⊤ ValueFault
word_among words (string s) = demand OutOfRange (is_among words s)
word_among words _ = Err WrongKind

-- at most so many; any number where no bound is given
abbrev pub is_within : Option ℕ → ℕ → Bool
is_within None n = true
is_within (Some most) n = nat_le n most

-- a list of at most so many items, whatever they are
abbrev pub short_list : Option ℕ → Data → Result ⊤ ValueFault
short_list most (array ds) = demand OverLimit (is_within most (items_count ds))
short_list most _ = Err WrongKind

-- nothing where the value is `null`
abbrev pub unless_null : {A : Type 0} → Data → Option A → Option A
unless_null null o = None
unless_null (boolean b) o = o
unless_null (number n) o = o
unless_null (string s) o = o
unless_null (array ds) o = o
unless_null (object ms) o = o

-- the endpoint ID after the last of a range, where its numbers are in their bounds
abbrev pub range_end : Data → Result ℕ ValueFault
range_end d =
    then_with (at_key (codes "first") (whole_number 0 255) d) (λ first.
    then_with (at_key (codes "rank") (whole_number 1 255) d) (λ _.
    then_with (at_key (codes "size") (whole_number 1 255) d) (λ size. Ok (first + size))))

-- that is past 256
abbrev pub is_late : Result ℕ ValueFault → Bool
is_late (Ok end) = nat_lt 256 end
is_late (Err f) = false

-- an object keeps the rule
abbrev pub passes : Rule → Data → Result ⊤ ValueFault
passes rule.None d = Ok tt
passes rule.EndsInTime d = demand OutOfRange (not (is_late (range_end d)))

-- an object that has the key
abbrev pub has_key : List ℕ → Data → Result ⊤ ValueFault
has_key key d = then_with (some_object d) (λ _. then_with (found (get key d)) (λ _. Ok tt))

-- the fault that a value has in itself, whatever the items of a list are, or the values of an object
abbrev pub own_fault : Option Known → Grammar → Data → Option ValueFault
own_fault known (plain w) d = word_fault known w d
own_fault known (one_of words) d = fault_of (word_among words d)
own_fault known (a_list most g) d = fault_of (short_list most d)
own_fault known (an_optional g) d = unless_null d (own_fault known g d)
own_fault known (an_object rule fs) d = fault_of (then_with (keyed (keys_of fs) d) (λ _. passes rule d))
own_fault known (a_choice k g cs) d = fault_of (has_key k d)

-- a step of a JSON pointer (RFC 6901): to the value at a key, or to the item at an index, from 0
pub data Step : Type 0 where
  key : List ℕ → Step
  index : ℕ → Step

-- a fault, the pointer to the value that has it, and what may stand there
pub record Located : Type 0 where
  pub pointer : List Step
  pub grammar : Grammar
  pub fault : ValueFault

-- the same, seen one step further out
abbrev pub under : Step → Option Located → Option Located
under s o = option_map (λ l. record { pointer = s ∷ l.pointer; grammar = l.grammar; fault = l.fault }) o

-- a fault of the value itself
abbrev pub here : Grammar → Option ValueFault → Option Located
here g o = option_map (λ f. record { pointer = []; grammar = g; fault = f }) o

-- the first fault of the items from an index on
abbrev pub in_items : (Data → Option Located) → ℕ → Items → Option Located
in_items f n no_items = None
in_items f n (item d ds) = option_or (under (index n) (f d)) (in_items f (suc n) ds)

-- the first fault of the items of a list
abbrev pub in_list : (Data → Option Located) → Data → Option Located
in_list f (array ds) = in_items f 0 ds
in_list f _ = None

-- The order of tests: a value itself, and then its parts, depth first.
abbrev mutual
  -- the first fault of the parts of a value
  pub inside : Option Known → Grammar → Data → Option Located
  inside known (plain w) d = None
  inside known (one_of words) d = None
  inside known (a_list most g) d = in_list (λ e. option_or (here g (own_fault known g e)) (inside known g e)) d
  inside known (an_optional g) d = inside known g d
  inside known (an_object rule fs) d = in_fields known fs d
  inside known (a_choice k g cs) d =
      option_and_then
      (λ e. option_or
      (under (key k) (option_or (here g (own_fault known g e)) (inside known g e)))
      (in_choices known cs (text_of e) d))
      (get k d)

  -- the first fault of the values at the keys of an object
  pub in_fields : Option Known → Fields → Data → Option Located
  in_fields known no_fields d = None
  in_fields known (field k g fs) d =
      option_or
      (under (key k) (option_and_then (λ e. option_or (here g (own_fault known g e)) (inside known g e)) (get k d)))
      (in_fields known fs d)

  -- the first fault of an object by what the word asks of it
  pub in_choices : Option Known → Fields → List ℕ → Data → Option Located
  in_choices known no_fields word d = None
  in_choices known (field w g cs) word d =
      if bytes_eq word w then option_or (here g (own_fault known g d)) (inside known g d)
      else in_choices known cs word d

-- the first fault of a value in the order of tests
abbrev pub first_fault : Option Known → Grammar → Data → Option Located
first_fault known g d = option_or (here g (own_fault known g d)) (inside known g d)

-- the fault for which a value is refused
abbrev pub refused : Option Located → Result ⊤ ValueFault
refused None = Ok tt
refused (Some l) = Err l.fault

-- ---- as the program holds them

abbrev pub step_value : PointerStep → Step
step_value (Key k) = key k.now
step_value (Index i) = index i

abbrev pub located : Found → Located
located f = record { pointer = map step_value f.pointer.items; grammar = grammar f.shape.now; fault = f.fault }
