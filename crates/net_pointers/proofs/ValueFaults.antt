-- Which faults a value has in itself where any names will do.
use Rattle.std.{proofs.Common.{◌≡◌, ℕ, List, Bool, true, false, not, Option, Some, None, Result, Ok, Err, subst}, specs.Prelude.{⊤, if◌then◌else◌, nat_le, ◌&&◌, length, codes}, specs.Str.{bytes_eq}, proofs.lemmas.Option.{none-some, same_Some}}
use Rattle.hex.{specs.Hex.{decode_of}, specs.declared.error.FromHexError.{FromHexError}}
use Rattle.serde_json.{specs.Data.{Num, Data, null, boolean, number, string, array, object, Items, Members}, specs.Find.{get, as_u64}}
use Rattle.plan_values.specs.NameText.{is_name}
use Rattle.net_plan.{specs.Finding.{Located, fault_of, known_name, word_fault, word_among, is_within, short_list, unless_null, passes, has_key, is_late, range_end, own_fault}, specs.Grammar.{Grammar, plain, one_of, a_list, an_optional, an_object, a_choice, keys_of}, specs.Json.{demand, found, is_among, has_unknown_key, lacks_key, keyed, some_object, number_within, whole_number, truth, name_text, decoded, hex_text, address_text, kind_text, items_count}, specs.Reading.{then_with}, specs.declared.error.ValueFault.{ValueFault}, specs.declared.shape.Rule.{Rule}, specs.declared.shape.Word.{Word}}
use Rattle.net_pointers.specs.Pointers.{HasFaultAt}
use Rattle.net_plan.specs.declared.error.ValueFault.TheVariants as fault
use Rattle.net_plan.specs.declared.shape.Rule.TheVariants as rule
use Rattle.net_plan.specs.declared.shape.Word.TheVariants as word

-- neither a doubled thing, nor an unknown name, nor want of memory
abbrev pub IsOfValue : ValueFault → Type 0
IsOfValue fault.UnknownName = ⊥
IsOfValue fault.Doubled = ⊥
IsOfValue fault.OutOfMemory = ⊥
IsOfValue f = ⊤

abbrev AreOfValue : {A : Type 0} → Result A ValueFault → Type 0
AreOfValue (Ok x) = ⊤
AreOfValue (Err f) = IsOfValue f

then_of : {A B : Type 0} (r : Result A ValueFault) (f : A → Result B ValueFault) → AreOfValue r → ((x : A) → AreOfValue (f x)) → AreOfValue (then_with r f)
then_of (Ok x) f h more = more x
then_of (Err e) f h more = h

demand_of : (f : ValueFault) (b : Bool) → IsOfValue f → AreOfValue (demand f b)
demand_of f true h = tt
demand_of f false h = h

found_of : {A : Type 0} (o : Option A) → AreOfValue (found o)
found_of (Some x) = tt
found_of None = tt

chosen_of : {A : Type 0} (b : Bool) (r s : Result A ValueFault) → AreOfValue r → AreOfValue s → AreOfValue (if b then r else s)
chosen_of true r s h k = h
chosen_of false r s h k = k

within_of : (least most : ℕ) (o : Option ℕ) → AreOfValue (number_within least most o)
within_of least most None = tt
within_of least most (Some n) = chosen_of (nat_le least n && nat_le n most) (Ok n) (Err fault.OutOfRange) tt tt

-- by the kind of the value
kinds : (P : Data → Type 0) → P null → ((b : Bool) → P (boolean b)) → ((n : Num) → P (number n)) → ((s : List ℕ) → P (string s)) → ((ds : Items) → P (array ds)) → ((ms : Members) → P (object ms)) → (d : Data) → P d
kinds P u b n s l o null = u
kinds P u b n s l o (boolean x) = b x
kinds P u b n s l o (number x) = n x
kinds P u b n s l o (string x) = s x
kinds P u b n s l o (array x) = l x
kinds P u b n s l o (object x) = o x

number_of : (least most : ℕ) (d : Data) → AreOfValue (whole_number least most d)
number_of least most = kinds (λ d. AreOfValue (whole_number least most d)) tt (λ b. tt) (λ n. within_of least most (as_u64 n)) (λ s. tt) (λ ds. tt) (λ ms. tt)

name_of : (d : Data) → AreOfValue (name_text d)
name_of = kinds (λ d. AreOfValue (name_text d)) tt (λ b. tt) (λ n. tt) (λ s. chosen_of (is_name s) (Ok s) (Err fault.OutOfRange) tt tt) (λ ds. tt) (λ ms. tt)

truth_of : (d : Data) → AreOfValue (truth d)
truth_of = kinds (λ d. AreOfValue (truth d)) tt (λ b. tt) (λ n. tt) (λ s. tt) (λ ds. tt) (λ ms. tt)

kind_of_text : (d : Data) → AreOfValue (kind_text d)
kind_of_text = kinds (λ d. AreOfValue (kind_text d)) tt (λ b. tt) (λ n. tt) (λ s. chosen_of (bytes_eq s (codes "bridge")) _ _ tt (chosen_of (bytes_eq s (codes "endpoint")) _ _ tt tt)) (λ ds. tt) (λ ms. tt)

decoded_of : (r : Result (List ℕ) FromHexError) → AreOfValue (decoded r)
decoded_of (Ok bytes) = tt
decoded_of (Err e) = tt

hex_of : (d : Data) → AreOfValue (hex_text d)
hex_of = kinds (λ d. AreOfValue (hex_text d)) tt (λ b. tt) (λ n. tt) (λ s. decoded_of (decode_of s)) (λ ds. tt) (λ ms. tt)

address_of : (d : Data) → AreOfValue (address_text d)
address_of d = then_of (hex_text d) _ (hex_of d) (λ bytes. then_of (demand fault.OverLimit (nat_le (length bytes) 8)) _ (demand_of fault.OverLimit (nat_le (length bytes) 8) tt) (λ u. tt))

among_of : (words : List (List ℕ)) (d : Data) → AreOfValue (word_among words d)
among_of words = kinds (λ d. AreOfValue (word_among words d)) tt (λ b. tt) (λ n. tt) (λ s. demand_of fault.OutOfRange (is_among words s) tt) (λ ds. tt) (λ ms. tt)

short_of : (most : Option ℕ) (d : Data) → AreOfValue (short_list most d)
short_of most = kinds (λ d. AreOfValue (short_list most d)) tt (λ b. tt) (λ n. tt) (λ s. tt) (λ ds. demand_of fault.OverLimit (is_within most (items_count ds)) tt) (λ ms. tt)

keys_of_object : (keys : List (List ℕ)) (d : Data) → AreOfValue (keyed keys d)
keys_of_object keys = kinds (λ d. AreOfValue (keyed keys d)) tt (λ b. tt) (λ n. tt) (λ s. tt) (λ ds. tt)
    (λ ms. then_of (demand fault.UnknownKey (not (has_unknown_key keys ms))) _ (demand_of fault.UnknownKey (not (has_unknown_key keys ms)) tt) (λ u. demand_of fault.MissingKey (not (lacks_key keys ms)) tt))

passes_of : (r : Rule) (d : Data) → AreOfValue (passes r d)
passes_of rule.None d = tt
passes_of rule.EndsInTime d = demand_of fault.OutOfRange (not (is_late (range_end d))) tt

some_of : (d : Data) → AreOfValue (some_object d)
some_of = kinds (λ d. AreOfValue (some_object d)) tt (λ b. tt) (λ n. tt) (λ s. tt) (λ ds. tt) (λ ms. tt)

-- the fault, if there is one, is one of a value
abbrev IsOf : Option ValueFault → Type 0
IsOf o = (f : ValueFault) → o ≡ Some f → IsOfValue f

fault_is : {A : Type 0} (r : Result A ValueFault) → AreOfValue r → IsOf (fault_of r)
fault_is (Ok x) h f e = absurd (none-some f e)
fault_is (Err g) h f e = subst IsOfValue (same_Some _ _ e) h

word_is : (w : Word) (d : Data) → IsOf (word_fault None w d)
word_is (word.Number least most) d = fault_is (whole_number least most d) (number_of least most d)
word_is word.Name d = fault_is (name_text d) (name_of d)
word_is (word.Named names) d = fault_is (known_name None d) (then_of (name_text d) _ (name_of d) (λ s. tt))
word_is word.Truth d = fault_is (truth d) (truth_of d)
word_is word.Kind d = fault_is (kind_text d) (kind_of_text d)
word_is word.Hex d = fault_is (hex_text d) (hex_of d)
word_is word.Address d = fault_is (address_text d) (address_of d)

or_null : (o : Option ValueFault) (d : Data) → IsOf o → IsOf (unless_null d o)
or_null o d h = kinds (λ d. IsOf (unless_null d o)) (λ f e. absurd (none-some f e)) (λ b. h) (λ n. h) (λ s. h) (λ ds. h) (λ ms. h) d

own_is : (g : Grammar) (d : Data) → IsOf (own_fault None g d)
own_is (plain w) d = word_is w d
own_is (one_of words) d = fault_is (word_among words d) (among_of words d)
own_is (a_list most g) d = fault_is (short_list most d) (short_of most d)
own_is (an_optional g) d = or_null (own_fault None g d) d (own_is g d)
own_is (an_object r fs) d = fault_is (then_with (keyed (keys_of fs) d) (λ _. passes r d)) (then_of (keyed (keys_of fs) d) _ (keys_of_object (keys_of fs) d) (λ u. passes_of r d))
own_is (a_choice k g cs) d = fault_is (has_key k d) (then_of (some_object d) _ (some_of d) (λ u. then_of (found (get k d)) _ (found_of (get k d)) (λ v. tt)))

-- so is the first one
pub first_of_value : (g : Grammar) (d : Data) (l : Located) → HasFaultAt None g d l → IsOfValue l.fault
first_of_value g d l h = own_is l.grammar h.stands l.fault h.faulty
