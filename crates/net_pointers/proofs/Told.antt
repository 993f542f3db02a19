-- What is told of a text is that for which its reader refuses it.
use Rattle.std.{proofs.Common.{◌≡◌, Bool, true, false, true≢false, Option, Some, None, option_map, Result, Ok, Err, refl, sym, ap, ◌∙◌}, specs.Prelude.{codes}}
use Rattle.json.specs.Json.{Json}
use Rattle.serde_json.{specs.Data.{Data}, specs.Find.{get}}
use Rattle.net_plan.{specs.Finding.{Located, fault_of, first_fault, located}, specs.Refusals.{IsWellButForNames}, specs.SingleKeys.{single, unless_doubled}, specs.Trees.{data_of}, specs.declared.error.ValueFault.{ValueFault}}
use Rattle.net_pointers.{specs.Asks.{Asks, IsDoubledIn}, specs.OrderOfTests.{AreRight, AreEntriesSingle, AreApart, IsFirstTrouble, fault_in}, specs.Doubles.{IsFirstDoubledKey}, specs.declared.doubled.DoubledKey.{DoubledKey}, specs.declared.doubled.TwoIndices.{TwoIndices}, specs.declared.order.NameList.{NameList}, specs.declared.order.Trouble.{Trouble}, specs.declared.order.Trouble.TheVariants.{Value, DoubledName, Overlap, DoubledKey as DoubledKeyOf, UnknownName}, proofs.Doubling.{first_differs, single_parts}, proofs.ValueFaults.{IsOfValue, first_of_value}, specs.Ascending.{ranks_ascend}}
use Rattle.net_plan.specs.declared.error.ValueFault.TheVariants as fault

-- what a reader without the test of keys says, by the first fault in the order of tests
pub record Says {A : Type 0} (said : Data → Result A ValueFault) (a : Asks) (d : Data) : Type 0 where
  pub value : (l : Located) → first_fault None a.grammar d ≡ Some l → said d ≡ Err l.fault
  pub doubled : AreRight a d → (list : NameList) (indices : TwoIndices) → IsDoubledIn a.lists list indices d → said d ≡ Err fault.Doubled
  pub overlapping : AreEntriesSingle a d → a.ascending ≡ true → ranks_ascend (get (codes "ranks") d) ≡ false → said d ≡ Err fault.Doubled
  pub well : AreApart a d → IsWellButForNames said d
  pub unknown : AreApart a d → (l : Located) → first_fault (Some a.known) a.grammar d ≡ Some l → said d ≡ Err fault.UnknownName
  pub read : AreApart a d → first_fault (Some a.known) a.grammar d ≡ None → (x : A) × (said d ≡ Ok x)

of_value : (A : Type 0) (b : Bool) (f : ValueFault) → IsOfValue f → fault_of (unless_doubled {A = A} b (Err f)) ≡ Some f
of_value A false fault.UnknownName h = absurd h
of_value A false fault.Doubled h = absurd h
of_value A false fault.OutOfMemory h = absurd h
of_value A b f h = refl

twice : (A : Type 0) (b : Bool) → fault_of (unless_doubled {A = A} b (Err fault.Doubled)) ≡ Some fault.Doubled
twice A true = refl
twice A false = refl

key_twice : {A : Type 0} (r : Result A ValueFault) → ((f : ValueFault) → r ≡ Err f → f ≡ fault.UnknownName) → fault_of (unless_doubled false r) ≡ Some fault.Doubled
key_twice (Ok x) well = refl
key_twice {A} (Err f) well = ap (λ g. fault_of (unless_doubled {A = A} false (Err g))) (well f refl)

-- an object has a key twice
not_single : (j : Json) (k : DoubledKey) → IsFirstDoubledKey j k → single j ≡ false
not_single j k h = by (single j) refl
  where
    by : (b : Bool) → single j ≡ b → b ≡ false
    by true e = absurd (true≢false (sym (single_parts k.path.items j h.0.0 e h.0.1) ∙ first_differs _ k.members h.0.2))
    by false e = refl

module _ {A : Type 0} (said : Data → Result A ValueFault) (a : Asks) (j : Json) (says : Says said a (data_of j)) where
  abbrev refused : Result A ValueFault → Option ValueFault
  refused r = fault_of (unless_doubled (single j) r)

  single_refused : (r : Result A ValueFault) → single j ≡ true → refused r ≡ fault_of r
  single_refused r e = ap (λ b. fault_of (unless_doubled b r)) e

  pub refused_for : (told : Option Trouble) → IsFirstTrouble a j told → refused (said (data_of j)) ≡ option_map fault_in told
  refused_for None h = let read = says.read h.0.0 h.1 in single_refused (said (data_of j)) h.0.1 ∙ ap fault_of read.1
  refused_for (Some (Value found)) h = ap refused (says.value (located found) h.0) ∙ of_value A (single j) found.fault (first_of_value a.grammar (data_of j) (located found) h.1)
  refused_for (Some (DoubledName list indices)) h = ap refused (says.doubled h.0 list indices h.1) ∙ twice A (single j)
  refused_for (Some (Overlap overlap)) h = ap refused (says.overlapping h.0 h.1 h.2) ∙ twice A (single j)
  refused_for (Some (DoubledKeyOf doubled)) h = ap (λ b. fault_of (unless_doubled b (said (data_of j)))) (not_single j doubled h.1) ∙ key_twice (said (data_of j)) (says.well h.0)
  refused_for (Some (UnknownName found)) h = single_refused (said (data_of j)) h.0.1 ∙ ap fault_of (says.unknown h.0.0 (located found) h.2.0)
