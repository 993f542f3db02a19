-- The order of tests of a text that is JSON (docs/FORMATS.md), by what is told of it: the first fault that applies.
use Rattle.std.specs.Prelude.{◌≡◌, true, false, codes, Option, Some, None, option_map}
use Rattle.json.specs.Json.{Json}
use Rattle.serde_json.{specs.Data.{Data}, specs.Find.{get}}
use Rattle.net_plan.{specs.CertificateReading.{certificate}, specs.EventReading.{events}, specs.Finding.{Located, fault_of, first_fault, located}, specs.Grammar.{Grammar, Known}, specs.PlanReading.{plan}, specs.SingleKeys.{single, unless_doubled}, specs.Trees.{data_of}, specs.declared.error.ValueFault.{ValueFault}}
use Rattle.net_pointers.{specs.Ascending.{ranks_ascend, AreFirst, DoOverlap}, specs.Asks.{Asks, DoDiffer, IsDoubledIn, asks_of, Sort, plan_text, certificate_text, events_text}, specs.Doubles.{IsFirstDoubledKey}, specs.Pointers.{HasFaultAt}, specs.declared.order.Trouble.{Trouble}, specs.declared.order.Trouble.TheVariants.{Value, DoubledName, Overlap, DoubledKey, UnknownName}}
use Rattle.net_plan.specs.declared.error.ValueFault.TheVariants as fault

-- in the order of tests, depth first, this is the first fault of a value; the pointer leads to what has it in itself
abbrev pub IsFirstFaultAt : Option Known → Grammar → Data → Located → Type 0
IsFirstFaultAt known g d l = (first_fault known g d ≡ Some l) × HasFaultAt known g d l

-- First each value: its kind, its keys, its length, then its parts. No value is wrong in itself.
abbrev pub AreRight : Asks → Data → Type 0
AreRight a d = first_fault None a.grammar d ≡ None

-- then names and entries that stand twice: no list has such ones
abbrev pub AreEntriesSingle : Asks → Data → Type 0
AreEntriesSingle a d = AreRight a d × DoDiffer a.lists d

-- then ranges that overlap, which are entries that stand twice: where that is asked, there are none
abbrev pub AreApart : Asks → Data → Type 0
AreApart a d = AreEntriesSingle a d × (a.ascending ≡ true → ranks_ascend (get (codes "ranks") d) ≡ true)

-- then keys that stand twice: no object has one
abbrev pub AreKeysSingle : Asks → Json → Type 0
AreKeysSingle a j = AreApart a (data_of j) × (single j ≡ true)

-- and last names that nothing has. What is told is the first of all these that applies.
abbrev pub IsFirstTrouble : Asks → Json → Option Trouble → Type 0
IsFirstTrouble a j None = AreKeysSingle a j × (first_fault (Some a.known) a.grammar (data_of j) ≡ None)
IsFirstTrouble a j (Some (Value found)) = IsFirstFaultAt None a.grammar (data_of j) (located found)
IsFirstTrouble a j (Some (DoubledName list indices)) =
    AreRight a (data_of j) × IsDoubledIn a.lists list indices (data_of j)
IsFirstTrouble a j (Some (Overlap overlap)) = AreEntriesSingle a (data_of j) × (a.ascending ≡ true)
    × (ranks_ascend (get (codes "ranks") (data_of j)) ≡ false) × AreFirst (DoOverlap (data_of j)) overlap
IsFirstTrouble a j (Some (DoubledKey doubled)) = AreApart a (data_of j) × IsFirstDoubledKey j doubled
IsFirstTrouble a j (Some (UnknownName found)) = AreKeysSingle a j × (found.fault ≡ fault.UnknownName)
    × IsFirstFaultAt (Some a.known) a.grammar (data_of j) (located found)

-- ---- what the readers refuse

-- the fault of what is told
abbrev pub fault_in : Trouble → ValueFault
fault_in (Value found) = found.fault
fault_in (DoubledName list indices) = fault.Doubled
fault_in (Overlap overlap) = fault.Doubled
fault_in (DoubledKey doubled) = fault.Doubled
fault_in (UnknownName found) = fault.UnknownName

-- the fault for which the reader of such texts refuses this one
abbrev pub refusal : Sort → Json → Option ValueFault
refusal plan_text j = fault_of (unless_doubled (single j) (plan (data_of j)))
refusal (certificate_text nodes) j = fault_of (unless_doubled (single j) (certificate nodes (data_of j)))
refusal (events_text nodes) j = fault_of (unless_doubled (single j) (events nodes (data_of j)))

-- what is told of a text is its first fault, and for this the reader refuses it; of one that is read nothing is told
pub record IsTold (s : Sort) (j : Json) (told : Option Trouble) : Type 0 where
  pub first : IsFirstTrouble (asks_of s (data_of j)) j told
  pub refused : refusal s j ≡ option_map fault_in told
