-- The chain that the next handles of records make.
use Rattle.std.{specs.Prelude.{codes, ◌≡◌, ◌≢◌, ◌⊎◌, ℕ, ◌+◌, ◌<◌, List, length, map, slice_get, Option, Some, None, MatchOption, unwrap_or}, specs.Ordering.{nat_cmp}, specs.BTreeMap.{get}}
use Rattle.plan_values.specs.declared.terminus.PlannedRecord.{PlannedRecord}
use Rattle.net_rules.{specs.declared.certifying.handle_index.HandleIndex.{HandleIndex}, specs.declared.certifying.chains.Chained.{Chained}, specs.declared.certifying.chains.Chained.TheVariants.{Places, Bad}, specs.declared.certifying.chains.ChainFault.{ChainFault}, specs.declared.certifying.chains.ChainFault.TheVariants.{Missing, Doubled, Circle}, specs.Circles.{EndsAfter, IsLeastOnCircle}, specs.Search.{IsFirstItem}}
use Rattle.net_tables.specs.Repositories.{HasNewHandle, IsChained}

-- the handle is a record's
abbrev pub IsHandleOf : List PlannedRecord → ℕ → Type 0
IsHandleOf records handle = (k : ℕ) × (r : PlannedRecord) × (slice_get records k ≡ Some r) × (handle ≡ r.handle)

-- the record's next handle is 0 or a record's handle
abbrev pub HasNext : List PlannedRecord → PlannedRecord → Type 0
HasNext records r = (r.next ≡ 0) ⊎ IsHandleOf records r.next

-- the record's next handle, 0 too, is not that of an earlier one
abbrev pub HasNewNext : List PlannedRecord → ℕ → PlannedRecord → Type 0
HasNewNext records j r =
    (i : ℕ) (other : PlannedRecord) → i < j → slice_get records i ≡ Some other → other.next ≢ r.next

-- the next handle of record j is record k's handle
abbrev pub IsFollowedBy : List PlannedRecord → ℕ → ℕ → Type 0
IsFollowedBy records j k =
    (r : PlannedRecord) × (other : PlannedRecord) × (slice_get records j ≡ Some r) × (slice_get records k ≡ Some other)
    × (r.next ≡ other.handle)

-- each record has a new handle
abbrev pub HaveNewHandles : List PlannedRecord → Type 0
HaveNewHandles records = (j : ℕ) (r : PlannedRecord) → slice_get records j ≡ Some r → HasNewHandle records j r

-- What is wrong with a chain: the first record without its next one; where none is, the first with an earlier one's
-- next handle; where none is, the first on a circle.
abbrev pub IsBadChain : List PlannedRecord → ChainFault → ℕ → Type 0
IsBadChain records Missing j = IsFirstItem records (λ _ r. HasNext records r) (Some j)
IsBadChain records Doubled j =
    IsFirstItem records (λ _ r. HasNext records r) None × IsFirstItem records (HasNewNext records) (Some j)
IsBadChain records Circle j =
    IsFirstItem records (λ _ r. HasNext records r) None × IsFirstItem records (HasNewNext records) None
    × IsLeastOnCircle (IsFollowedBy records) j

-- each record is chained by the places
abbrev pub AreChained : List PlannedRecord → List ℕ → Type 0
AreChained records places = (j : ℕ) (r : PlannedRecord) → slice_get records j ≡ Some r → IsChained records places j r

-- places along the chain, one for each record
abbrev pub ArePlaces : List PlannedRecord → List ℕ → Type 0
ArePlaces records places = (length places ≡ length records) × AreChained records places

-- places along the chain, or what is wrong with it
abbrev pub IsChainOf : List PlannedRecord → Chained → Type 0
IsChainOf records (Places places) = ArePlaces records (map (λ p. p.value) places.items)
IsChainOf records (Bad kind entry) = IsBadChain records kind entry

-- what is wrong, in a word
abbrev pub chain_word_of : ChainFault → List ℕ
chain_word_of Missing = codes "missing"
chain_word_of Doubled = codes "doubled"
chain_word_of Circle = codes "circle"

-- the index is the first at which the key stands
abbrev pub IsFirstIndexOf : List ℕ → ℕ → ℕ → Type 0
IsFirstIndexOf keys key first = (slice_get keys first ≡ Some key) × ((i : ℕ) → i < first → slice_get keys i ≢ Some key)

-- the key's index, if it has one: at its own place if there is such a place, or else in the map
abbrev pub found_in : HandleIndex → ℕ → Option ℕ
found_in index key = unwrap_or (slice_get index.small.items key) (get nat_cmp index.large key)

-- each key of the list has its first index, and no other has one
abbrev pub IsIndexOf : List ℕ → HandleIndex → Type 0
IsIndexOf keys index =
    (key : ℕ) → MatchOption (found_in index key) ((i : ℕ) → slice_get keys i ≢ Some key) (IsFirstIndexOf keys key)

-- no record is without its next one, and no two have one next handle
pub record AreLinked (records : List PlannedRecord) : Type 0 where
  pub handles : HaveNewHandles records
  pub nexts : IsFirstItem records (λ _ r. HasNext records r) None
  pub apart : IsFirstItem records (HasNewNext records) None

-- Places given from the end of the chain on: a record's place is as far from the last place as the record from the end,
-- and the records without one don't lead to the end.
pub record AreFromTheEnd (records : List PlannedRecord) (places : List (Option ℕ)) : Type 0 where
  pub long : length places ≡ length records
  pub given : (j place : ℕ) → slice_get places j ≡ Some (Some place)
      → (count : ℕ) × (place + 1 + count ≡ length records) × EndsAfter (IsFollowedBy records) j count
  pub left : (j count : ℕ) → slice_get places j ≡ Some None → ¬ EndsAfter (IsFollowedBy records) j count
