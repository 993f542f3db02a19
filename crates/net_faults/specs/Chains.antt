-- What is wrong with the chain of records, also of those whose handles aren't new.
use Rattle.std.{specs.Prelude.{◌≢◌, ℕ, List, slice_get, Option, Some, None, MatchOption}, specs.Ordering.{nat_cmp}, specs.BTreeMap.{get}}
use Rattle.plan_values.specs.declared.terminus.PlannedRecord.{PlannedRecord}
use Rattle.net_rules.{specs.declared.certifying.chains.ChainFault.{ChainFault}, specs.RecordChains.{IsBadChain, IsFirstIndexOf}}
use Rattle.net_faults.specs.declared.key_index.KeyIndex.{KeyIndex}

-- what is wrong, and at which record; or nothing is
abbrev pub IsChainFault : List PlannedRecord → Option (ChainFault × ℕ) → Type 0
IsChainFault records None = (kind : ChainFault) (entry : ℕ) → ¬ IsBadChain records kind entry
IsChainFault records (Some (kind, entry)) = IsBadChain records kind entry

-- the key's index, if it has one
abbrev pub found_in : KeyIndex → ℕ → Option ℕ
found_in index key = get nat_cmp index.by_key key

-- each key of the list has its first index, and no other has one
abbrev pub IsIndexOf : List ℕ → KeyIndex → Type 0
IsIndexOf keys index =
    (key : ℕ) → MatchOption (found_in index key) ((i : ℕ) → slice_get keys i ≢ Some key) (IsFirstIndexOf keys key)
