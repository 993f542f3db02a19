-- Whether the ranges of a certificate's ranks ascend apart, by functions.
use Rattle.std.specs.Prelude.{◌≡◌, ◌⊎◌, ◌<◌, ◌+◌, ℕ, codes, ◌&&◌, Bool, true, nat_le, [], ◌∷◌, Option, Some, Result, Ok, Err}
use Rattle.serde_json.{specs.Data.{Data, array, Items, no_items, item}, specs.Find.{get, at, get_item}}
use Rattle.net_plan.{specs.Finding.{key, index, range_end}, specs.Json.{at_key, whole_number}, specs.declared.error.ValueFault.{ValueFault}}
use Rattle.net_pointers.{specs.Pointers.{value_at}, specs.declared.ranges.Overlap.{Overlap}}

-- a number that was read, 0 where none was
abbrev pub number_or_zero : Result ℕ ValueFault → ℕ
number_or_zero (Ok n) = n
number_or_zero (Err f) = 0

-- the first endpoint ID of a range
abbrev pub first_in : Data → ℕ
first_in d = number_or_zero (at_key (codes "first") (whole_number 0 255) d)

-- the endpoint ID after its last
abbrev pub end_in : Data → ℕ
end_in d = number_or_zero (range_end d)

abbrev pub ranges_ascend : ℕ → Items → Bool
ranges_ascend end no_items = true
ranges_ascend end (item d ds) = nat_le end (first_in d) && ranges_ascend (end_in d) ds

-- a list of ranges
abbrev pub list_ascends : Option Data → Bool
list_ascends (Some (array ds)) = ranges_ascend 0 ds
list_ascends _ = true

abbrev pub entries_ascend : Items → Bool
entries_ascend no_items = true
entries_ascend (item d ds) = list_ascends (get (codes "ranges") d) && entries_ascend ds

-- a list of ranks
abbrev pub ranks_ascend : Option Data → Bool
ranks_ascend (Some (array ds)) = entries_ascend ds
ranks_ascend _ = true

-- the first number of which P holds
abbrev pub IsFirst : (ℕ → Type 0) → ℕ → Type 0
IsFirst P n = P n × ((i : ℕ) → i < n → ¬ P i)

-- two ranges of a list, one behind the other, of which the second begins before the first has ended
abbrev pub OverlapIn : Data → ℕ → Type 0
OverlapIn d r = (before after : Data) × (at r d ≡ Some before) × (at (r + 1) d ≡ Some after)
    × (first_in after < end_in before)

-- such ranges of an entry
abbrev pub OverlapOf : Data → ℕ → Type 0
OverlapOf d r = (list : Data) × (get (codes "ranges") d ≡ Some list) × OverlapIn list r

-- such ranges of one of the entries
abbrev pub OverlapAmong : Items → Overlap → Type 0
OverlapAmong ds o = (d : Data) × (get_item o.entry ds ≡ Some d) × OverlapOf d o.range

-- two ranges of one node, one behind the other, of which the second begins before the first has ended
pub record DoOverlap (d : Data) (o : Overlap) : Type 0 where
  pub before : Data
  pub after : Data
  pub one : value_at (key (codes "ranks") ∷ index o.entry ∷ key (codes "ranges") ∷ index o.range ∷ []) d ≡ Some before
  pub next : value_at (key (codes "ranks") ∷ index o.entry ∷ key (codes "ranges") ∷ index (o.range + 1) ∷ []) d
      ≡ Some after
  pub overlap : first_in after < end_in before

-- ranges stand before others: in an entry before, or before them in the same one
abbrev pub IsBefore : Overlap → Overlap → Type 0
IsBefore p o = (p.entry < o.entry) ⊎ ((p.entry ≡ o.entry) × (p.range < o.range))

-- the first ranges of which P holds
abbrev pub AreFirst : (Overlap → Type 0) → Overlap → Type 0
AreFirst P o = P o × ((p : Overlap) → IsBefore p o → ¬ P p)
