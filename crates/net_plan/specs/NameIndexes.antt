-- What finds the index of a name.
use Rattle.std.{specs.Prelude.{ℕ, ◌≡◌, List, Option, unwrap_or}, specs.BTreeMap.{get_by}, specs.Cmp.Lexicographic.{slice_cmp}, specs.Ordering.{nat_cmp}}
use Rattle.net_plan.{specs.Names.{index_of}, specs.declared.name_index.NameIndex.{NameIndex}}

-- the index that was noted for a name
abbrev pub noted : NameIndex → List ℕ → Option ℕ
noted p name = get_by (λ k. slice_cmp nat_cmp name k.now) p.by_name

-- the index of a name; the count of the list for one that has none
abbrev pub find_in : NameIndex → List ℕ → ℕ
find_in p name = unwrap_or (noted p name) p.count

-- the indices that are found are those of these names
abbrev pub IsIndexOf : (List ℕ → Option ℕ) → List (List ℕ) → Type 0
IsIndexOf find names = (q : List ℕ) → find q ≡ index_of names q
