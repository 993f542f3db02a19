-- JSON values: the members of objects, and lists of what tells items.
use Rattle.std.specs.Prelude.{◌≡◌, ℕ, List, [], ◌∷◌, ◌++◌, Option, Some, None}
use Rattle.serde_json.{specs.Data.{Data, null, number, unsigned, array, item, no_items}, specs.Find.{get}, specs.View.{items_of}}

-- the value is an object that has this member; what else it has is free
abbrev pub Has : List ℕ → Data → Data → Type 0
Has name member d = get name d ≡ Some member

abbrev pub number_data : ℕ → Data
number_data n = number (unsigned n)

abbrev pub number_or_null : Option ℕ → Data
number_or_null (Some n) = number_data n
number_or_null None = null

-- ---- lists

-- A value for each item, in their order, each of which tells its item.
pub data AreTold {A : Type 0} (IsTold : A → Data → Type 0) : List A → List Data → Type 0 where
  none : AreTold IsTold [] []
  more : {xs : List A} {ds : List Data} (x : A) (d : Data)
      → AreTold IsTold xs ds → IsTold x d → AreTold IsTold (xs ++ x ∷ []) (ds ++ d ∷ [])

-- the value is the list of what tells each item, in their order
abbrev pub IsListTold : {A : Type 0} → (A → Data → Type 0) → List A → Data → Type 0
IsListTold IsTold xs d = (ds : List Data) × AreTold IsTold xs ds × (d ≡ array (items_of ds))

abbrev pub empty_data : Data
empty_data = array no_items

-- the list of one value
abbrev pub one_data : Data → Data
one_data d = array (item d no_items)
