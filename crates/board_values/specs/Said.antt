-- What the values of a board say.
use Rattle.std.specs.Prelude.{◌≡◌, ◌⊎◌, ℕ, List, Option, Some, None, option_and_then, pos, length, slice_get, ⊤}
use Rattle.toml.{specs.Data.{Data, Items, Members, no_members, member, table, at, get, as_str, as_integer, as_array}, specs.Parse.{parse_document}}

-- the text is a TOML document, and this is its table
abbrev pub IsTomlOf : List ℕ → Data → Type 0
IsTomlOf text d = (members : Members) × (parse_document text ≡ Some members) × (d ≡ table members)

-- what stands there is this text
abbrev pub SaysText : Option Data → List ℕ → Type 0
SaysText said text = option_and_then as_str said ≡ Some text

-- what stands there is this number
abbrev pub SaysNumber : Option Data → ℕ → Type 0
SaysNumber said n = option_and_then as_integer said ≡ Some (pos n)

-- the number stands there, or nothing does and it is the default
abbrev pub SaysOr : ℕ → Option Data → ℕ → Type 0
SaysOr default said n = SaysNumber said n ⊎ ((said ≡ None) × (n ≡ default))

-- nothing stands there, or the number
abbrev pub SaysNoneOr : Option Data → ℕ → Type 0
SaysNoneOr said n = (said ≡ None) ⊎ SaysNumber said n

-- nothing stands at the key, or a list
abbrev pub IsListAt : List ℕ → Data → Type 0
IsListAt key d = (get key d ≡ None) ⊎ ((items : Items) × (option_and_then as_array (get key d) ≡ Some items))

-- each key of the members is one of those that there are
abbrev pub AreKeys : (List ℕ → Type 0) → Members → Type 0
AreKeys IsKey no_members = ⊤
AreKeys IsKey (member key d rest) = IsKey key × AreKeys IsKey rest

-- so it is of a table: nothing else stands in it
abbrev pub HasOnlyKeys : (List ℕ → Type 0) → Data → Type 0
HasOnlyKeys IsKey d = (members : Members) × (d ≡ table members) × AreKeys IsKey members

-- what stands at an index of the list at a key
abbrev pub item_at : List ℕ → ℕ → Data → Option Data
item_at key i d = option_and_then (at i) (get key d)

-- where there is an item of the index, what stands at the index of the list at the key has the property with it
abbrev pub IsItemKept : {A : Type 0} → (A → Data → Type 0) → List A → List ℕ → Data → ℕ → Type 0
IsItemKept {A} P items key d i =
    (item : A) → slice_get items i ≡ Some item → (e : Data) × (item_at key i d ≡ Some e) × P item e

-- Item by item, what stands in the list at the key has the property with the items, in their order, and no more stands
-- there.
pub record AreItemsKept {A : Type 0} (P : A → Data → Type 0) (items : List A) (key : List ℕ) (d : Data) : Type 0 where
  pub list : IsListAt key d
  pub each : (i : ℕ) → IsItemKept P items key d i
  pub no_more : item_at key (length items) d ≡ None
