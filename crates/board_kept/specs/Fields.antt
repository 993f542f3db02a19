-- Records that a board gives by the names of their fields.
use Rattle.std.{specs.Prelude.{◌≡◌, ◌≢◌, ◌⊎◌, ℕ, ℤ, nat_eq, if◌then◌else◌, List, [], ◌∷◌, ◌++◌, codes, length, Option, Some, None, is_some, slice_get, string_bytes, ⊤}, specs.Fmt.{decimal, signed_decimal}}
use Rattle.toml.specs.Data.{Data, Members, no_members, member, table, at, as_str, as_integer, as_array}
use Rattle.plan_values.{specs.declared.plan.Plan.{Plan}, specs.declared.nodes.Node.{Node}}
use Rattle.pdr_record.specs.Records.{RecordValue, Spelled, type_of}
use Rattle.record_fields.{specs.Named.{Named, named_fields}, specs.Said.{Says, IsTypeWord}}

-- the word that says what the field of the name holds
abbrev pub word_of : List ℕ → List ℕ → List ℕ
word_of name text = name ++ (codes "=" ++ text)

-- the text names a node that holds the endpoint ID
abbrev pub NamesHolder : Plan → List ℕ → ℕ → Type 0
NamesHolder plan name e = (n : ℕ) × (node : Node) × (slice_get plan.nodes.items n ≡ Some node)
    × (string_bytes node.name.text ≡ name) × (node.eid.value ≡ e)

-- The value stands for this text at a field of the name: a number in decimal digits; a text itself, but at `eid` the
-- endpoint ID of the node that it names.
abbrev pub StandsForText : Plan → List ℕ → Data → List ℕ → Type 0
StandsForText plan name d text =
    ((z : ℤ) × (as_integer d ≡ Some z) × (text ≡ signed_decimal z))
    ⊎ ((name ≢ codes "eid") × (as_str d ≡ Some text))
    ⊎ ((name ≡ codes "eid") × (said : List ℕ) × (as_str d ≡ Some said) × (e : ℕ) × NamesHolder plan said e
    × (text ≡ decimal e))

-- the value stands for what the field of the name holds
abbrev pub IsSaidBy : Plan → List ℕ → Named → Data → Type 0
IsSaidBy plan name field d = (text : List ℕ) × StandsForText plan name d text × Says (word_of name text) field

-- a value of a list; of another value itself, at 0
abbrev pub value_at : ℕ → Data → Option Data
value_at i d = if is_some (as_array d) then at i d else if nat_eq i 0 then Some d else None

-- the second list has those of the fields that have the name, in their order
abbrev pub AreNamed : List ℕ → List Named → List Named → Type 0
AreNamed name [] own = own ≡ []
AreNamed name (field ∷ fields) own = ((field.name ≢ name) × AreNamed name fields own)
    ⊎ ((field.name ≡ name) × (rest : List Named) × (own ≡ field ∷ rest) × AreNamed name fields rest)

-- the value at an index stands for what the field holds
abbrev pub IsSaidOne : Plan → List ℕ → Named → Data → ℕ → Type 0
IsSaidOne plan name field d i = (e : Data) × (value_at i d ≡ Some e) × IsSaidBy plan name field e

-- so it is of the field at the index
abbrev pub IsSaidAt : Plan → List ℕ → List Named → Data → ℕ → Type 0
IsSaidAt plan name own d i = (field : Named) → slice_get own i ≡ Some field → IsSaidOne plan name field d i

-- the list has the field behind the others, if it has the name
abbrev pub AddsIfNamed : List ℕ → Named → List Named → List Named → Type 0
AddsIfNamed name field old new = ((field.name ≢ name) × (new ≡ old)) ⊎ ((field.name ≡ name) × (new ≡ old ++ field ∷ []))

-- the fields hold, one after another, what the values stand for, and there are no more values
pub record AreSaid (plan : Plan) (name : List ℕ) (own : List Named) (d : Data) : Type 0 where
  pub each : (i : ℕ) → IsSaidAt plan name own d i
  pub no_more : value_at (length own) d ≡ None

-- all fields of the name hold, one after another, what the value stands for, or the values of a list
abbrev pub IsFieldGiven : Plan → List Named → List ℕ → Data → Type 0
IsFieldGiven plan fields name d = (own : List Named) × AreNamed name fields own × AreSaid plan name own d

-- each member of a table but `type` and `next` is a field of the record
abbrev pub IsMemberGiven : Plan → List Named → List ℕ → Data → Type 0
IsMemberGiven plan fields name d =
    (name ≡ codes "type") ⊎ (name ≡ codes "next") ⊎ IsFieldGiven plan fields name d

abbrev pub AreMembersGiven : Plan → List Named → Members → Type 0
AreMembersGiven plan fields no_members = ⊤
AreMembersGiven plan fields (member name d rest) =
    IsMemberGiven plan fields name d × AreMembersGiven plan fields rest

-- the bytes are a record's of the type, and so it is of its fields and of the members of the table
pub record IsRecordGiven (plan : Plan) (type bytes : List ℕ) (members : Members) : Type 0 where
  pub whole : RecordValue
  pub spelled : Spelled whole bytes
  pub type_is : IsTypeWord type (type_of whole.body)
  pub given : AreMembersGiven plan (named_fields whole) members

-- so it is of a table
abbrev pub AreFieldsGiven : Plan → List ℕ → List ℕ → Data → Type 0
AreFieldsGiven plan type bytes d = (members : Members) × (d ≡ table members) × IsRecordGiven plan type bytes members
