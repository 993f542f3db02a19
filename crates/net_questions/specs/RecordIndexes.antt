-- The first records of a node by what they have.
use Rattle.std.{specs.Prelude.{◌≡◌, ◌≢◌, ◌↔◌, ◌⊎◌, ℕ, ◌<◌, List, Option, Some, None, MatchOption, length, slice_get, IsTrue, Contains}, specs.Ordering.{nat_cmp, ordering_then}, specs.declared.cmp.Ordering.{Ordering}, specs.BTreeMap.{BTreeMap, get}, specs.BTreeSet.{BTreeSet, contains}}
use Rattle.plan_values.{specs.declared.plan.Plan.{Plan}, specs.declared.terminus.PlannedRecord.{PlannedRecord}}
use Rattle.net_tables.specs.Repositories.{records_of}
use Rattle.pdr_record.{specs.Layouts.{AssociationValue, EntityValue}, specs.Records.{BodyValue}}
use Rattle.net_questions.{specs.Lint.{IsSensorRecord}, specs.Sensors.{IsLocatorOf, HasAssociationOf}, specs.declared.lints.record_index.RecordIndex.{RecordIndex}}

-- the terminus handle of a body, if it is a terminus locator's
abbrev pub handle_of : BodyValue → Option ℕ
handle_of (BodyValue.Terminus t) = Some t.terminus_handle
handle_of (BodyValue.Numeric n) = None
handle_of (BodyValue.State s) = None
handle_of (BodyValue.Association a) = None
handle_of (BodyValue.Other number bytes) = None

-- of the bytes of n's record j this is said of the number
abbrev pub IsOfRecord : (List ℕ → ℕ → Type 0) → Plan → (n j number : ℕ) → Type 0
IsOfRecord Is plan n j number =
    (r : PlannedRecord) × (slice_get (records_of plan n) j ≡ Some r) × Is r.bytes.items number

-- the index is the first of which it is so, or it is so of none
abbrev pub IsFirst : (ℕ → Type 0) → Option ℕ → Type 0
IsFirst Is None = (j : ℕ) → ¬ Is j
IsFirst Is (Some i) = Is i × ((j : ℕ) → j < i → ¬ Is j)

-- a number has the index of n's first record of which this is said of it
abbrev pub AreFirst : (List ℕ → ℕ → Type 0) → Plan → ℕ → BTreeMap ℕ ℕ → Type 0
AreFirst Is plan n first = (number : ℕ) → IsFirst (λ j. IsOfRecord Is plan n j number) (get nat_cmp first number)

-- ---- entities

-- what entities are told apart by
abbrev pub entity_key : EntityValue → ℕ × ℕ × ℕ
entity_key e = (e.entity_type, e.instance_number, e.container_id)

-- by the entity type, the instance number and the container, in this order
abbrev pub by_entity : (ℕ × ℕ × ℕ) → (ℕ × ℕ × ℕ) → Ordering
by_entity p q = ordering_then (ordering_then (nat_cmp p.0 q.0) (nat_cmp p.1 q.1)) (nat_cmp p.2 q.2)

-- the set has the entity
abbrev pub HasEntity : BTreeSet (ℕ × ℕ × ℕ) → EntityValue → Type 0
HasEntity set e = IsTrue (contains by_entity set (entity_key e))

-- the set has just the entities that n's associations contain
abbrev pub AreContained : Plan → ℕ → BTreeSet (ℕ × ℕ × ℕ) → Type 0
AreContained plan n set = (e : EntityValue) → HasEntity set e ↔ HasAssociationOf plan n e

-- the body is an entity association's, which has the entity among those that are contained
abbrev pub AssociatesIn : BodyValue → EntityValue → Type 0
AssociatesIn body e =
    (a : AssociationValue) × (body ≡ BodyValue.Association a) × Contains a.contained_entities e

-- the set gets just the entities of which it is so, and keeps those that it has
abbrev pub NotesEntities : BTreeSet (ℕ × ℕ × ℕ) → (EntityValue → Type 0) → BTreeSet (ℕ × ℕ × ℕ) → Type 0
NotesEntities old Is new = (e : EntityValue) → HasEntity new e ↔ (HasEntity old e ⊎ Is e)

-- ---- indexes

-- of the node's records
pub record IsRecordIndex (plan : Plan) (n : ℕ) (index : RecordIndex) : Type 0 where
  pub sensors : AreFirst IsSensorRecord plan n index.sensors
  pub locators : AreFirst IsLocatorOf plan n index.locators
  pub contained : AreContained plan n index.contained

-- an index for each node
pub record AreRecordIndexes (plan : Plan) (indexes : List RecordIndex) : Type 0 where
  pub each : (n : ℕ) (index : RecordIndex) → slice_get indexes n ≡ Some index → IsRecordIndex plan n index
  pub all : length indexes ≡ length plan.nodes.items

-- the number gets this index where it had none, and all others keep theirs
pub record Notes (old : BTreeMap ℕ ℕ) (number at : ℕ) (new : BTreeMap ℕ ℕ) : Type 0 where
  pub here : MatchOption (get nat_cmp old number) (get nat_cmp new number ≡ Some at)
      (λ had. get nat_cmp new number ≡ Some had)
  pub others : (other : ℕ) → number ≢ other → get nat_cmp new other ≡ get nat_cmp old other

-- so it is where there is a number
abbrev pub NotesAny : BTreeMap ℕ ℕ → Option ℕ → ℕ → BTreeMap ℕ ℕ → Type 0
NotesAny old None at new = new ≡ old
NotesAny old (Some number) at new = Notes old number at new
