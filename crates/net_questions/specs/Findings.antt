-- The list of all that looks wrong, and its order.
use Rattle.std.specs.Prelude.{◌≡◌, ◌↔◌, ℕ, List, [], ◌∷◌, ◌++◌, length, Contains, AllPairs, All, ⊤}
use Rattle.plan_values.specs.declared.plan.Plan.{Plan}
use Rattle.net_tables.{specs.Routing.{ports_of, rows_of}, specs.Repositories.{records_of}}
use Rattle.net_rules.specs.Faults.{LessByFirstDifference}
use Rattle.net_questions.{specs.declared.code.Code.{Code}, specs.declared.finding.Finding.{Finding}, specs.declared.finding.Finding.TheVariants.{SharedAddress, MissingAddress, SharedTid, MissingLocator, SharedSensorId, OwnerHasNoWay, NoWayToOwner, IdleRow, PoolEidNotLedOn, LonePort, EmptyReadableRange, Isolated, ForeignMedia, ReservedBinding, ReservedAddress, EmptyBus, CrossedThresholds, UnknownTerminusHandle, UncontainedEntity, OddAddress, ForeignLength, UncarriedUnit, SharedSevenBits}, specs.Lint.{ShareAddress, LacksAddress, IsAloneOnBus, ShareTid, LacksLocator, SharesSensorId, HasNoWayFromOwner, HasNoWayToOwner, HasIdleRow, LeavesHeld, HasEmptyReadableRange, IsIsolated}, specs.Buses.{HasForeignMedia, HasReservedBinding, IsReservedPort, IsEmptyBus}, specs.Sensors.{HasCrossedThresholds, NamesNoTerminus, MeasuresUncontained}, specs.Addresses.{IsOddPort, IsForeignPort, HasUncarriedUnit, ShareSevenBits}}
use Rattle.net_questions.specs.declared.code.Code.TheVariants as code

-- the finding is so in the plan
abbrev pub IsSo : Plan → Finding → Type 0
IsSo plan (SharedAddress n p m q) = ShareAddress plan n p m q
IsSo plan (MissingAddress n p) = LacksAddress plan n p
IsSo plan (SharedTid n m) = ShareTid plan n m
IsSo plan (MissingLocator n) = LacksLocator plan n
IsSo plan (SharedSensorId n j) = SharesSensorId plan n j
IsSo plan (OwnerHasNoWay n m) = HasNoWayFromOwner plan n m
IsSo plan (NoWayToOwner n m) = HasNoWayToOwner plan n m
IsSo plan (IdleRow n r) = HasIdleRow plan n r
IsSo plan (PoolEidNotLedOn n eid) = LeavesHeld plan n eid.value
IsSo plan (LonePort n p) = IsAloneOnBus plan n p
IsSo plan (EmptyReadableRange n j) = HasEmptyReadableRange plan n j
IsSo plan (Isolated n) = IsIsolated plan n
IsSo plan (ForeignMedia b) = HasForeignMedia plan b
IsSo plan (ReservedBinding b) = HasReservedBinding plan b
IsSo plan (ReservedAddress n p) = IsReservedPort plan n p
IsSo plan (EmptyBus b) = IsEmptyBus plan b
IsSo plan (CrossedThresholds n j) = HasCrossedThresholds plan n j
IsSo plan (UnknownTerminusHandle n j) = NamesNoTerminus plan n j
IsSo plan (UncontainedEntity n j) = MeasuresUncontained plan n j
IsSo plan (OddAddress n p) = IsOddPort plan n p
IsSo plan (ForeignLength n p) = IsForeignPort plan n p
IsSo plan (UncarriedUnit b) = HasUncarriedUnit plan b
IsSo plan (SharedSevenBits n p m q) = ShareSevenBits plan n p m q

-- the index of a code among the codes
abbrev pub order_of : Code → ℕ
order_of code.SharedAddress = 0
order_of code.MissingAddress = 1
order_of code.SharedTid = 2
order_of code.MissingLocator = 3
order_of code.SharedSensorId = 4
order_of code.OwnerHasNoWay = 5
order_of code.NoWayToOwner = 6
order_of code.IdleRow = 7
order_of code.PoolEidNotLedOn = 8
order_of code.LonePort = 9
order_of code.EmptyReadableRange = 10
order_of code.Isolated = 11
order_of code.ForeignMedia = 12
order_of code.ReservedBinding = 13
order_of code.ReservedAddress = 14
order_of code.EmptyBus = 15
order_of code.CrossedThresholds = 16
order_of code.UnknownTerminusHandle = 17
order_of code.UncontainedEntity = 18
order_of code.OddAddress = 19
order_of code.ForeignLength = 20
order_of code.UncarriedUnit = 21
order_of code.SharedSevenBits = 22

-- What a finding is about: its code; a node or a bus, and one of the node's ports, rows, records or EIDs; another node,
-- and one of its ports or records. What is not spoken of is 0.
pub record Subject : Type 0 where
  pub code : Code
  pub site : ℕ
  pub item : ℕ
  pub other : ℕ
  pub other_item : ℕ

abbrev pub subject_of : Finding → Subject
subject_of (SharedAddress n p m q) =
    record { code = code.SharedAddress; site = n; item = p; other = m; other_item = q }
subject_of (MissingAddress n p) = record { code = code.MissingAddress; site = n; item = p; other = 0; other_item = 0 }
subject_of (SharedTid n m) = record { code = code.SharedTid; site = n; item = 0; other = m; other_item = 0 }
subject_of (MissingLocator n) = record { code = code.MissingLocator; site = n; item = 0; other = 0; other_item = 0 }
subject_of (SharedSensorId n j) = record { code = code.SharedSensorId; site = n; item = j; other = 0; other_item = 0 }
subject_of (OwnerHasNoWay n m) = record { code = code.OwnerHasNoWay; site = n; item = 0; other = m; other_item = 0 }
subject_of (NoWayToOwner n m) = record { code = code.NoWayToOwner; site = n; item = 0; other = m; other_item = 0 }
subject_of (IdleRow n r) = record { code = code.IdleRow; site = n; item = r; other = 0; other_item = 0 }
subject_of (PoolEidNotLedOn n eid) =
    record { code = code.PoolEidNotLedOn; site = n; item = eid.value; other = 0; other_item = 0 }
subject_of (LonePort n p) = record { code = code.LonePort; site = n; item = p; other = 0; other_item = 0 }
subject_of (EmptyReadableRange n j) =
    record { code = code.EmptyReadableRange; site = n; item = j; other = 0; other_item = 0 }
subject_of (Isolated n) = record { code = code.Isolated; site = n; item = 0; other = 0; other_item = 0 }
subject_of (ForeignMedia b) = record { code = code.ForeignMedia; site = b; item = 0; other = 0; other_item = 0 }
subject_of (ReservedBinding b) = record { code = code.ReservedBinding; site = b; item = 0; other = 0; other_item = 0 }
subject_of (ReservedAddress n p) = record { code = code.ReservedAddress; site = n; item = p; other = 0; other_item = 0 }
subject_of (EmptyBus b) = record { code = code.EmptyBus; site = b; item = 0; other = 0; other_item = 0 }
subject_of (CrossedThresholds n j) =
    record { code = code.CrossedThresholds; site = n; item = j; other = 0; other_item = 0 }
subject_of (UnknownTerminusHandle n j) =
    record { code = code.UnknownTerminusHandle; site = n; item = j; other = 0; other_item = 0 }
subject_of (UncontainedEntity n j) =
    record { code = code.UncontainedEntity; site = n; item = j; other = 0; other_item = 0 }
subject_of (OddAddress n p) = record { code = code.OddAddress; site = n; item = p; other = 0; other_item = 0 }
subject_of (ForeignLength n p) = record { code = code.ForeignLength; site = n; item = p; other = 0; other_item = 0 }
subject_of (UncarriedUnit b) = record { code = code.UncarriedUnit; site = b; item = 0; other = 0; other_item = 0 }
subject_of (SharedSevenBits n p m q) =
    record { code = code.SharedSevenBits; site = n; item = p; other = m; other_item = q }

-- by code, then by what it is about
abbrev pub numbers_of : Subject → List ℕ
numbers_of s = order_of s.code ∷ s.site ∷ s.item ∷ s.other ∷ s.other_item ∷ []

abbrev pub key_of : Finding → List ℕ
key_of f = numbers_of (subject_of f)

abbrev pub ComesBefore : Finding → Finding → Type 0
ComesBefore f g = LessByFirstDifference (key_of f) (key_of g)

-- A finding is in the list exactly where it is so. Each comes before all later ones, by code and then by what it is
-- about, so that none is there twice.
pub record AreFindings (plan : Plan) (findings : List Finding) : Type 0 where
  pub exact : (f : Finding) → Contains findings f ↔ IsSo plan f
  pub ordered : AllPairs ComesBefore findings

-- the numbers begin with these
abbrev pub BeginsWith : List ℕ → List ℕ → Type 0
BeginsWith [] ks = ⊤
BeginsWith (x ∷ xs) [] = ⊥
BeginsWith (x ∷ xs) (k ∷ ks) = (x ≡ k) × BeginsWith xs ks

-- each finding comes before all later ones
abbrev pub Ascend : List Finding → Type 0
Ascend [] = ⊤
Ascend (f ∷ fs) = All (ComesBefore f) fs × Ascend fs

-- these are all of the findings of which something is said, in their order
pub record AreAll (P : Finding → Type 0) (findings : List Finding) : Type 0 where
  pub exact : (f : Finding) → Contains findings f ↔ P f
  pub ascend : Ascend findings

-- the new list is the old one, followed by these
abbrev pub Adds : (Finding → Type 0) → List Finding → List Finding → Type 0
Adds P old new = (more : List Finding) × (new ≡ old ++ more) × AreAll P more

-- what is so in the plan, and begins with these numbers
abbrev pub IsUnder : Plan → List ℕ → Finding → Type 0
IsUnder plan numbers f = IsSo plan f × BeginsWith numbers (key_of f)

-- how many buses a code looks at, or how many nodes
abbrev pub sites_of : Plan → Code → ℕ
sites_of plan code.SharedAddress = length plan.nodes.items
sites_of plan code.MissingAddress = length plan.nodes.items
sites_of plan code.SharedTid = length plan.nodes.items
sites_of plan code.MissingLocator = length plan.nodes.items
sites_of plan code.SharedSensorId = length plan.nodes.items
sites_of plan code.OwnerHasNoWay = length plan.nodes.items
sites_of plan code.NoWayToOwner = length plan.nodes.items
sites_of plan code.IdleRow = length plan.nodes.items
sites_of plan code.PoolEidNotLedOn = length plan.nodes.items
sites_of plan code.LonePort = length plan.nodes.items
sites_of plan code.EmptyReadableRange = length plan.nodes.items
sites_of plan code.Isolated = length plan.nodes.items
sites_of plan code.ForeignMedia = length plan.buses.items
sites_of plan code.ReservedBinding = length plan.buses.items
sites_of plan code.ReservedAddress = length plan.nodes.items
sites_of plan code.EmptyBus = length plan.buses.items
sites_of plan code.CrossedThresholds = length plan.nodes.items
sites_of plan code.UnknownTerminusHandle = length plan.nodes.items
sites_of plan code.UncontainedEntity = length plan.nodes.items
sites_of plan code.OddAddress = length plan.nodes.items
sites_of plan code.ForeignLength = length plan.nodes.items
sites_of plan code.UncarriedUnit = length plan.buses.items
sites_of plan code.SharedSevenBits = length plan.nodes.items

-- how many items of a node a code looks at; one where it speaks of none
abbrev pub items_of : Plan → Code → ℕ → ℕ
items_of plan code.SharedAddress n = length (ports_of plan n)
items_of plan code.MissingAddress n = length (ports_of plan n)
items_of plan code.SharedTid n = 1
items_of plan code.MissingLocator n = 1
items_of plan code.SharedSensorId n = length (records_of plan n)
items_of plan code.OwnerHasNoWay n = 1
items_of plan code.NoWayToOwner n = 1
items_of plan code.IdleRow n = length (rows_of plan n)
items_of plan code.PoolEidNotLedOn n = 256
items_of plan code.LonePort n = length (ports_of plan n)
items_of plan code.EmptyReadableRange n = length (records_of plan n)
items_of plan code.Isolated n = 1
items_of plan code.ForeignMedia n = 1
items_of plan code.ReservedBinding n = 1
items_of plan code.ReservedAddress n = length (ports_of plan n)
items_of plan code.EmptyBus n = 1
items_of plan code.CrossedThresholds n = length (records_of plan n)
items_of plan code.UnknownTerminusHandle n = length (records_of plan n)
items_of plan code.UncontainedEntity n = length (records_of plan n)
items_of plan code.OddAddress n = length (ports_of plan n)
items_of plan code.ForeignLength n = length (ports_of plan n)
items_of plan code.UncarriedUnit n = 1
items_of plan code.SharedSevenBits n = length (ports_of plan n)

-- how many other nodes a code looks at; one where it speaks of none
abbrev pub others_of : Plan → Code → ℕ
others_of plan code.SharedAddress = length plan.nodes.items
others_of plan code.MissingAddress = 1
others_of plan code.SharedTid = length plan.nodes.items
others_of plan code.MissingLocator = 1
others_of plan code.SharedSensorId = 1
others_of plan code.OwnerHasNoWay = length plan.nodes.items
others_of plan code.NoWayToOwner = length plan.nodes.items
others_of plan code.IdleRow = 1
others_of plan code.PoolEidNotLedOn = 1
others_of plan code.LonePort = 1
others_of plan code.EmptyReadableRange = 1
others_of plan code.Isolated = 1
others_of plan code.ForeignMedia = 1
others_of plan code.ReservedBinding = 1
others_of plan code.ReservedAddress = 1
others_of plan code.EmptyBus = 1
others_of plan code.CrossedThresholds = 1
others_of plan code.UnknownTerminusHandle = 1
others_of plan code.UncontainedEntity = 1
others_of plan code.OddAddress = 1
others_of plan code.ForeignLength = 1
others_of plan code.UncarriedUnit = 1
others_of plan code.SharedSevenBits = length plan.nodes.items

-- how many other items a code looks at; one where it speaks of none
abbrev pub other_items_of : Plan → Code → ℕ → ℕ
other_items_of plan code.SharedAddress m = length (ports_of plan m)
other_items_of plan code.MissingAddress m = 1
other_items_of plan code.SharedTid m = 1
other_items_of plan code.MissingLocator m = 1
other_items_of plan code.SharedSensorId m = 1
other_items_of plan code.OwnerHasNoWay m = 1
other_items_of plan code.NoWayToOwner m = 1
other_items_of plan code.IdleRow m = 1
other_items_of plan code.PoolEidNotLedOn m = 1
other_items_of plan code.LonePort m = 1
other_items_of plan code.EmptyReadableRange m = 1
other_items_of plan code.Isolated m = 1
other_items_of plan code.ForeignMedia m = 1
other_items_of plan code.ReservedBinding m = 1
other_items_of plan code.ReservedAddress m = 1
other_items_of plan code.EmptyBus m = 1
other_items_of plan code.CrossedThresholds m = 1
other_items_of plan code.UnknownTerminusHandle m = 1
other_items_of plan code.UncontainedEntity m = 1
other_items_of plan code.OddAddress m = 1
other_items_of plan code.ForeignLength m = 1
other_items_of plan code.UncarriedUnit m = 1
other_items_of plan code.SharedSevenBits m = length (ports_of plan m)
