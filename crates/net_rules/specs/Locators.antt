-- Terminus locators: records that tell under which EID a terminus is found.
use Rattle.std.specs.Prelude.{◌≡◌, ℕ, List, [], ◌∷◌, length, Some}
use Rattle.plan_values.{specs.declared.plan.Plan.{Plan}, specs.declared.terminus.PlannedTerminus.{PlannedTerminus}}
use Rattle.pdr_record.{specs.Layouts.{TerminusValue}, specs.Records.{RecordValue, BodyValue, Spelled}}
use Rattle.net_tables.{specs.Routing.{Holds}, specs.Repositories.{terminus_of}}
use Rattle.plan_values.specs.declared.terminus.PlannedRecord as plan

-- The bytes are those of a terminus locator that is valid and names an MCTP endpoint ID: the locator's TID and value.
pub record IsEidLocator (bytes : List ℕ) (tid : ℕ) (value : List ℕ) : Type 0 where
  pub whole : RecordValue
  pub spelled : Spelled whole bytes
  pub locator : TerminusValue
  pub body : whole.body ≡ BodyValue.Terminus locator
  pub valid : locator.validity ≡ 1
  pub kind : locator.locator_type ≡ 1
  pub tid_is : locator.tid ≡ tid
  pub value_is : locator.locator_value ≡ value

-- where the record is such a locator, its value is of one byte
unfoldable pub HasOneByteAsEid : plan.PlannedRecord → Type 0
HasOneByteAsEid r = (tid : ℕ) (value : List ℕ) → IsEidLocator r.bytes.items tid value → length value ≡ 1

-- a node holds e, and its terminus has the TID
unfoldable pub IsHeldByTerminus : Plan → ℕ → ℕ → Type 0
IsHeldByTerminus plan tid e =
    (n : ℕ) × Holds plan n e × (t : PlannedTerminus) × (terminus_of plan n ≡ Some t) × (t.tid ≡ tid)

-- where the record is such a locator of the one byte e, a node holds e whose terminus has the locator's TID
unfoldable pub LocatesTerminus : Plan → plan.PlannedRecord → ℕ → Type 0
LocatesTerminus plan r e = (tid : ℕ) → IsEidLocator r.bytes.items tid (e ∷ []) → IsHeldByTerminus plan tid e
