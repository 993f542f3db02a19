-- Endpoint IDs that devices took and that no node of the plan holds (DSP0236, "Set Endpoint ID").
use Rattle.std.{specs.Prelude.{◌≡◌, ◌≢◌, ◌⊎◌, ℕ, List, [], ◌∷◌, ◌++◌, codes, Option, Some, None}, specs.Fmt.{decimal}}
use Rattle.mctp_control.{specs.Requests.{CommandValue, SetsEid, GetsEid, AllocatesEids, GetsEntries}, specs.Responses.{AnswerValue, EidSet, EidTold, PoolTold, EntriesTold, Failed}}
use Rattle.plan_values.specs.declared.plan.Plan.{Plan}
use Rattle.net_tables.specs.Routing.{IsHeld}
use Rattle.audited_captures.{specs.AsPlanned.{IsAmong}, specs.Exchanges.{ExchangeValue}, specs.Lines.{LineValue, difference}}

-- the endpoint ID that a device was to take
abbrev pub asked_eid : CommandValue → Option ℕ
asked_eid (SetsEid operation reserved eid) = Some eid
asked_eid GetsEid = None
asked_eid (AllocatesEids operation reserved size first) = None
asked_eid (GetsEntries handle) = None

-- the one that it has, as it answered
abbrev pub taken_eid : AnswerValue → Option ℕ
taken_eid (EidSet status eid size) = Some eid
taken_eid (EidTold eid status medium) = None
taken_eid (PoolTold status size first) = None
taken_eid (EntriesTold next entries) = None
taken_eid (Failed command code) = None

-- A device has this endpoint ID, and no node holds it. Nor does a node hold the one that it was to take: else that
-- node's own lines tell of the answer. A device that has the null endpoint ID, 0, has none.
pub record IsStranger (plan : Plan) (x : ExchangeValue) (eid : ℕ) : Type 0 where
  pub asked : ℕ
  pub wanted : asked_eid x.command ≡ Some asked
  pub taken : taken_eid x.answer ≡ Some eid
  pub unplanned : ¬ IsHeld plan asked
  pub unheld : ¬ IsHeld plan eid
  pub not_null : eid ≢ 0

abbrev pub IsOfNone : Plan → ExchangeValue → Type 0
IsOfNone plan x = (eid : ℕ) → ¬ IsStranger plan x eid

abbrev pub stranger_line : ℕ → LineValue
stranger_line eid =
    difference (codes "set eid " ++ (decimal eid ++ (codes ": no node holds " ++ decimal eid)))

abbrev pub AreLinesOf : Plan → ExchangeValue → List LineValue → Type 0
AreLinesOf plan x lines =
    ((eid : ℕ) × IsStranger plan x eid × (lines ≡ stranger_line eid ∷ [])) ⊎ (IsOfNone plan x × (lines ≡ []))

-- a line for each such answer, in the order of the answers
pub data AreStrangerLines (plan : Plan) : List ExchangeValue → List LineValue → Type 0 where
  Empty : AreStrangerLines plan [] []
  More : (xs : List ExchangeValue) (lines : List LineValue) (x : ExchangeValue) (more : List LineValue)
      → AreStrangerLines plan xs lines → AreLinesOf plan x more
      → AreStrangerLines plan (xs ++ x ∷ []) (lines ++ more)

-- none of the answers is of a stranger
abbrev pub HasNoStrangers : Plan → List ExchangeValue → Type 0
HasNoStrangers plan xs = (x : ExchangeValue) → IsAmong x xs → IsOfNone plan x
