-- A response as plain numbers, and its bytes (DSP0236, the commands of these names).
use Rattle.std.{specs.Prelude.{◌≡◌, ◌⊎◌, ℕ, ◌<◌, ◌≤◌, List, [], ◌∷◌, length}, specs.List.{AllByRecursion}}
use Rattle.mctp_transport.specs.Wire.{Spells}
use Rattle.mctp_control.{specs.Headers.{HeaderValue, header_value, header_byte}, specs.Numbers.{command_number}, specs.Statuses.{Pairs, ArePairs, pairs_byte, set_status, endpoint_status, PoolStatusValue, IsPoolStatus, pool_byte, pool_status}, specs.RouteEntries.{EntryValue, IsEntry}, specs.EntryLists.{entries_bytes}, specs.EntriesValue.{entries_of}, specs.declared.response.ControlAnswer.{ControlAnswer}, specs.declared.response.Response.{Response}}
use Rattle.mctp_control.specs.declared.response.ControlAnswer.TheVariants as answer

-- What is answered.
pub data AnswerValue : Type 0 where
  -- the status, the EID, the size of the pool
  EidSet : Pairs → ℕ → ℕ → AnswerValue
  -- the EID, the status, the byte of the medium
  EidTold : ℕ → Pairs → ℕ → AnswerValue
  -- the status, the size of the pool, its first EID
  PoolTold : PoolStatusValue → ℕ → ℕ → AnswerValue
  -- the next entry handle, the entries
  EntriesTold : ℕ → List EntryValue → AnswerValue
  -- the command, a code other than success
  Failed : ℕ → ℕ → AnswerValue

pub record ResponseValue : Type 0 where
  pub header : HeaderValue
  pub answer : AnswerValue

abbrev pub answer_value : ControlAnswer → AnswerValue
answer_value (answer.SetEndpointId status eid size) = EidSet (set_status status) eid.value size
answer_value (answer.GetEndpointId eid status medium) = EidTold eid.value (endpoint_status status) medium
answer_value (answer.AllocateEndpointIds status size first) = PoolTold (pool_status status) size first.value
answer_value (answer.GetRoutingTableEntries next entries) = EntriesTold next (entries_of entries)
answer_value (answer.Failed command failure) = Failed (command_number command) failure.code

abbrev pub response_value : Response → ResponseValue
response_value r = record { header = header_value r.header; answer = answer_value r.answer }

-- the command's number, the completion code (0 is success), and the bytes after it
abbrev pub answer_bytes : AnswerValue → List ℕ
answer_bytes (EidSet status eid size) = 1 ∷ 0 ∷ pairs_byte status ∷ eid ∷ size ∷ []
answer_bytes (EidTold eid status medium) = 2 ∷ 0 ∷ eid ∷ pairs_byte status ∷ medium ∷ []
answer_bytes (PoolTold status size first) = 8 ∷ 0 ∷ pool_byte status ∷ size ∷ first ∷ []
answer_bytes (EntriesTold next entries) = 10 ∷ 0 ∷ next ∷ length entries ∷ entries_bytes entries
answer_bytes (Failed command code) = command ∷ code ∷ []

abbrev pub response_bytes : ResponseValue → List ℕ
response_bytes r = 0 ∷ header_byte 0 r.header ∷ answer_bytes r.answer

-- one of the four commands
abbrev pub IsCommandNumber : ℕ → Type 0
IsCommandNumber n = (n ≡ 1) ⊎ (n ≡ 2) ⊎ (n ≡ 8) ⊎ (n ≡ 10)

-- each field fits its bits, and the entries have at most 58 bytes
abbrev pub IsAnswer : AnswerValue → Type 0
IsAnswer (EidSet status eid size) = ArePairs status × (eid < 256) × (size < 256)
IsAnswer (EidTold eid status medium) = (eid < 256) × ArePairs status × (medium < 256)
IsAnswer (PoolTold status size first) = IsPoolStatus status × (size < 256) × (first < 256)
IsAnswer (EntriesTold next entries) =
    (next < 256) × AllByRecursion IsEntry entries × (length (entries_bytes entries) ≤ 58)
IsAnswer (Failed command code) = IsCommandNumber command × (0 < code) × (code < 256)

pub record IsResponse (r : ResponseValue) : Type 0 where
  pub instance : r.header.instance < 32
  pub answer : IsAnswer r.answer

-- the bytes are the response's, all of them
abbrev pub SpellsResponse : ResponseValue → List ℕ → Type 0
SpellsResponse r bytes = Spells IsResponse response_bytes r bytes
