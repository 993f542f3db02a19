-- How many bytes an answer has.
use Rattle.std.proofs.Common.{◌≤◌, length, arith}
use Rattle.mctp_control.{specs.Responses.{AnswerValue, EidSet, EidTold, PoolTold, EntriesTold, Failed, IsAnswer, answer_bytes}, specs.EntryLists.{entries_bytes}}

-- at most 62
pub fits : (m : AnswerValue) → IsAnswer m → length (answer_bytes m) ≤ 62
fits (EidSet status eid size) h = omega arith
fits (EidTold eid status medium) h = omega arith
fits (PoolTold status size first) h = omega arith
fits (EntriesTold next entries) h = let few : length (entries_bytes entries) ≤ 58 = h.2 in omega (arith, few)
fits (Failed command code) h = omega arith

-- the command's number is one of them
pub some : (m : AnswerValue) → 1 ≤ length (answer_bytes m)
some (EidSet status eid size) = omega arith
some (EidTold eid status medium) = omega arith
some (PoolTold status size first) = omega arith
some (EntriesTold next entries) = omega arith
some (Failed command code) = omega arith
