-- What the messages of these commands stand for.
use Rattle.std.specs.Prelude.{ℕ, List}
use Rattle.pldm_message.{specs.declared.set_tid.SetTid.{SetTid}, specs.declared.set_tid.SetTidAnswer.{SetTidAnswer}, specs.declared.get_tid.GetTid.{GetTid}, specs.declared.get_tid.GetTidAnswer.{GetTidAnswer}, specs.declared.get_pldm_types.GetPldmTypes.{GetPldmTypes}, specs.declared.get_pldm_types.GetPldmTypesAnswer.{GetPldmTypesAnswer}, specs.Messages.{RequestMessage, ResponseMessage}, specs.Heads.{request_of, answer_of}}

abbrev pub set_tid : SetTid → RequestMessage ℕ
set_tid m = request_of m.head m.tid.value

abbrev pub set_tid_answer : SetTidAnswer → ResponseMessage (Unit {0})
set_tid_answer m = answer_of (λ done. done) m.head m.outcome

abbrev pub get_tid : GetTid → RequestMessage (Unit {0})
get_tid m = request_of m.head tt

abbrev pub get_tid_answer : GetTidAnswer → ResponseMessage ℕ
get_tid_answer m = answer_of (λ tid. tid.value) m.head m.outcome

abbrev pub get_pldm_types : GetPldmTypes → RequestMessage (Unit {0})
get_pldm_types m = request_of m.head tt

abbrev pub get_pldm_types_answer : GetPldmTypesAnswer → ResponseMessage (List ℕ)
get_pldm_types_answer m = answer_of (λ types. types.bits) m.head m.outcome
