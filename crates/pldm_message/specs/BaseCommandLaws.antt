-- No two messages of these commands have the same bytes.
use Rattle.std.specs.Prelude.{refl}
use Rattle.pldm_message.{specs.MessageLaws.{IsOneValue, one_request, one_answer}, specs.BaseCommands.{IsNothing, nothing, IsByte, one_byte, AreTypes, type_bits, IsSetTid, set_tid_bytes, IsSetTidResponse, set_tid_answer_bytes, IsGetTid, get_tid_bytes, IsGetTidResponse, get_tid_answer_bytes, IsGetPldmTypes, get_pldm_types_bytes, IsGetPldmTypesResponse, get_pldm_types_answer_bytes}}
use Rattle.pldm_message.specs.declared.command.Command.TheVariants as command

no_data : IsOneValue IsNothing nothing
no_data m n hm hn e = refl

a_byte : IsOneValue IsByte one_byte
a_byte m n hm hn e = cc

the_types : IsOneValue AreTypes type_bits
the_types m n hm hn e = e

pub one_set_tid : IsOneValue IsSetTid set_tid_bytes
one_set_tid m n hm hn e = one_request command.SetTid IsByte one_byte a_byte m n hm hn e

pub one_set_tid_answer : IsOneValue IsSetTidResponse set_tid_answer_bytes
one_set_tid_answer m n hm hn e = one_answer command.SetTid IsNothing nothing no_data m n hm hn e

pub one_get_tid : IsOneValue IsGetTid get_tid_bytes
one_get_tid m n hm hn e = one_request command.GetTid IsNothing nothing no_data m n hm hn e

pub one_get_tid_answer : IsOneValue IsGetTidResponse get_tid_answer_bytes
one_get_tid_answer m n hm hn e = one_answer command.GetTid IsByte one_byte a_byte m n hm hn e

pub one_get_pldm_types : IsOneValue IsGetPldmTypes get_pldm_types_bytes
one_get_pldm_types m n hm hn e = one_request command.GetPldmTypes IsNothing nothing no_data m n hm hn e

pub one_get_pldm_types_answer : IsOneValue IsGetPldmTypesResponse get_pldm_types_answer_bytes
one_get_pldm_types_answer m n hm hn e = one_answer command.GetPldmTypes AreTypes type_bits the_types m n hm hn e
