-- What the messages for parts of records stand for.
use Rattle.pldm_message.{specs.declared.get_pdr_request.GetPdrRequest.{GetPdrRequest}, specs.declared.pdr_part.PdrPart.{PdrPart}, specs.declared.get_pdr_answer.GetPdrAnswer.{GetPdrAnswer}, specs.Messages.{RequestMessage, ResponseMessage}, specs.Heads.{request_of, answer_of}, specs.Pdrs.{PartRequest, Part}}

abbrev pub part_request : GetPdrRequest → PartRequest
part_request r =
    record {
      handle = r.record_handle;
      transfer = r.data_transfer_handle;
      operation = r.operation.value;
      count = r.request_count;
      change = r.record_change_number;
    }

abbrev pub get_pdr_request : GetPdrRequest → RequestMessage PartRequest
get_pdr_request r = request_of r.head (part_request r)

abbrev pub part : PdrPart → Part
part p =
    record {
      next = p.next_record_handle;
      transfer = p.next_data_transfer_handle;
      flag = p.flag.value;
      bytes = p.bytes.now;
      crc = p.transfer_crc;
    }

abbrev pub get_pdr_answer : GetPdrAnswer → ResponseMessage Part
get_pdr_answer a = answer_of part a.head a.outcome
