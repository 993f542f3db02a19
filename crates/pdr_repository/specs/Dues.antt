-- What a walker asks next, and how much it may collect.
use Rattle.std.specs.Prelude.{ℕ}
use Rattle.pldm_message.specs.Pdrs.{PartRequest}
use Rattle.pdr_repository.{specs.Faults.{Room}, specs.declared.walker.due.Due.{Due}, specs.declared.walker.judging.Limits.{Limits}}

abbrev pub request_of : ℕ → Due → PartRequest
request_of count due =
    record {
      handle = due.record_handle;
      transfer = due.data_transfer_handle;
      operation = due.operation.value;
      count = count;
      change = due.record_change_number;
    }

abbrev pub room : Limits → Room
room l = record { max_records = l.max_records; max_bytes = l.max_bytes; records = l.records; bytes = l.bytes }
