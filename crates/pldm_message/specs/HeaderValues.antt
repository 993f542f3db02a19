-- What the headers of the code stand for.
use Rattle.pldm_message.{specs.declared.header.PldmHeader.{PldmHeader}, specs.Headers.{HeaderValue}}

abbrev pub header_value : PldmHeader → HeaderValue
header_value h =
    record {
      kind = h.kind;
      reserved = h.reserved;
      instance = h.instance.value;
      pldm_type = h.pldm_type.value;
      command = h.command;
    }
