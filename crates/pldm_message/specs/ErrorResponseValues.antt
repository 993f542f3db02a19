-- What answers with a completion code alone stand for.
use Rattle.pldm_message.{specs.declared.error_response.ErrorResponse.{ErrorResponse}, specs.HeaderValues.{header_value}, specs.ErrorResponses.{ErrorMessage}}

abbrev pub error_response : ErrorResponse → ErrorMessage
error_response a = record { header = header_value a.header; code = a.code.value }
