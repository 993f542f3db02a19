-- No two answers with a completion code alone have the same bytes.
use Rattle.std.specs.Prelude.{◌≡◌}
use Rattle.pldm_message.{specs.HeaderLaws.{one_header}, specs.MessageLaws.{IsOneValue}, specs.ErrorResponses.{ErrorMessage, IsErrorResponse, error_response_bytes}}

same_message : (m n : ErrorMessage) → m.header ≡ n.header → m.code ≡ n.code → m ≡ n
same_message m n h c = λ j. record { header = h j; code = c j }

pub one_error_response : IsOneValue IsErrorResponse error_response_bytes
one_error_response m n hm hn e = same_message m n (one_header m.header n.header hm.header hn.header (cc)) (cc)
