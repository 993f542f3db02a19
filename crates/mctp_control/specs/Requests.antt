-- A request as plain numbers, and its bytes (DSP0236, the commands of these names).
use Rattle.std.specs.Prelude.{ℕ, ◌+◌, ◌*◌, ◌<◌, List, [], ◌∷◌}
use Rattle.mctp_transport.specs.Wire.{Spells}
use Rattle.mctp_control.{specs.Headers.{HeaderValue, header_value, header_byte}, specs.Numbers.{set_number, allocate_number}, specs.declared.request.ControlCommand.{ControlCommand}, specs.declared.request.Request.{Request}}
use Rattle.mctp_control.specs.declared.request.ControlCommand.TheVariants as command

-- What is asked. Of an operation byte: bits 1 and 0, then bits 7 to 2.
pub data CommandValue : Type 0 where
  -- the operation, its reserved bits, the EID
  SetsEid : ℕ → ℕ → ℕ → CommandValue
  GetsEid : CommandValue
  -- the operation, its reserved bits, the number of EIDs, the first EID
  AllocatesEids : ℕ → ℕ → ℕ → ℕ → CommandValue
  -- the entry handle
  GetsEntries : ℕ → CommandValue

pub record RequestValue : Type 0 where
  pub header : HeaderValue
  pub command : CommandValue

abbrev pub command_value : ControlCommand → CommandValue
command_value (command.SetEndpointId operation reserved eid) = SetsEid (set_number operation) reserved.value eid.value
command_value command.GetEndpointId = GetsEid
command_value (command.AllocateEndpointIds operation reserved size first) =
    AllocatesEids (allocate_number operation) reserved.value size first.value
command_value (command.GetRoutingTableEntries handle) = GetsEntries handle

abbrev pub request_value : Request → RequestValue
request_value r = record { header = header_value r.header; command = command_value r.command }

-- the command's number, and the bytes after it
abbrev pub command_bytes : CommandValue → List ℕ
command_bytes (SetsEid operation reserved eid) = 1 ∷ (4 * reserved + operation) ∷ eid ∷ []
command_bytes GetsEid = 2 ∷ []
command_bytes (AllocatesEids operation reserved size first) = 8 ∷ (4 * reserved + operation) ∷ size ∷ first ∷ []
command_bytes (GetsEntries handle) = 10 ∷ handle ∷ []

abbrev pub request_bytes : RequestValue → List ℕ
request_bytes r = 0 ∷ header_byte 1 r.header ∷ command_bytes r.command

-- each field fits its bits
abbrev pub IsCommand : CommandValue → Type 0
IsCommand (SetsEid operation reserved eid) = (operation < 4) × (reserved < 64) × (eid < 256)
IsCommand GetsEid = Unit {0}
IsCommand (AllocatesEids operation reserved size first) =
    (operation < 4) × (reserved < 64) × (size < 256) × (first < 256)
IsCommand (GetsEntries handle) = handle < 256

pub record IsRequest (r : RequestValue) : Type 0 where
  pub instance : r.header.instance < 32
  pub command : IsCommand r.command

-- the bytes are the request's, all of them
abbrev pub SpellsRequest : RequestValue → List ℕ → Type 0
SpellsRequest r bytes = Spells IsRequest request_bytes r bytes
