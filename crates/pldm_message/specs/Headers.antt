-- The four bytes that each PLDM message begins with (DSP0240, PLDM message fields).
use Rattle.std.specs.Prelude.{◌≡◌, ℕ, ◌<◌, ◌+◌, ◌*◌, Bool, List, [], ◌∷◌, take}
use Rattle.mctp_transport.specs.PacketValues.{bit}
use Rattle.pldm_message.{specs.declared.kind.MessageKind.{MessageKind}, specs.declared.kind.MessageKind.TheVariants.{Request, Datagram, Response}}

-- a message's header: what it is, the reserved bit, the instance ID, the PLDM type and the command
pub record HeaderValue : Type 0 where
  pub kind : MessageKind
  pub reserved : Bool
  pub instance : ℕ
  pub pldm_type : ℕ
  pub command : ℕ

-- bit 1 is Rq and bit 0 is D
abbrev pub kind_bits : MessageKind → ℕ
kind_bits Request = 2
kind_bits Datagram = 3
kind_bits Response = 0

-- bit 7 Rq, bit 6 D, bit 5 reserved, bits 4 to 0 the instance ID
abbrev pub instance_byte : HeaderValue → ℕ
instance_byte h = 64 * kind_bits h.kind + 32 * bit h.reserved + h.instance

-- the MCTP message type 1; the byte above; the header version 0 in bits 7 and 6 and the PLDM type below; the command
abbrev pub header_bytes : HeaderValue → List ℕ
header_bytes h = 1 ∷ instance_byte h ∷ h.pldm_type ∷ h.command ∷ []

-- each field fits its bits
pub record IsHeader (h : HeaderValue) : Type 0 where
  pub instance : h.instance < 32
  pub pldm_type : h.pldm_type < 64
  pub command : h.command < 256

-- the message begins with this header
abbrev pub BeginsWith : HeaderValue → List ℕ → Type 0
BeginsWith h message = IsHeader h × (take 4 message ≡ header_bytes h)
