-- The second byte of a control message (DSP0236, "MCTP control message format").
use Rattle.std.specs.Prelude.{ℕ, ◌+◌, ◌*◌, Bool}
use Rattle.mctp_transport.specs.PacketValues.{bit}
use Rattle.mctp_control.specs.declared.header.ControlHeader.{ControlHeader}

-- the D bit, bit 5, and the instance ID
pub record HeaderValue : Type 0 where
  pub datagram : Bool
  pub reserved : Bool
  pub instance : ℕ

abbrev pub header_value : ControlHeader → HeaderValue
header_value h = record { datagram = h.datagram; reserved = h.reserved; instance = h.instance.value }

-- bit 7 the Rq bit, bit 6 the D bit, bit 5 reserved, bits 4 to 0 the instance ID
abbrev pub header_byte : ℕ → HeaderValue → ℕ
header_byte rq h = 128 * rq + 64 * bit h.datagram + 32 * bit h.reserved + h.instance
