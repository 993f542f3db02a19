-- The codes of the causes for which a packet is dropped.
use Rattle.std.specs.Prelude.{ℕ, List, codes}
use Rattle.mctp_transport.specs.declared.drop_cause.DropCause.{DropCause}
use Rattle.mctp_transport.specs.declared.drop_cause.DropCause.TheVariants as drop_cause

-- the code that users see
abbrev pub cause_code : DropCause → List ℕ
cause_code drop_cause.NotOpen = codes "A01"
cause_code drop_cause.Number = codes "A02"
cause_code drop_cause.Length = codes "A03"
cause_code drop_cause.Limit = codes "A04"
cause_code drop_cause.Full = codes "A05"
