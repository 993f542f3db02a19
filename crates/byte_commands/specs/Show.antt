-- What the end of `show` says of the bytes that it was given.
use Rattle.std.specs.Prelude.{◌≡◌, ℕ, List, Ok, Err}
use Rattle.hex.{specs.Hex.{decode_of}, specs.declared.error.FromHexError.{FromHexError}}
use Rattle.mctp_transport.{specs.declared.packet_error.PacketError.{PacketError}, specs.PacketValues.{PacketValue, Spelled}}
use Rattle.pdr_record.{specs.declared.record_error.RecordError.{RecordError}, specs.Faults.{IsFault}}
use Rattle.command_questions.specs.declared.words.ShownKind.{ShownKind}
use Rattle.command_answers.{specs.declared.refused.Refused.{Refused}, specs.declared.status.Status.{Status}, specs.Statuses.{HasCause}}
use Rattle.plan_texts.specs.Shown.{refused_bytes, packet_bytes, record_text_bytes}
use Rattle.mctp_transport.specs.declared.packet_error.PacketError.TheVariants as packet
use Rattle.mctp_transport.specs.Refusals as refusals
use Rattle.pdr_record.specs.Codes as records
use Rattle.pdr_record.specs.Records as record_of
use Rattle.command_questions.specs.declared.words.ShownKind.TheVariants as kind
use Rattle.command_answers.specs.declared.status.Status.TheVariants as status

-- the hex text, in digits of either case, is that of the bytes
abbrev pub IsDecoded : List ℕ → List ℕ → Type 0
IsDecoded text bytes = decode_of text ≡ Ok bytes

-- the text is none of any bytes
abbrev pub IsNoHex : List ℕ → Type 0
IsNoHex text = (e : FromHexError) × (decode_of text ≡ Err e)

-- why bytes are no packet: the first of the causes
abbrev pub IsNoPacketFor : PacketError → List ℕ → Type 0
IsNoPacketFor packet.Short bytes = refusals.IsShort bytes
IsNoPacketFor packet.Empty bytes = ¬ refusals.IsShort bytes × refusals.IsEmpty bytes
IsNoPacketFor packet.Long bytes = refusals.IsLong 64 bytes
IsNoPacketFor packet.Version bytes =
    ¬ refusals.IsShort bytes × ¬ refusals.IsEmpty bytes × ¬ refusals.IsLong 64 bytes × refusals.HasOtherVersion bytes

-- the text tells what the bytes are of the kind, or the code of the cause for which they are none
abbrev pub IsShown : Status → ShownKind → List ℕ → List ℕ → Type 0
IsShown status.Yes kind.Packet bytes text = (f : PacketValue) × Spelled 64 f bytes × (text ≡ packet_bytes f)
IsShown status.Yes kind.Record bytes text =
    (r : record_of.RecordValue) × record_of.Spelled r bytes × (text ≡ record_text_bytes r)
IsShown status.Fault kind.Packet bytes text =
    (e : PacketError) × IsNoPacketFor e bytes × (text ≡ refused_bytes (refusals.code_of e))
IsShown status.Fault kind.Record bytes text =
    (e : RecordError) × IsFault e bytes × (text ≡ refused_bytes (records.code_of e))
IsShown status.Unreadable asked bytes text = ⊥
IsShown status.NoMemory asked bytes text = ⊥

-- the text tells what the bytes of the hex text are of the kind, or why they are none, in a run that ends so
abbrev pub ShowsSo : ShownKind → List ℕ → Status → List ℕ → Type 0
ShowsSo asked hex ended text = (bytes : List ℕ) × IsDecoded hex bytes × IsShown ended asked bytes text

-- why nothing is shown: the text is no hex, or memory is wanting
abbrev pub IsNotShown : List ℕ → Refused → Type 0
IsNotShown hex why = HasCause (λ unread cause. ⊥) ⊥ (IsNoHex hex) ⊥ why
