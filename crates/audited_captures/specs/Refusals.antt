-- Entries of a capture that should be packets and are none.
use Rattle.std.{specs.Prelude.{◌≡◌, ℕ, ◌+◌, List, [], ◌∷◌, ◌++◌, length, codes}, specs.Fmt.{decimal}}
use Rattle.bus_captures.{specs.Values.{EntryValue}, specs.Words.{unread_word}}
use Rattle.heard_captures.specs.Seen.{IsNoPacketFor}
use Rattle.mctp_transport.specs.Refusals.{code_of}
use Rattle.audited_captures.{specs.Lines.{LineValue, silence}, specs.declared.refusals.Cause.{Cause}, specs.declared.refusals.Refusal.{Refusal}}
use Rattle.audited_captures.specs.declared.refusals.Cause.TheVariants as cause
use Rattle.bus_captures.specs.declared.capture.Kind.TheVariants as kind

-- the entry is no packet within the transmission unit, and this is the first cause; or it isn't read, and why
abbrev pub IsRefused : (unit : ℕ) → EntryValue → Cause → Type 0
IsRefused unit e (cause.NoPacket why) = (e.kind ≡ kind.Packet) × IsNoPacketFor unit why e.bytes
IsRefused unit e (cause.Unread why) = e.kind ≡ kind.Unread why

abbrev pub IsNotRefused : (unit : ℕ) → EntryValue → Type 0
IsNotRefused unit e = (why : Cause) → ¬ IsRefused unit e why

-- the code of what is no packet, or the word for what isn't read
abbrev pub cause_code : Cause → List ℕ
cause_code (cause.NoPacket why) = code_of why
cause_code (cause.Unread why) = unread_word why

abbrev pub refusal : ℕ → Cause → Refusal
refusal number why = record { number = number; why = why }

-- these are the entries that are refused, which are numbered from 1
pub data AreRefusals (unit : ℕ) : List EntryValue → List Refusal → Type 0 where
  None : AreRefusals unit [] []
  Other : (entries : List EntryValue) (rs : List Refusal) (e : EntryValue) → AreRefusals unit entries rs
      → IsNotRefused unit e → AreRefusals unit (entries ++ e ∷ []) rs
  More : (entries : List EntryValue) (rs : List Refusal) (e : EntryValue) (why : Cause)
      → AreRefusals unit entries rs → IsRefused unit e why
      → AreRefusals unit (entries ++ e ∷ []) (rs ++ refusal (length entries + 1) why ∷ [])

-- how many there are, and where the first one stands
abbrev pub refused_text : (count : ℕ) → Refusal → List ℕ
refused_text count first =
    codes "refused " ++ (decimal count ++ (codes " (first at packet " ++ (decimal first.number
    ++ (codes ": " ++ (cause_code first.why ++ codes ")")))))

-- the remark on them, if there are some
abbrev pub refused_lines : List Refusal → List LineValue
refused_lines [] = []
refused_lines (r ∷ rs) = silence (refused_text (length (r ∷ rs)) r) ∷ []

-- the remark on what was refused of these entries, of which there are so many
abbrev pub IsRefusedOf : (unit : ℕ) → List EntryValue → List LineValue → ℕ → Type 0
IsRefusedOf unit entries lines count =
    (rs : List Refusal) × AreRefusals unit entries rs × (lines ≡ refused_lines rs) × (count ≡ length rs)
