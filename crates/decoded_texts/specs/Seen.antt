-- The lines that tell what became of the entries of a capture.
use Rattle.std.{specs.Prelude.{◌≡◌, ℕ, List, [], ◌∷◌, ◌++◌, codes, Option, None, Some}, specs.Fmt.{decimal}}
use Rattle.hex.specs.Hex.{encode_lower}
use Rattle.bus_captures.{specs.declared.capture.Direction.{Direction}, specs.Words.{unread_word}, specs.declared.capture.Unread.{Unread}}
use Rattle.mctp_transport.{specs.Causes.{cause_code}, specs.PacketValues.{PacketValue}, specs.Hearing.{Answer, Whole, Held, Dropped}}
use Rattle.heard_captures.specs.Seen.{Seen, Fed, NoPacket, Told, Other, NotRead}
use Rattle.plan_values.specs.declared.plan.Plan.{Plan}
use Rattle.plan_texts.specs.Shown.{address_words_of, position_words_of, tag_words_of, refused_bytes}
use Rattle.decoded_texts.specs.Names.{names_of}
use Rattle.bus_captures.specs.declared.capture.Direction.TheVariants as direction
use Rattle.bus_captures.specs.declared.capture.Unread.TheVariants as unread
use Rattle.mctp_transport.specs.Refusals as refusals

abbrev pub answer_word : Answer → List ℕ
answer_word (Whole message) = codes "whole"
answer_word Held = codes "held"
answer_word (Dropped cause) = codes "dropped " ++ cause_code cause

abbrev pub way_word : Option Direction → List ℕ
way_word None = codes "message"
way_word (Some direction.Sent) = codes "sent message"
way_word (Some direction.Received) = codes "received message"

-- a packet as it is shown, and behind it, in the same line, these words
abbrev pub packet_line : PacketValue → List ℕ → List ℕ
packet_line p words =
    codes "packet " ++ (address_words_of p ++ (codes " " ++ (position_words_of p ++ (codes " " ++ (tag_words_of p
    ++ (codes " payload " ++ (encode_lower p.payload ++ (words ++ codes "\n"))))))))

abbrev pub fed_line : Option Plan → PacketValue → Answer → List ℕ
fed_line plan p answer = codes " " ++ (answer_word answer ++ (codes " " ++ packet_line p (names_of plan p)))

abbrev pub told_line : Option Direction → List ℕ → List ℕ
told_line way message = codes " " ++ (way_word way ++ (codes " " ++ (encode_lower message ++ codes "\n")))

-- a link type that isn't read, and those that are
abbrev pub link_words : ℕ → List ℕ
link_words number = codes "link " ++ (decimal number ++ codes " (read are 113, 147, 209, 276 and 291)")

-- why something isn't read
abbrev pub unread_words : Unread → List ℕ
unread_words (unread.Link number) = link_words number
unread_words unread.Cut = unread_word unread.Cut
unread_words unread.LinkHeader = unread_word unread.LinkHeader
unread_words unread.Interface = unread_word unread.Interface
unread_words unread.Block = unread_word unread.Block
unread_words unread.NoFrame = unread_word unread.NoFrame
unread_words (unread.Pec told computed) =
    codes "pec " ++ (encode_lower (told ∷ []) ++ (codes " computed " ++ encode_lower (computed ∷ [])))

-- The lines of what was seen, behind what stands before it, with the names that a plan has. What a message says stands
-- behind its line, in whatever words.
abbrev pub IsToldAs : Option Plan → Seen → List ℕ → Type 0
IsToldAs plan (Fed i p answer) lines = (said : List ℕ) × (lines ≡ fed_line plan p answer ++ said)
IsToldAs plan (NoPacket why) lines = lines ≡ codes " " ++ refused_bytes (refusals.code_of why)
IsToldAs plan (Told way message) lines = (said : List ℕ) × (lines ≡ told_line way message ++ said)
IsToldAs plan (Other protocol) lines = lines ≡ codes " protocol " ++ (decimal protocol ++ codes "\n")
IsToldAs plan (NotRead why) lines = lines ≡ codes " unread " ++ (unread_words why ++ codes "\n")
