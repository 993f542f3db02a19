-- How many packets an answer with a part is sent in.
use Rattle.std.specs.Prelude.{◌≡◌, ℕ, ◌<◌, ◌≤◌, List, length, is_some, true, Ok}
use Rattle.mctp_transport.{specs.PacketValues.{PacketValue, KeyValue}, specs.Cutting.{ArePacketsOf}}
use Rattle.pldm_message.{specs.Messages.{ResponseMessage}, specs.Pdrs.{PartRequest, Part, get_pdr_answer_bytes}}
use Rattle.pdr_repository.{specs.Records.{Entry}, specs.Parts.{AnswersPart}}

-- these are the answer's packets, to some destination
abbrev pub AreSentFor : ℕ → ResponseMessage Part → List PacketValue → Type 0
AreSentFor unit m packets =
    (destination : ℕ) × (key : KeyValue) × (start : ℕ)
    × ArePacketsOf unit (get_pdr_answer_bytes m) destination key start packets

-- What is answered to a request for at most so many bytes has at most five packets.
abbrev pub FitFive : ℕ → ℕ → Type 0
FitFive unit count =
    (records : List Entry) (r : PartRequest) (m : ResponseMessage Part) (packets : List PacketValue) → r.count ≤ count
    → AnswersPart records r m.outcome → AreSentFor unit m packets → length packets ≤ 5

-- An answer with so many bytes and the check byte has more than five packets.
abbrev pub PassFive : ℕ → ℕ → Type 0
PassFive unit count =
    (m : ResponseMessage Part) (p : Part) (packets : List PacketValue) → m.outcome ≡ Ok p → length p.bytes ≡ count
    → is_some p.crc ≡ true → AreSentFor unit m packets → 5 < length packets
