-- Requests for parts of records with the answers to them (DSP0248, GetPDR).
use Rattle.std.specs.Prelude.{ℕ, ◌==◌, List, [], ◌∷◌, ◌++◌, Option, None, Some, if◌then◌else◌, option_map, option_to_list}
use Rattle.pdr_repository.specs.Parts.{PartAnswer}
use Rattle.pldm_message.{specs.Heads.{outcome_value}, specs.PdrValues.{part, part_request}, specs.Pdrs.{PartRequest}}
use Rattle.audited_captures.{specs.Exchanges.{concerns, last_that}, specs.Words.{WordValue, BodyValue, AsksPart, TellsPart}, specs.declared.record_parts.RecordPart.{RecordPart}}

-- what was asked for, and what was answered: a part, a completion code, or bytes that are no answer to it
pub record RecordPartValue : Type 0 where
  pub asked : PartRequest
  pub told : Option PartAnswer

abbrev pub record_part_value : RecordPart → RecordPartValue
record_part_value p = record { asked = part_request p.request; told = option_map (outcome_value part) p.told }

-- an answer ends what asked for it
abbrev pub part_between : BodyValue → BodyValue → Option RecordPartValue
part_between (AsksPart request) (TellsPart told) = Some (record { asked = request.body; told = told })
part_between asks answers = None

abbrev pub part_ended : WordValue → Option WordValue → Option RecordPartValue
part_ended word None = None
part_ended word (Some earlier) = part_between earlier.body word.body

-- what a word of an endpoint ID's device answers, if the last word before it that concerns it asks for a part
abbrev pub record_part_of : ℕ → List WordValue → WordValue → Option RecordPartValue
record_part_of eid before word =
    if word.responder == eid then part_ended word (last_that (concerns word) before) else None

-- what an endpoint ID's device answered of its records, in the order of the answers
pub data AreRecordParts (eid : ℕ) : List WordValue → List RecordPartValue → Type 0 where
  Empty : AreRecordParts eid [] []
  More : (ws : List WordValue) (ps : List RecordPartValue) (w : WordValue) → AreRecordParts eid ws ps
      → AreRecordParts eid (ws ++ w ∷ []) (ps ++ option_to_list (record_part_of eid ws w))
