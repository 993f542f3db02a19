-- What the end of `decode` tells of an answer.
use Rattle.std.{proofs.Common.{◌≡◌, ◌≢◌, ℕ, List, Ok, refl, sym, subst}, specs.Prelude.{Option, Some}}
use Rattle.bus_captures.{specs.Captures.{IsCapture}, specs.Values.{EntryValue}, specs.declared.capture.End.{End}}
use Rattle.decoded_texts.specs.Decoding.{IsDecodedBy}
use Rattle.plan_values.specs.declared.plan.Plan.{Plan}
use Rattle.byte_commands.specs.Decoding.{IsDecodedSo}
use Rattle.command_answers.specs.declared.status.Status.{Status}
use Rattle.bus_captures.specs.declared.capture.End.TheVariants as end
use Rattle.command_answers.specs.declared.refused.Refused.TheVariants as refused
use Rattle.command_answers.specs.declared.status.Status.TheVariants as status

pub decoded_so : (plan : Option Plan) (bytes : List ℕ) (entries : List EntryValue) (how : End) (text : List ℕ) (ended : Status) → IsCapture bytes entries how → IsDecodedBy plan entries how text
    → (how ≡ end.Whole → ended ≡ status.Yes) → (how ≢ end.Whole → ended ≡ status.Unreadable) → IsDecodedSo plan bytes ended text
decoded_so plan bytes entries end.Whole text ended is told whole broken =
    subst (λ (s : Status). IsDecodedSo plan bytes s text) (sym (whole refl)) (entries, is, told)
decoded_so plan bytes entries end.Full text ended is told whole broken =
    let other : end.Full ≢ end.Whole = λ e. cc in
    subst (λ (s : Status). IsDecodedSo plan bytes s text) (sym (broken other)) (end.Full, other, (entries, is, told))
decoded_so plan bytes entries (end.Broken place why) text ended is told whole broken =
    let other : end.Broken place why ≢ end.Whole = λ e. cc in
    subst (λ (s : Status). IsDecodedSo plan bytes s text) (sym (broken other)) (end.Broken place why, other, (entries, is, told))
