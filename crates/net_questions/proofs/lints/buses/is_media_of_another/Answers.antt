use Rattle.std.proofs.Common.{refl}
use Rattle.net_questions.proofs.lints.buses.is_media_of_another.Goals as goal

pub returns-in-Some : goal.returns-in-Some
returns-in-Some c = (
  λ h. (
      let (least, most, apart) = c.is_another.ensures.0 h in
      (least, most, c.in-Some.other, (c.in-Some.ensures c.in-Some.other).0 refl, apart)),
  λ (least, most, other, of, apart). (
      let same = (c.in-Some.ensures other).1 of in
      c.is_another.ensures.1 (least, most, λ is. apart (cc (same, is)))),
)

pub returns-in-None : goal.returns-in-None
returns-in-None c = (λ h. absurd (cc h), λ (least, most, other, of, apart). absurd (cc ((c.in-None.ensures other).1 of)))
