-- A text stands for one value at most of what a reading tells.
use Rattle.std.{proofs.Common.{◌≡◌, ℕ, List, Bool, Result, sym, ap, ◌∙◌}, proofs.lemmas.Option.{same_Some}}
use Rattle.serde_json.specs.Data.{Data}
use Rattle.plan_values.{specs.PlanValues.{PlanValue}, specs.CertificateValues.{CertificateValue}, specs.EventValues.{EventEntry}}
use Rattle.net_plan.{specs.declared.error.ValueFault.{ValueFault}, specs.PlanText.{IsPlanOf}, specs.CertificateText.{IsCertificateOf}, specs.EventText.{AreEventsOf}, specs.Texts.{IsJsonTextOf}, proofs.Telling.{Tells, same_Ok}, proofs.PlanLaw.{plan_tells}, proofs.CertificateLaw.{certificate_tells}, proofs.EventLaw.{events_tells}}

one_told : {A : Type 0} (f : Data → Result A ValueFault) (test : A → Bool) (R : Data → A → Type 0) → Tells f test R → (text : List ℕ) (x y : A)
    → IsJsonTextOf R text x → IsJsonTextOf R text y → x ≡ y
one_told f test R t text x y (d, is, single, h) (e, other, alone, g) =
    let same : d ≡ e = same_Some d e (sym is.1 ∙ other.1) in
    same_Ok (sym (t.whole d x h) ∙ (ap f same ∙ t.whole e y g))

pub one_plan : (text : List ℕ) (p q : PlanValue) → IsJsonTextOf IsPlanOf text p → IsJsonTextOf IsPlanOf text q → p ≡ q
one_plan = one_told _ _ IsPlanOf plan_tells

pub one_certificate : (plan : PlanValue) (text : List ℕ) (c d : CertificateValue) → IsJsonTextOf (IsCertificateOf plan) text c → IsJsonTextOf (IsCertificateOf plan) text d → c ≡ d
one_certificate plan = one_told _ _ (IsCertificateOf plan) (certificate_tells plan)

pub one_list : (plan : PlanValue) (text : List ℕ) (es fs : List EventEntry) → IsJsonTextOf (AreEventsOf plan) text es → IsJsonTextOf (AreEventsOf plan) text fs → es ≡ fs
one_list plan = one_told _ _ (AreEventsOf plan) (events_tells plan)
