-- One endpoint ID or several.
use Rattle.std.{proofs.Common.{◌≡◌, ℕ, refl, inl, inr}, specs.Prelude.{◌≢◌}, proofs.lemmas.Bool.Decides.{eqb_tells}}
use Rattle.plan_exports.specs.LinuxScripts.{range_text, span_text}

pub several : (first size : ℕ) → size ≢ 1 → range_text first size ≡ span_text first size
several first size other =
    elim (eqb_tells size 1) [
      | inl same ↦ absurd (other same.1)
      | inr apart ↦ rw apart.0 refl
    ]
