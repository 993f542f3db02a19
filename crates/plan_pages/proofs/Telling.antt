-- A page that tells its verdict.
use Rattle.std.{proofs.Common.{◌≡◌, ◌++◌, ℕ, List, Result, Ok, Err, subst}, specs.Prelude.{IfOk}}
use Rattle.plan_pages.specs.Pages.{TellsVerdict, verdict_text}

pub tells : {A E : Type 0} (bytes : A → List ℕ) (class verdict before shown after : List ℕ) (result : Result A E) → shown ≡ verdict_text class verdict
    → IfOk result (λ page. bytes page ≡ before ++ (shown ++ after)) → IfOk result (λ page. TellsVerdict class verdict (bytes page))
tells bytes class verdict before shown after (Ok page) is written = (before, after, subst (λ s. bytes page ≡ before ++ (s ++ after)) is written)
tells bytes class verdict before shown after (Err e) is written = tt
