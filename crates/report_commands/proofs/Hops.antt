-- The hops to one node more.
use Rattle.std.{proofs.Common.{◌≡◌, ◌+◌, ◌++◌, ℕ, zero, suc, List, [], ◌∷◌, Option, length, true≢false, ap, subst, sym, ◌∙◌, is_some}, proofs.lemmas.List.{length-append}, proofs.lemmas.Option.{same_Some}}
use Rattle.plan_values.specs.declared.plan.Plan.{Plan}
use Rattle.net_tables.specs.Routing.{OfItem}
use Rattle.report_commands.specs.Reporting.{AreHopsTo}

one_more : {A : Type 0} (items : List A) (x : A) (P : ℕ → A → Type 0) → P (length items) x → ((b : ℕ) → OfItem items b (P b)) → (b : ℕ) → OfItem (items ++ x ∷ []) b (P b)
one_more [] x P is earlier zero = λ item at. subst (P zero) (same_Some x item at) is
one_more [] x P is earlier (suc b) = λ item at. absurd (true≢false (sym (ap is_some at)))
one_more (y ∷ ys) x P is earlier zero = earlier zero
one_more (y ∷ ys) x P is earlier (suc b) = one_more ys x (λ k. P (suc k)) is (λ k. earlier (suc k)) b

pub hops_more : (plan : Plan) (a n : ℕ) (before after : List (Option ℕ)) (found : Option ℕ) → length before ≡ n → ((b : ℕ) → OfItem before b (AreHopsTo plan a b))
    → AreHopsTo plan a n found → after ≡ before ++ found ∷ [] → (length after ≡ n + 1) × ((b : ℕ) → OfItem after b (AreHopsTo plan a b))
hops_more plan a n before after found count earlier is more =
    let last = subst (λ k. AreHopsTo plan a k found) (sym count) is in (
      ap length more ∙ (length-append before (found ∷ []) ∙ ap (λ k. k + 1) count),
      subst (λ items. (b : ℕ) → OfItem items b (AreHopsTo plan a b)) (sym more) (one_more before found (AreHopsTo plan a) last earlier),
    )
