-- The order of the rules.
use Rattle.std.{proofs.Common.{zero-add, ◌≡◌, ℕ, zero, ◌+◌, ◌<◌, List, [], ◌∷◌, get_or, Some, refl, sym, ◌∙◌, ap, subst, arith, inl, inr, Option}, specs.Prelude.{slice_get}, proofs.lemmas.Bool.{cases_lt}, proofs.lemmas.List.{get_or-map}, proofs.lemmas.List.FromFn.{get_or-range_with_len}, proofs.lemmas.Option.{same_Some, slice_get_within}}
use Rattle.net_rules.{specs.declared.fault.Fault.{Fault}, specs.declared.rule.Rule.{Rule}, specs.declared.rule.Rule.TheVariants.{C01, C02, C03, C04, C05, C06, C07, C08, C09, C10, C11, C12, C13, C14, C15, C16}, specs.Faults.{FaultSite, site_of, order_of, ComesBefore}, specs.MoveSearch.{IsFirstByRule, IsFirstByRules}}
use Rattle.net_tables.specs.Routing.{eid_number}

abbrev in_order : List Rule
in_order = C01 ∷ C02 ∷ C03 ∷ C04 ∷ C05 ∷ C06 ∷ C07 ∷ C08 ∷ C09 ∷ C10 ∷ C11 ∷ C12 ∷ C13 ∷ C14 ∷ C15 ∷ C16 ∷ []

stands_in_order : (rule : Rule) → slice_get in_order (order_of rule) ≡ Some rule
stands_in_order C01 = refl
stands_in_order C02 = refl
stands_in_order C03 = refl
stands_in_order C04 = refl
stands_in_order C05 = refl
stands_in_order C06 = refl
stands_in_order C07 = refl
stands_in_order C08 = refl
stands_in_order C09 = refl
stands_in_order C10 = refl
stands_in_order C11 = refl
stands_in_order C12 = refl
stands_in_order C13 = refl
stands_in_order C14 = refl
stands_in_order C15 = refl
stands_in_order C16 = refl

pub one_order : (a b : Rule) → order_of a ≡ order_of b → a ≡ b
one_order a b same = same_Some a b (sym (stands_in_order a) ∙ (ap (λ k. slice_get in_order k) same ∙ stands_in_order b))

pub order_at : (k : ℕ) (d : Rule) → k < 16 → order_of (get_or in_order k d) ≡ k
order_at k d less = sym (get_or-map order_of in_order k d 0 less) ∙ get_or-range_with_len 0 16 k 0 less ∙ zero-add k

-- each rule has a lesser order than their number
pub all_below : (rule : Rule) → order_of rule < 16
all_below rule = slice_get_within in_order (order_of rule) rule (stands_in_order rule)

-- what holds of the rules before one and of the one itself holds of one more
pub below_more : (P : Rule → Type 0) (rule : Rule) → ((other : Rule) → order_of other < order_of rule → P other) → P rule → (other : Rule) → order_of other < order_of rule + 1 → P other
below_more P rule before here other less = elim (cases_lt (order_of other) (order_of rule)) [
  | inl earlier ↦ before other earlier
  | inr now ↦ subst P (one_order rule other (omega (arith, less, now))) here
]

-- the same for the rule at a place of their list
pub more_hold : (P : Rule → Type 0) (k : ℕ) (d : Rule) → k < 16 → ((other : Rule) → order_of other < k → P other) → P (get_or in_order k d) → (other : Rule) → order_of other < k + 1 → P other
more_hold P k d within before here other less =
    let at = order_at k d within in
    below_more P (get_or in_order k d) (λ earlier lt. before earlier (omega (arith, lt, at))) here other (omega (arith, less, at))

-- the first fault of the first rule that has one is the first of all
pub first_by_rules : (D : Rule → ℕ → Option ℕ → Option ℕ → Type 0) (k : ℕ) (d : Rule) (fault : Fault) → k < 16
    → ((other : Rule) → order_of other < k → (n : ℕ) (entry eid : Option ℕ) → D other n entry eid)
    → IsFirstByRule D (get_or in_order k d) (Some fault) → IsFirstByRules D (Some fault)
first_by_rules D k d fault within before (here, broken, first) =
    (let P : Rule → Type 0 = λ rule. ¬ D rule fault.node fault.entry (eid_number fault.eid) in subst P (sym here) broken, λ other earlier. met other earlier)
  where
    met : (other : FaultSite) → ComesBefore other (site_of fault) → D other.rule other.node other.entry other.eid
    met other earlier = elim earlier [
      | inl less ↦ before other.rule (let at = order_at k d within in let same = ap order_of here in omega (arith, less, at, same)) other.node other.entry other.eid
      | inr (same, rest) ↦
          (let P : Rule → Type 0 = λ rule. D rule other.node other.entry other.eid in
          subst P (sym (one_order other.rule fault.rule same ∙ here)) (first other.node other.entry other.eid rest))
    ]
