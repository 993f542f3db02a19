-- Lists of faults of one kind, in order, made one after another.
use Rattle.std.{proofs.Common.{◌≡◌, ℕ, zero, suc, ◌+◌, List, [], ◌∷◌, ◌++◌, Option, Some, None, true, false, refl, ap, subst, arith, inl, inr}, specs.Prelude.{slice_get, unwrap_or}, proofs.lemmas.Option.{slice_get_within}}
use Rattle.net_rules.specs.Faults.{LessByFirstDifference}
use Rattle.net_faults.{specs.declared.plan_fault.PlanFault.{PlanFault}, specs.PlanFaults.{Ascend, key_of, first_of}}
use Rattle.net_tables.proofs.Elements.{in_push}

-- an order of numbers
pub less_trans_one : (ks : List ℕ) (n : ℕ) → LessByFirstDifference ks (n ∷ []) → LessByFirstDifference ks ((n + 1) ∷ [])
less_trans_one [] n less = absurd less
less_trans_one (k ∷ ks) n (inl lt) = inl (omega (arith, lt))
less_trans_one (k ∷ ks) n (inr (same, rest)) = absurd (never ks rest)
  where
    never : (ls : List ℕ) → ¬ LessByFirstDifference ls []
    never [] less = less
    never (l ∷ ls) less = less

pub less_trans_two : (ks : List ℕ) (e n : ℕ) → LessByFirstDifference ks (e ∷ n ∷ []) → LessByFirstDifference ks (e ∷ (n + 1) ∷ [])
less_trans_two [] e n less = absurd less
less_trans_two (k ∷ ks) e n (inl lt) = inl lt
less_trans_two (k ∷ ks) e n (inr (same, rest)) = inr (same, less_trans_one ks n rest)

pub less_next : (ks : List ℕ) (e n : ℕ) → LessByFirstDifference ks (e ∷ n ∷ []) → LessByFirstDifference ks ((e + 1) ∷ 0 ∷ [])
less_next [] e n less = absurd less
less_next (k ∷ ks) e n (inl lt) = inl (omega (arith, lt))
less_next (k ∷ ks) e n (inr (same, rest)) = inl (omega (arith, same))

-- one more in order
pub ascend_more : (found : List PlanFault) (g : PlanFault) → Ascend found → ((i : ℕ) (f : PlanFault) → slice_get found i ≡ Some f → LessByFirstDifference (key_of f) (key_of g)) → Ascend (found ++ g ∷ [])
ascend_more found g up below i j f h less here there = elim (in_push found g j h there) [
  | inl before ↦ (
      let lt = slice_get_within found j h before in
      elim (in_push found g i f here) [
        | inl was ↦ up i j f h less was before
        | inr (last, _) ↦ absurd (omega (arith, last, lt, less))
      ])
  | inr (last, same) ↦ elim (in_push found g i f here) [
    | inl was ↦ subst (λ x. LessByFirstDifference (key_of f) (key_of x)) same (below i f was)
    | inr (last', _) ↦ absurd (omega (arith, last, last', less))
  ]
]

-- what is said of each of them, also of one more
pub each_more : (P : PlanFault → Type 0) (found : List PlanFault) (g : PlanFault) → ((i : ℕ) (f : PlanFault) → slice_get found i ≡ Some f → P f) → P g → (i : ℕ) (f : PlanFault) → slice_get (found ++ g ∷ []) i ≡ Some f → P f
each_more P found g each p i f is = elim (in_push found g i f is) [ inl before ↦ each i f before | inr (_, same) ↦ subst P same p ]

pub first_is : (nodes : List ℕ) (n : ℕ) → slice_get nodes 0 ≡ Some n → first_of nodes ≡ n
first_is nodes n is = ap (λ (o : Option ℕ). unwrap_or o 0) is

-- a list without an element is empty
pub empty_list : {A : Type 0} (xs : List A) → ((i : ℕ) (x : A) → slice_get xs i ≡ Some x → ⊥) → xs ≡ []
empty_list [] none = refl
empty_list (x ∷ xs) none = absurd (none 0 x refl)

-- where two lists together are empty, both are
pub both_empty : {A : Type 0} (xs ys : List A) → [] ≡ xs ++ ys → (xs ≡ []) × ([] ≡ ys)
both_empty [] ys is = (refl, is)
both_empty (x ∷ xs) ys is = absurd (cc is)
