-- The flights of a list by number, after a write and after a push.
use Rattle.std.{proofs.Common.{◌≡◌, ◌≢◌, ℕ, ◌<◌, ◌≤◌, true, false, cond, eqb, List, [], ◌∷◌, ◌++◌, length, map, Option, Some, None, refl, sym, ◌∙◌, ap, subst, inl, inr, arith}, specs.Prelude.{slice_get, slice_set, option_and_then, option_map, is_some, IfSome}, proofs.lemmas.Bool.{cases_lt}, proofs.lemmas.Bool.Decides.{eqb_tells}, proofs.lemmas.Option.{slice_get_past, same_Some, slice_get-get_or}, proofs.lemmas.List.{length_push, get_or_append_left}}
use Rattle.net_tables.proofs.Elements.{push_last, set_there, set_elsewhere}
use Rattle.net_sim.specs.Standing.{at_place}

-- a push changes no other element
pub push_elsewhere : {X : Type 0} (xs : List X) (x : X) (k : ℕ) → k ≢ length xs → slice_get (xs ++ x ∷ []) k ≡ slice_get xs k
push_elsewhere xs x k other = elim (cases_lt k (length xs)) [
  | inl within ↦ slice_get-get_or (xs ++ x ∷ []) k x (omega (arith, length_push xs x)) ∙ (ap Some (get_or_append_left xs (x ∷ []) x k within) ∙ sym (slice_get-get_or xs k x within))
  | inr past ↦ slice_get_past (xs ++ x ∷ []) k (omega (arith, length_push xs x, other, past)) ∙ sym (slice_get_past xs k past)
]

module _ {A : Type 0} (xs : List (Option A)) where
  -- past the end there is nothing
  pub none_past : (k : ℕ) → length xs ≤ k → at_place xs k ≡ None
  none_past k past = ap (λ (o : Option (Option A)). option_and_then (λ (x : Option A). x) o) (slice_get_past xs k past)

  -- something is within
  pub some_within : (k : ℕ) (a : A) → at_place xs k ≡ Some a → k < length xs
  some_within k a is = elim (cases_lt k (length xs)) [
    | inl within ↦ within
    | inr past ↦ (let none = none_past k past in absurd (cc))
  ]

  pub set_slot : (i k : ℕ) (o : Option A) → i < length xs → at_place (slice_set xs i o) k ≡ cond (eqb k i) o (at_place xs k)
  set_slot i k o within = elim (eqb_tells k i) [
    | inl same ↦ rw same.0 (rw same.1 (ap (λ (p : Option (Option A)). option_and_then (λ (x : Option A). x) p) (set_there xs o i within)))
    | inr other ↦ rw other.0 (ap (λ (p : Option (Option A)). option_and_then (λ (x : Option A). x) p) (set_elsewhere xs i k o other.1))
  ]

  pub push_slot : (k : ℕ) (o : Option A) → at_place (xs ++ o ∷ []) k ≡ cond (eqb k (length xs)) o (at_place xs k)
  push_slot k o = elim (eqb_tells k (length xs)) [
    | inl same ↦ rw same.0 (rw same.1 (ap (λ (p : Option (Option A)). option_and_then (λ (x : Option A). x) p) (push_last xs o)))
    | inr other ↦ rw other.0 (ap (λ (p : Option (Option A)). option_and_then (λ (x : Option A). x) p) (push_elsewhere xs o k other.1))
  ]

  -- a push of nothing changes nothing
  pub push_none : (k : ℕ) → at_place (xs ++ None ∷ []) k ≡ at_place xs k
  push_none k = elim (eqb_tells k (length xs)) [
    | inl same ↦ push_slot k None ∙ rw same.0 (sym (none_past k (omega (arith, same.1))))
    | inr other ↦ push_slot k None ∙ rw other.0 refl
  ]

  -- what holds of each element holds after a write, and after a push
  pub each_set : (P : A → Type 0) (i : ℕ) (o : Option A) → i < length xs → ((k : ℕ) (a : A) → at_place xs k ≡ Some a → P a) → ((a : A) → o ≡ Some a → P a)
      → (k : ℕ) (a : A) → at_place (slice_set xs i o) k ≡ Some a → P a
  each_set P i o within each new k a is = elim (eqb_tells k i) [
    | inl same ↦ (let h : cond true o (at_place xs k) ≡ Some a = rw same.0 at (sym (set_slot i k o within) ∙ is) in new a h)
    | inr other ↦ (let h : cond false o (at_place xs k) ≡ Some a = rw other.0 at (sym (set_slot i k o within) ∙ is) in each k a h)
  ]

  pub each_push : (P : A → Type 0) (o : Option A) → ((k : ℕ) (a : A) → at_place xs k ≡ Some a → P a) → ((a : A) → o ≡ Some a → P a)
      → (k : ℕ) (a : A) → at_place (xs ++ o ∷ []) k ≡ Some a → P a
  each_push P o each new k a is = elim (eqb_tells k (length xs)) [
    | inl same ↦ (let h : cond true o (at_place xs k) ≡ Some a = rw same.0 at (sym (push_slot k o) ∙ is) in new a h)
    | inr other ↦ (let h : cond false o (at_place xs k) ≡ Some a = rw other.0 at (sym (push_slot k o) ∙ is) in each k a h)
  ]

pub some_by : {A : Type 0} (o : Option A) → is_some o ≡ true → (a : A) × (o ≡ Some a)
some_by None e = absurd (cc)
some_by (Some a) e = (a, refl)

-- what holds of a value's meaning
pub mapped_some : {B A : Type 0} (g : B → A) (P : A → Type 0) (o : Option B) → IfSome o (λ b. P (g b)) → (a : A) → option_map g o ≡ Some a → P a
mapped_some g P None holds a is = absurd (cc)
mapped_some g P (Some b) holds a is = subst P (same_Some (g b) a is) holds

-- lists that are the same mean the same
pub same_means : {D T : Type 0} (f : D → T) (ds es : List D) → ds ≡ es → map f ds ≡ map f es
same_means f ds es same = ap (map f) same
