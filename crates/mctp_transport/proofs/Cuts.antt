-- Cuts of a message: a payload put before one, and that there is one at most.
use Rattle.std.{proofs.Common.{◌≡◌, ℕ, zero, suc, ◌+◌, ◌<◌, ◌≤◌, List, [], ◌∷◌, ◌++◌, length, take, drop, slice_get, Some, refl, sym, ap, ◌∙◌, arith, subst}, specs.List.{concat}, proofs.lemmas.Option.{same_Some}, proofs.lemmas.List.{length-append, append_cancel_right, take_at, drop_at}}
use Rattle.mctp_transport.specs.Cutting.{IsCut}

pub cut_nothing : (unit : ℕ) → IsCut unit [] []
cut_nothing unit = record {
  whole = refl;
  full = λ i p a inside. absurd (omega arith);
  last = λ i p a e. absurd (omega arith);
}

-- one more payload at the front
pub cut_more : (unit : ℕ) (p message : List ℕ) (ps : List (List ℕ)) → IsCut unit message ps → 0 < length p → length p ≤ unit → (0 < length ps → length p ≡ unit)
    → IsCut unit (p ++ message) (p ∷ ps)
cut_more unit p message ps c some most fills = record { whole = ap (λ xs. p ++ xs) c.whole; full = full_at; last = last_at }
  where
    full_at : (i : ℕ) (q : List ℕ) → slice_get (p ∷ ps) i ≡ Some q → i + 1 < length (p ∷ ps) → length q ≡ unit
    full_at zero q a inside = ap length (sym (same_Some p q a)) ∙ fills (omega arith)
    full_at (suc i) q a inside = c.full i q a (omega arith)

    last_at : (i : ℕ) (q : List ℕ) → slice_get (p ∷ ps) i ≡ Some q → i + 1 ≡ length (p ∷ ps) → (0 < length q) × (length q ≤ unit)
    last_at zero q a e = let same = ap length (same_Some p q a) in (omega arith, omega arith)
    last_at (suc i) q a e = c.last i q a (omega arith)

-- the cut of what the first payload leaves
pub cut_rest : (unit : ℕ) (message p q : List ℕ) (ps : List (List ℕ)) → IsCut unit message (p ∷ q ∷ ps) → IsCut unit (concat (q ∷ ps)) (q ∷ ps)
cut_rest unit message p q ps c = record {
  whole = refl;
  full = λ i r a inside. c.full (suc i) r a (omega arith);
  last = λ i r a e. c.last (suc i) r a (omega arith);
}

joined_some : (unit : ℕ) (message : List ℕ) (ps : List (List ℕ)) → IsCut unit message ps → 0 < length ps → 0 < length (concat ps)
joined_some unit message [] c some = absurd (omega arith)
joined_some unit message (p ∷ []) c some = let h = (c.last 0 p refl refl).0 in omega (arith, length-append p [])
joined_some unit message (p ∷ q ∷ ps) c some =
    let h = joined_some unit (concat (q ∷ ps)) (q ∷ ps) (cut_rest unit message p q ps c) (omega arith) in
    omega (arith, length-append p (concat (q ∷ ps)))

-- where there is a payload there is a byte
pub cut_some : (unit : ℕ) (message : List ℕ) (ps : List (List ℕ)) → IsCut unit message ps → 0 < length ps → 0 < length message
cut_some unit message ps c some = let h = joined_some unit message ps c some in omega (arith, ap length c.whole)

-- where there is a byte there is a payload
pub some_payloads : (unit : ℕ) (message : List ℕ) (ps : List (List ℕ)) → IsCut unit message ps → 0 < length message → 0 < length ps
some_payloads unit message [] c some = absurd (omega (arith, ap length c.whole))
some_payloads unit message (p ∷ ps) c some = omega arith

-- two cuts whose first payloads are as long
same_front : (p q xs ys : List ℕ) → length p ≡ length q → p ++ xs ≡ q ++ ys → (p ≡ q) × (xs ≡ ys)
same_front p q xs ys same e = (
  sym (take_at p xs (length p) refl) ∙ ap (λ zs. take (length p) zs) e ∙ take_at q ys (length p) (sym same),
  sym (drop_at p xs (length p) refl) ∙ ap (λ zs. drop (length p) zs) e ∙ drop_at q ys (length p) (sym same),
)

-- one cut has one payload and the other more
not_longer : (unit : ℕ) (message p q r : List ℕ) (qs : List (List ℕ)) → IsCut unit message (p ∷ []) → IsCut unit message (q ∷ r ∷ qs) → ⊥
not_longer unit message p q r qs c d =
    let most = (c.last 0 p refl refl).1 in
    let full = d.full 0 q refl (omega arith) in
    let more = joined_some unit (concat (r ∷ qs)) (r ∷ qs) (cut_rest unit message q r qs d) (omega arith) in
    omega (arith, ap length c.whole, ap length d.whole, length-append p [], length-append q (concat (r ∷ qs)))

pub same_cuts : (unit : ℕ) (message : List ℕ) (ps qs : List (List ℕ)) → IsCut unit message ps → IsCut unit message qs → ps ≡ qs
same_cuts unit message [] [] c d = refl
same_cuts unit message [] (q ∷ qs) c d = let some = cut_some unit message (q ∷ qs) d (omega arith) in absurd (omega (arith, ap length c.whole))
same_cuts unit message (p ∷ ps) [] c d = let some = cut_some unit message (p ∷ ps) c (omega arith) in absurd (omega (arith, ap length d.whole))
same_cuts unit message (p ∷ []) (q ∷ []) c d = let e : p ≡ q = append_cancel_right p q [] (sym c.whole ∙ d.whole) in cc
same_cuts unit message (p ∷ []) (q ∷ r ∷ qs) c d = absurd (not_longer unit message p q r qs c d)
same_cuts unit message (p ∷ o ∷ ps) (q ∷ []) c d = absurd (not_longer unit message q p o ps d c)
same_cuts unit message (p ∷ o ∷ ps) (q ∷ r ∷ qs) c d =
    let front = same_front p q (concat (o ∷ ps)) (concat (r ∷ qs)) (c.full 0 p refl (omega arith) ∙ sym (d.full 0 q refl (omega arith))) (sym c.whole ∙ d.whole) in
    let first : p ≡ q = front.0 in
    let rest = same_cuts unit (concat (o ∷ ps)) (o ∷ ps) (r ∷ qs) (cut_rest unit message p o ps c)
    (subst (λ m. IsCut unit m (r ∷ qs)) (sym front.1) (cut_rest unit message q r qs d)) in
    cc
