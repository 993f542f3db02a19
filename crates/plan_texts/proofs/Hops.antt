-- The hops along a loop.
use Rattle.std.{proofs.Common.{◌≡◌, ◌+◌, ◌-◌, ◌<◌, ◌≤◌, ℕ, List, [], ◌∷◌, ◌++◌, length, take, get_or, refl, sym, ◌∙◌, ap, arith}, proofs.lemmas.List.{take_more}}
use Rattle.mctp_transport.specs.declared.address.Eid.{Eid}
use Rattle.plan_texts.{specs.declared.drawings.red.Hop.{Hop}, specs.Drawings.{hops_along}}

abbrev hop : Eid → ℕ → ℕ → Hop
hop eid n m = record { eid = eid; from = n; to = m }

along_more : (eid : Eid) (xs : List ℕ) (n m : ℕ) → hops_along eid ((xs ++ n ∷ []) ++ m ∷ []) ≡ hops_along eid (xs ++ n ∷ []) ++ hop eid n m ∷ []
along_more eid [] n m = refl
along_more eid (x ∷ []) n m = refl
along_more eid (x ∷ y ∷ xs) n m = ap (λ z. hop eid x y ∷ z) (along_more eid (y ∷ xs) n m)

-- the hops along so many nodes, and the next one
pub along_next : (eid : Eid) (nodes : List ℕ) (i : ℕ) → 1 ≤ i → i < length nodes
    → hops_along eid (take i nodes) ++ hop eid (get_or nodes (i - 1) 0) (get_or nodes i 0) ∷ [] ≡ hops_along eid (take (i + 1) nodes)
along_next eid nodes i some within =
    let last : i ≡ i - 1 + 1 = omega (arith, some) in
    let earlier : take i nodes ≡ take (i - 1) nodes ++ get_or nodes (i - 1) 0 ∷ [] =
    ap (λ k. take k nodes) last ∙ take_more nodes (i - 1) 0 (omega (arith, within)) in
    ap (λ z. hops_along eid z ++ hop eid (get_or nodes (i - 1) 0) (get_or nodes i 0) ∷ []) earlier
    ∙ (sym (along_more eid (take (i - 1) nodes) (get_or nodes (i - 1) 0) (get_or nodes i 0))
    ∙ ap (λ z. hops_along eid z) (ap (λ z. z ++ get_or nodes i 0 ∷ []) (sym earlier) ∙ sym (take_more nodes i 0 within)))
