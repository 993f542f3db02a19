-- What an iterator over packets gives next, and what is left then.
use Rattle.std.{proofs.Common.{◌≡◌, ℕ, zero, suc, ◌<◌, ◌≤◌, ◌+◌, ◌%◌, min, Bool, true, false, nat_eq, nat_le, cond, List, [], ◌∷◌, length, take, drop, refl, sym, ap, ◌∙◌, arith, inl, inr, ◌⊎◌}, proofs.lemmas.Bool.{cond-false, cond-true, ne_eqb}, proofs.lemmas.Bool.Decides.{nat_tests}, proofs.lemmas.List.{length-drop, take_all, drop_all}}
use Rattle.mctp_transport.{specs.PacketValues.{PacketValue}, specs.PacketsLeft.{cut}}

pick : {A : Type 0} (b : Bool) (x y z : A) → (b ≡ false → y ≡ z) → cond b x y ≡ cond b x z
pick true x y z h = refl
pick false x y z h = h refl

not_empty : (n : ℕ) → nat_eq n 0 ≡ false → 0 < n
not_empty n h = grind (arith, nat_tests)

-- the first packet, and the frame of what is left
abbrev pub first_of : ℕ → PacketValue → PacketValue
first_of unit f = record f { payload = take unit f.payload; eom = nat_le (length f.payload) unit }

abbrev pub later_of : ℕ → PacketValue → PacketValue
later_of unit f = record f { payload = drop unit f.payload; som = false; number = (f.number + 1) % 4 }

-- more leave than there are bytes changes nothing
cut-fuel : (unit n k : ℕ) (f : PacketValue) → 0 < unit → length f.payload ≤ n → length f.payload ≤ k → cut unit n f ≡ cut unit k f
unfolding cut
cut-fuel unit zero zero f u hn hk = refl
cut-fuel unit zero (suc k) f u hn hk = let e : length f.payload ≡ 0 = omega arith in sym (cond-true (nat_eq (length f.payload) 0) _ _ (ap (λ m. nat_eq m 0) e))
cut-fuel unit (suc n) zero f u hn hk = let e : length f.payload ≡ 0 = omega arith in cond-true (nat_eq (length f.payload) 0) _ _ (ap (λ m. nat_eq m 0) e)
cut-fuel unit (suc n) (suc k) f u hn hk = pick (nat_eq (length f.payload) 0) [] _ _ (λ h.
    let some : 0 < length f.payload = not_empty (length f.payload) h in
    ap (λ fs. first_of unit f ∷ fs) (cut-fuel unit n k (later_of unit f) u (omega (arith, length-drop unit f.payload)) (omega (arith, length-drop unit f.payload))))

pub cut-none : (unit : ℕ) (f : PacketValue) → length f.payload ≡ 0 → cut unit (length f.payload) f ≡ []
unfolding cut
cut-none unit f e = ap (λ n. cut unit n f) e

pub cut-some : (unit : ℕ) (f : PacketValue) → 0 < unit → 0 < length f.payload
    → cut unit (length f.payload) f ≡ first_of unit f ∷ cut unit (length (drop unit f.payload)) (later_of unit f)
unfolding cut
cut-some unit f u some =
    cut-fuel unit (length f.payload) (suc (length f.payload)) f u (omega arith) (omega arith)
    ∙ cond-false (nat_eq (length f.payload) 0) [] _ (ne_eqb (length f.payload) 0 (λ e. omega arith))
    ∙ ap (λ fs. first_of unit f ∷ fs) (cut-fuel unit (length f.payload) (length (drop unit f.payload)) (later_of unit f) u (omega (arith, length-drop unit f.payload)) (omega arith))

le-or-lt : (n k : ℕ) → (n ≤ k) ⊎ (k < n)
le-or-lt n k = grind arith

min_take : (unit : ℕ) (xs : List ℕ) → take (min (length xs) unit) xs ≡ take unit xs
min_take unit xs = elim (le-or-lt (length xs) unit) [
  | inl h ↦ let e : min (length xs) unit ≡ length xs = omega arith in rw e (take_all (length xs) xs (omega arith) ∙ sym (take_all unit xs h))
  | inr h ↦ let e : min (length xs) unit ≡ unit = omega arith in ap (λ n. take n xs) e
]

min_drop : (unit : ℕ) (xs : List ℕ) → drop (min (length xs) unit) xs ≡ drop unit xs
min_drop unit xs = elim (le-or-lt (length xs) unit) [
  | inl h ↦ let e : min (length xs) unit ≡ length xs = omega arith in rw e (drop_all (length xs) xs (omega arith) ∙ sym (drop_all unit xs h))
  | inr h ↦ let e : min (length xs) unit ≡ unit = omega arith in ap (λ n. drop n xs) e
]

-- the first packet has p, and r is left
pub cut-next : (unit : ℕ) (f : PacketValue) (p r : List ℕ) (n : ℕ) → 0 < unit → 0 < length f.payload
    → p ≡ take (min (length f.payload) unit) f.payload → r ≡ drop (min (length f.payload) unit) f.payload → n ≡ (f.number + 1) % 4
    → cut unit (length f.payload) f
    ≡ record f { payload = p; eom = nat_le (length f.payload) unit } ∷ cut unit (length r) (record f { payload = r; som = false; number = n })
cut-next unit f p r n u some front back e = rw (front, back, e, min_take, min_drop) (cut-some unit f u some)
