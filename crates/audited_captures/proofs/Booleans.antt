-- Tests of several.
use Rattle.std.proofs.Common.{◌≡◌, ◌⊎◌, ◌&&◌, ◌||◌, not, Bool, true, false, refl, ap, sym, ◌∙◌, inl, inr}

pub both : (a b : Bool) → a ≡ true → b ≡ true → (a && b) ≡ true
both a b is_a is_b = ap (λ x. x && b) is_a ∙ is_b

pub both_left : (a b : Bool) → (a && b) ≡ true → a ≡ true
both_left true b is = refl
both_left false b is = is

pub both_right : (a b : Bool) → (a && b) ≡ true → b ≡ true
both_right true b is = is
both_right false b is = absurd (cc)

pub not_true : (b : Bool) → not b ≡ true → b ≡ false
not_true true is = sym is
not_true false is = refl

pub either : (a b : Bool) → (a || b) ≡ true → (a ≡ true) ⊎ (b ≡ true)
either true b is = inl refl
either false b is = inr is

pub or_right : (a b : Bool) → b ≡ true → (a || b) ≡ true
or_right true b is = refl
or_right false b is = is

pub not_both : (b : Bool) → b ≡ true → b ≡ false → ⊥
not_both b is isn't = cc
