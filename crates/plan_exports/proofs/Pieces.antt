-- Texts of which each piece is what it should be.
use Rattle.std.{proofs.Common.{◌≡◌, ℕ, List, ◌++◌, ap, subst, ◌∙◌}, specs.Prelude.{IfOk, Result}}
use Rattle.plan_exports.specs.CSources.{row_of_words}

-- a text that was made, said otherwise
pub said_so : {T E : Type 0} (v : T → List ℕ) (r : Result T E) (x y : List ℕ) → x ≡ y → IfOk r (λ t. v t ≡ x) → IfOk r (λ t. v t ≡ y)
said_so v r x y e is = subst (λ (z : List ℕ). IfOk r (λ t. v t ≡ z)) e is

pub two_are : (a b c d : List ℕ) → a ≡ c → b ≡ d → a ++ b ≡ c ++ d
two_are a b c d e f = ap (λ t. t ++ b) e ∙ ap (λ t. c ++ t) f

pub four_are : (a b c d w x y z : List ℕ) → a ≡ w → b ≡ x → c ≡ y → d ≡ z → a ++ (b ++ (c ++ d)) ≡ w ++ (x ++ (y ++ z))
four_are a b c d w x y z e f g h = two_are a _ w _ e (two_are b _ x _ f (two_are c _ y _ g h))

pub three_are : (a b c x y z : List ℕ) → a ≡ x → b ≡ y → c ≡ z → a ++ (b ++ c) ≡ x ++ (y ++ z)
three_are a b c x y z e f g = two_are a _ x _ e (two_are b c y z f g)

pub six_are : (a b c d e f u v w x y z : List ℕ) → a ≡ u → b ≡ v → c ≡ w → d ≡ x → e ≡ y → f ≡ z
    → a ++ (b ++ (c ++ (d ++ (e ++ f)))) ≡ u ++ (v ++ (w ++ (x ++ (y ++ z))))
six_are a b c d e f u v w x y z p q r s t o = two_are a _ u _ p (two_are b _ v _ q (four_are c d e f w x y z r s t o))

pub row_is : (numbers address name n a m : List ℕ) → numbers ≡ n → address ≡ a → name ≡ m → row_of_words numbers address name ≡ row_of_words n a m
row_is numbers address name n a m e f g =
    ap (λ t. row_of_words t address name) e ∙ ap (λ t. row_of_words n t name) f ∙ ap (row_of_words n a) g
