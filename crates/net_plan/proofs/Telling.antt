-- A function from JSON values that answers what a relation tells, and nothing else.
use Rattle.std.{proofs.Common.{◌≡◌, ℕ, List, Bool, true, false, nat_le, ◌&&◌, Option, Some, None, Result, Ok, Err, refl, sym, ap, ◌∙◌, subst, cond, true≢false}, proofs.lemmas.Bool.{leb-true, le-leb}}
use Rattle.serde_json.{specs.Data.{Num, Data, boolean, number, unsigned}, specs.Find.{get, as_u64}}
use Rattle.net_plan.{specs.declared.error.ValueFault.{ValueFault}, specs.declared.error.ValueFault.TheVariants.{OutOfRange}, specs.Json.{demand, found, at_key, whole_number, number_within, truth}, specs.JsonWords.{At, IsNumberWithin, IsTruth}, specs.Reading.{then_with}}

-- what f reads and passes the test is what R tells
pub record Tells {A : Type 0} (f : Data → Result A ValueFault) (test : A → Bool) (R : Data → A → Type 0) : Type 0 where
  pub sound : (d : Data) (x : A) → f d ≡ Ok x → test x ≡ true → R d x
  pub whole : (d : Data) (x : A) → R d x → f d ≡ Ok x
  pub passes : (d : Data) (x : A) → R d x → test x ≡ true

-- any value passes
abbrev pub any : {A : Type 0} → A → Bool
any x = true

pub no_value : {A : Type 0} {fault : ValueFault} {x : A} → Err fault ≡ Ok x → ⊥
no_value e = cc

pub same_Ok : {A : Type 0} {a b : A} → ◌≡◌ {A = Result A ValueFault} (Ok a) (Ok b) → a ≡ b
same_Ok e = cc

-- both readings of a chain gave a value
pub then_Ok : {A B : Type 0} (r : Result A ValueFault) (f : A → Result B ValueFault) (b : B) → then_with r f ≡ Ok b → (a : A) × (r ≡ Ok a) × (f a ≡ Ok b)
then_Ok (Ok a) f b e = (a, refl, e)
then_Ok (Err fault) f b e = absurd (no_value e)

-- a value that no reading gave is not told
pub none_told : {A : Type 0} {f : Data → Result A ValueFault} {test : A → Bool} {R : Data → A → Type 0} → Tells f test R → (d : Data) (fault : ValueFault) → f d ≡ Err fault → (x : A) → R d x → ⊥
none_told t d fault e x r = no_value (sym e ∙ t.whole d x r)

pub demanded : (fault : ValueFault) (b : Bool) (u : Unit {0}) → demand fault b ≡ Ok u → b ≡ true
demanded fault true u e = refl
demanded fault false u e = absurd (no_value e)

pub both : (a b : Bool) → (a && b) ≡ true → (a ≡ true) × (b ≡ true)
both true b e = (refl, e)
both false b e = absurd (true≢false (sym e))

found_Some : {A : Type 0} (o : Option A) (a : A) → found o ≡ Ok a → o ≡ Some a
found_Some (Some b) a e = ap Some (same_Ok e)
found_Some None a e = absurd (no_value e)

pub at_key_tells : {A : Type 0} (key : List ℕ) (f : Data → Result A ValueFault) (test : A → Bool) (R : Data → A → Type 0) → Tells f test R → Tells (at_key key f) test (At key R)
at_key_tells key f test R t = record {
  sound = λ d x e pass. let p = then_Ok (found (get key d)) f x e in (p.0, found_Some (get key d) p.0 p.1, t.sound p.0 x p.2 pass);
  whole = λ d x h. ap (λ o. then_with (found o) f) h.1 ∙ t.whole h.0 x h.2;
  passes = λ d x h. t.passes h.0 x h.2;
}

number_sound : (least most : ℕ) (n : Num) (x : ℕ) → number_within least most (as_u64 n) ≡ Ok x → IsNumberWithin least most (number n) x
number_sound least most (unsigned m) x e = by (nat_le least m) (nat_le m most) refl refl e
  where
    by : (b c : Bool) → nat_le least m ≡ b → nat_le m most ≡ c → cond (b && c) (Ok m) (Err OutOfRange) ≡ Ok x → IsNumberWithin least most (number (unsigned m)) x
    by true true low high e = subst (IsNumberWithin least most (number (unsigned m))) (same_Ok e) (refl, leb-true least m low, leb-true m most high)
    by true false low high e = absurd (no_value e)
    by false c low high e = absurd (no_value e)
number_sound least most n x e = absurd (no_value e)

whole_sound : (least most : ℕ) (d : Data) (x : ℕ) → whole_number least most d ≡ Ok x → IsNumberWithin least most d x
whole_sound least most (number n) x e = number_sound least most n x e
whole_sound least most d x e = absurd (no_value e)

pub number_tells : (least most : ℕ) → Tells (whole_number least most) any (IsNumberWithin least most)
number_tells least most = record {
  sound = λ d x e pass. whole_sound least most d x e;
  whole = λ d x h. ap (whole_number least most) h.0 ∙ ap (λ b. cond (b && nat_le x most) (Ok x) (Err OutOfRange)) (le-leb least x h.1) ∙ ap (λ b. cond b (Ok x) (Err OutOfRange)) (le-leb x most h.2);
  passes = λ d x h. refl;
}

truth_sound : (d : Data) (b : Bool) → truth d ≡ Ok b → IsTruth d b
truth_sound (boolean c) b e = ap boolean (same_Ok e)
truth_sound d b e = absurd (no_value e)

pub truth_tells : Tells truth any IsTruth
truth_tells = record { sound = λ d b e pass. truth_sound d b e; whole = λ d b h. ap truth h; passes = λ d b h. refl }
