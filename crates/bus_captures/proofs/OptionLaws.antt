-- Options of a block, one behind the other.
use Rattle.std.{proofs.Common.{◌≡◌, ℕ, ◌==◌, ◌++◌, Bool, true, false, List, [], ◌∷◌, refl, ap, sym, ◌∙◌, append_assoc, cond, find, option_map, Option, Some, None}, specs.Prelude.{if◌then◌else◌}, specs.List.{flat_map, All}, specs.Option.{option_or}, proofs.lemmas.List.{flat_map_more}, proofs.lemmas.List.Elements.{All-push}, proofs.lemmas.List.Folds.{find-append}}
use Rattle.bus_captures.{specs.declared.format.Order.{Order}, specs.declared.options.Told.{Told}, specs.Options.{OptionValue, IsOption, option_bytes, value_of}, specs.OptionValues.{IsTold}}

-- these are the options up to what is left, and this is told of them
pub record HaveTold (order : Order) (bytes left : List ℕ) (told : Told) : Type 0 where
  pub options : List OptionValue
  pub spelled : bytes ≡ flat_map (option_bytes order) options ++ left
  pub lawful : All IsOption options
  pub are : IsTold options told

abbrev code_is : ℕ → OptionValue → Bool
code_is code o = o.code == code

-- the value of an option, if it is of the code
abbrev pub value_if : ℕ → OptionValue → Option (List ℕ)
value_if code o = if o.code == code then Some o.value else None

value_more : (code : ℕ) (options : List OptionValue) (o : OptionValue) → value_of code (options ++ o ∷ []) ≡ option_or (value_of code options) (value_if code o)
value_more code options o =
    ap (option_map (λ (x : OptionValue). x.value)) (find-append (code_is code) options (o ∷ []))
    ∙ joined (find (code_is code) options) (o.code == code)
  where
    joined : (found : Option OptionValue) (b : Bool) → option_map (λ (x : OptionValue). x.value) (option_or found (cond b (Some o) None))
        ≡ option_or (option_map (λ (x : OptionValue). x.value) found) (cond b (Some o.value) None)
    joined None true = refl
    joined None false = refl
    joined (Some x) b = refl

-- the first of two, as it is
pub map_or : {A B : Type 0} (f : A → B) (a b : Option A) → option_map f (option_or a b) ≡ option_or (option_map f a) (option_map f b)
map_or f None b = refl
map_or f (Some x) b = refl

-- one option more
pub one_more : (order : Order) (bytes left rest : List ℕ) (old new : Told) (o : OptionValue) → HaveTold order bytes left old → IsOption o → left ≡ option_bytes order o ++ rest
    → option_map (λ v. v.now) new.name ≡ option_or (option_map (λ v. v.now) old.name) (value_if 2 o)
    → option_map (λ v. v.now) new.resolution ≡ option_or (option_map (λ v. v.now) old.resolution) (value_if 9 o)
    → option_map (λ v. v.now) new.shift ≡ option_or (option_map (λ v. v.now) old.shift) (value_if 14 o)
    → HaveTold order bytes rest new
one_more order bytes left rest old new o have lawful front name resolution shift = record {
  options = have.options ++ o ∷ [];
  spelled = have.spelled ∙ ap (λ xs. flat_map (option_bytes order) have.options ++ xs) front
      ∙ sym (append_assoc (flat_map (option_bytes order) have.options) (option_bytes order o) rest)
      ∙ ap (λ xs. xs ++ rest) (flat_map_more (option_bytes order) [] have.options o);
  lawful = All-push IsOption have.options o have.lawful lawful;
  are = record {
    name = name ∙ ap (λ v. option_or v (value_if 2 o)) have.are.name ∙ sym (value_more 2 have.options o);
    resolution = resolution ∙ ap (λ v. option_or v (value_if 9 o)) have.are.resolution ∙ sym (value_more 9 have.options o);
    shift = shift ∙ ap (λ v. option_or v (value_if 14 o)) have.are.shift ∙ sym (value_more 14 have.options o);
  };
}
