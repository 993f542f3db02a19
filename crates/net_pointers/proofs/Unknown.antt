-- What may be wrong among names that are known with a value in which nothing else is.
use Rattle.std.{proofs.Common.{◌≡◌, inl, inr, ℕ, suc, List, Bool, true, false, cond, Option, Some, None, option_and_then, refl, sym, ap, ◌∙◌, subst}, proofs.lemmas.Option.{none-some, same_Some}, specs.Option.{option_or}, specs.Str.{bytes_eq}}
use Rattle.serde_json.{specs.Data.{Data, null, Items, no_items, item}, specs.Find.{get}}
use Rattle.net_plan.{specs.Finding.{fault_of, names_of, word_fault, unless_null, own_fault, Step, key, index, Located, under, here, in_items, in_list, inside, in_fields, in_choices, first_fault}, specs.Fitting.{IsWord, EachIs, Either, Fits, FieldsFit, ChoiceFits}, specs.Grammar.{Grammar, plain, a_list, an_optional, an_object, a_choice, Fields, no_fields, field, Known}, specs.Names.{text_of}, specs.Json.{demand, is_among}, specs.Reading.{then_with}, specs.declared.error.ValueFault.{ValueFault}, specs.declared.error.ValueFault.TheVariants.{UnknownName}, specs.declared.shape.Named.{Named}, specs.declared.shape.Word.{Word}, proofs.Fitting.{own_whole, inside_null}, proofs.WordsLaw.{name_tells}}
use Rattle.net_plan.specs.declared.shape.Word.TheVariants as word

-- the fault, if there is one, is a name that is not known
abbrev AreNames : Option ValueFault → Type 0
AreNames o = (f : ValueFault) → o ≡ Some f → f ≡ UnknownName

abbrev IsName : Option Located → Type 0
IsName o = (l : Located) → o ≡ Some l → l.fault ≡ UnknownName

nothing : (o : Option ValueFault) → o ≡ None → AreNames o
nothing o none f e = absurd (none-some f (sym none ∙ e))

either : (a b : Option Located) → IsName a → IsName b → IsName (option_or a b)
either None b p q = q
either (Some l) b p q = p

stepped : (s : Step) (o : Option Located) → IsName o → IsName (under s o)
stepped s None p = p
stepped s (Some l) p = λ m e. sym (ap (λ (n : Located). n.fault) (same_Some _ _ e)) ∙ p l refl

itself : (g : Grammar) (o : Option ValueFault) → AreNames o → IsName (here g o)
itself g None p = λ l e. absurd (none-some l e)
itself g (Some f) p = λ l e. sym (ap (λ (n : Located). n.fault) (same_Some _ _ e)) ∙ p f refl

asked : (b : Bool) → AreNames (fault_of (demand UnknownName b))
asked true f e = absurd (none-some f e)
asked false f e = sym (same_Some _ _ e)

own_named : (k : Known) (names : Named) (d : Data) → IsWord None (word.Named names) d → AreNames (word_fault (Some k) (word.Named names) d)
own_named k names d h = subst (λ r. AreNames (fault_of (then_with r (λ name. demand UnknownName (is_among (names_of names k) name))))) (sym (name_tells.whole d h.0 h.1)) (asked (is_among (names_of names k) h.0))

own_word : (k : Known) (w : Word) (d : Data) → IsWord None w d → AreNames (word_fault (Some k) w d)
own_word k (word.Named names) d h = own_named k names d h
own_word k w d h = nothing _ (own_whole None (plain w) d h)

or_null : (o : Option ValueFault) (d : Data) → AreNames o → AreNames (unless_null d o)
or_null o null p = nothing None refl
or_null o d p = p

own_left : (k : Known) (g : Grammar) (d : Data) → Fits None g d → AreNames (own_fault (Some k) g d)
own_left k (plain w) d h = own_word k w d h
own_left k (an_optional g) d (inl e) = subst (λ v. AreNames (unless_null v (own_fault (Some k) g v))) (sym e) (nothing None refl)
own_left k (an_optional g) d (inr h) = or_null (own_fault (Some k) g d) d (own_left k g d h)
own_left k g d h = nothing _ (own_whole None g d h)

items_left : (f : Data → Option Located) (P : Data → Type 0) → ((d : Data) → P d → IsName (f d)) → (n : ℕ) (ds : Items) → EachIs P ds → IsName (in_items f n ds)
items_left f P h n no_items each = λ l e. absurd (none-some l e)
items_left f P h n (item d ds) each = either (under (index n) (f d)) (in_items f (suc n) ds) (stepped (index n) (f d) (h d each.0)) (items_left f P h (suc n) ds each.1)

whole : (k : Known) (g : Grammar) (d : Data) → Fits None g d → IsName (inside (Some k) g d) → IsName (first_fault (Some k) g d)
whole k g d h deep = either (here g (own_fault (Some k) g d)) (inside (Some k) g d) (itself g (own_fault (Some k) g d) (own_left k g d h)) deep

mutual
  inside_left : (k : Known) (g : Grammar) (d : Data) → Fits None g d → IsName (inside (Some k) g d)
  inside_left k (a_list most g) d h =
      subst (λ v. IsName (in_list (first_fault (Some k) g) v)) (sym h.1) (items_left (first_fault (Some k) g) (λ e. Fits None g e) (λ e fits. whole k g e fits (inside_left k g e fits)) 0 h.0 h.3)
  inside_left k (an_optional g) d (inl e) = subst (λ o. IsName o) (sym (ap (inside (Some k) g) e ∙ inside_null (Some k) g)) (λ l e. absurd (none-some l e))
  inside_left k (an_optional g) d (inr h) = inside_left k g d h
  inside_left k (an_object rule fs) d h = fields_left k fs d h.1
  inside_left k (a_choice name g cs) d h =
      subst (λ o. IsName (option_and_then (λ e. option_or (under (key name) (first_fault (Some k) g e)) (in_choices (Some k) cs (text_of e) d)) o)) (sym h.1)
      (either (under (key name) (first_fault (Some k) g h.0)) (in_choices (Some k) cs (text_of h.0) d) (stepped (key name) (first_fault (Some k) g h.0) (whole k g h.0 h.2.0 (inside_left k g h.0 h.2.0)))
      (choices_left k cs (text_of h.0) d h.2.1))
  inside_left k g d h = λ l e. absurd (none-some l e)

  fields_left : (k : Known) (fs : Fields) (d : Data) → FieldsFit None fs d → IsName (in_fields (Some k) fs d)
  fields_left k no_fields d h = λ l e. absurd (none-some l e)
  fields_left k (field name g fs) d h =
      either (under (key name) (option_and_then (first_fault (Some k) g) (get name d))) (in_fields (Some k) fs d)
      (stepped (key name) (option_and_then (first_fault (Some k) g) (get name d)) (subst (λ o. IsName (option_and_then (first_fault (Some k) g) o)) (sym h.0.1) (whole k g h.0.0 h.0.2 (inside_left k g h.0.0 h.0.2))))
      (fields_left k fs d h.1)

  choices_left : (k : Known) (cs : Fields) (word : List ℕ) (d : Data) → ChoiceFits None cs word d → IsName (in_choices (Some k) cs word d)
  choices_left k no_fields word d h = λ l e. absurd (none-some l e)
  choices_left k (field w g cs) word d h = by (bytes_eq word w) (λ fits. whole k g d fits (inside_left k g d fits)) (choices_left k cs word d) h
    where
      by : (b : Bool) → (Fits None g d → IsName (first_fault (Some k) g d)) → (ChoiceFits None cs word d → IsName (in_choices (Some k) cs word d))
          → Either b (Fits None g d) (ChoiceFits None cs word d) → IsName (cond b (first_fault (Some k) g d) (in_choices (Some k) cs word d))
      by true here later h = here h
      by false here later h = later h

-- a fault of a value that is one whatever its names are the names of is a name that is not known
pub unknown_left : (k : Known) (g : Grammar) (d : Data) → Fits None g d → (l : Located) → first_fault (Some k) g d ≡ Some l → l.fault ≡ UnknownName
unknown_left k g d h = whole k g d h (inside_left k g d h)
