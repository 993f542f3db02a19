-- The first fault stands where its pointer leads.
use Rattle.std.{proofs.Common.{◌≡◌, inl, inr, ℕ, suc, ◌+◌, List, [], ◌∷◌, Bool, true, false, cond, Option, Some, None, option_and_then, refl, sym, ap, ◌∙◌, subst, arith}, specs.Option.{option_or}, specs.Str.{bytes_eq}, proofs.lemmas.Option.{none-some, same_Some}}
use Rattle.serde_json.{specs.Data.{Data, array, Items, no_items, item}, specs.Find.{get, get_item}}
use Rattle.net_plan.{specs.Finding.{Step, key, index, Located, own_fault, under, here, in_items, inside, in_fields, in_choices, first_fault}, specs.Grammar.{Grammar, a_list, an_optional, an_object, a_choice, Fields, no_fields, field, Known}, specs.Names.{text_of}, specs.declared.error.ValueFault.{ValueFault}}
use Rattle.net_pointers.specs.Pointers.{value_after, value_at, HasField, IsPart, IsAsked, IsAskedByWord, IsAskedByOne, MayStandAt, HasFaultAt}

-- one step further out
abbrev outer : Step → Located → Located
outer p l = record { pointer = p ∷ l.pointer; grammar = l.grammar; fault = l.fault }

-- what may stand where a pointer leads, if not all of the value is meant
abbrev MayStandIn : List Step → Grammar → Grammar → Type 0
MayStandIn [] g t = IsAskedByWord g t
MayStandIn (p ∷ ps) g t = MayStandAt (p ∷ ps) g t

-- a part of the value has the fault, or the value by what its word asks
record HasFaultIn (known : Option Known) (g : Grammar) (d : Data) (l : Located) : Type 0 where
  stands : Data
  leads : value_at l.pointer d ≡ Some stands
  expected : MayStandIn l.pointer g l.grammar
  faulty : own_fault known l.grammar stands ≡ Some l.fault

standing : (ps : List Step) (g t : Grammar) → MayStandIn ps g t → MayStandAt ps g t
standing [] g t h = inr h
standing (p ∷ ps) g t h = h

outward : (known : Option Known) (g t : Grammar) (p : Step) (d stands : Data) (inner l : Located) → value_after p d ≡ Some stands → IsPart p g t → HasFaultAt known t stands inner → l ≡ outer p inner → HasFaultIn known g d l
outward known g t p d stands inner l after part h is = subst (HasFaultIn known g d) (sym is) (record {
  stands = h.stands;
  leads = ap (option_and_then (value_at inner.pointer)) after ∙ h.leads;
  expected = (g, t, inl refl, part, h.expected);
  faulty = h.faulty;
})

optional_part : (p : Step) (g t : Grammar) → IsPart p g t → IsPart p (an_optional g) t
optional_part (key k) g t h = h
optional_part (index i) g t h = h

through : (g : Grammar) (p : Step) (u v : Grammar) → IsAsked g v → IsPart p v u → (w : Grammar) × IsAsked (an_optional g) w × IsPart p w u
through g p u v (inl e) part = (an_optional g, inl refl, optional_part p g u (subst (λ v. IsPart p v u) (sym e) part))
through g p u v (inr h) part = (v, inr h, part)

optional_in : (ps : List Step) (g t : Grammar) → MayStandIn ps g t → MayStandIn ps (an_optional g) t
optional_in [] g t h = h
optional_in (p ∷ ps) g t h =
    let w = through g p h.1 h.0 h.2 h.3 in
    (w.0, h.1, w.1, w.2, h.4)

by_word : (cs : Fields) (w : List ℕ) (g t : Grammar) → HasField w g cs → IsAsked g t → IsAskedByOne cs t
by_word no_fields w g t h asked = absurd h
by_word (field v u cs) w g t (inl h) asked = inl (subst (λ g. IsAsked g t) h.1 asked)
by_word (field v u cs) w g t (inr h) asked = inr (by_word cs w g t h asked)

word_in : (k : List ℕ) (h : Grammar) (cs : Fields) (w : List ℕ) (g : Grammar) (ps : List Step) (t : Grammar) → HasField w g cs → MayStandAt ps g t → MayStandIn ps (a_choice k h cs) t
word_in k h cs w g [] t has m = by_word cs w g t has m
word_in k h cs w g (p ∷ ps) t has m = (m.0, m.1, inr (by_word cs w g m.0 has m.2), m.3, m.4)

itself : (known : Option Known) (g : Grammar) (d : Data) (f : ValueFault) (l : Located) → own_fault known g d ≡ Some f → Some (record { pointer = []; grammar = g; fault = f }) ≡ Some l → HasFaultAt known g d l
itself known g d f l own e = subst (HasFaultAt known g d) (same_Some _ _ e) (record { stands = d; leads = refl; expected = inl refl; faulty = own })

-- the value itself has the fault, or one of its parts
either : (known : Option Known) (g : Grammar) (d : Data) (l : Located) → (inside known g d ≡ Some l → HasFaultIn known g d l) → first_fault known g d ≡ Some l → HasFaultAt known g d l
either known g d l deeper e = by (own_fault known g d) refl e
  where
    by : (o : Option ValueFault) → own_fault known g d ≡ o → option_or (here g o) (inside known g d) ≡ Some l → HasFaultAt known g d l
    by (Some f) own e = itself known g d f l own e
    by None own e = let h = deeper e in record { stands = h.stands; leads = h.leads; expected = standing l.pointer g l.grammar h.expected; faulty = h.faulty }

abbrev ItemLed : (Data → Located → Type 0) → ℕ → Items → Located → Type 0
ItemLed P n ds l = (i : ℕ) × (d : Data) × (inner : Located) × (get_item i ds ≡ Some d) × P d inner × (l ≡ outer (index (i + n)) inner)

items_lead : (f : Data → Option Located) (P : Data → Located → Type 0) → ((d : Data) (l : Located) → f d ≡ Some l → P d l)
    → (n : ℕ) (ds : Items) (l : Located) → in_items f n ds ≡ Some l → ItemLed P n ds l
items_lead f P each n no_items l e = absurd (none-some l e)
items_lead f P each n (item d ds) l e = by (items_lead f P each (suc n) ds l) (f d) refl e
  where
    by : (in_items f (suc n) ds ≡ Some l → ItemLed P (suc n) ds l) → (o : Option Located) → f d ≡ o → option_or (under (index n) o) (in_items f (suc n) ds) ≡ Some l → ItemLed P n (item d ds) l
    by later (Some m) found e = (0, d, m, refl, each d m found, sym (same_Some _ _ e) ∙ ap (λ k. outer (index k) m) (omega arith))
    by later None found e =
        let rest = later e in
        (suc rest.0, rest.1, rest.2, rest.3, rest.4, rest.5 ∙ ap (λ k. outer (index k) rest.2) (omega arith))

abbrev FieldLed : Option Known → Fields → Data → Located → Type 0
FieldLed known fs d l = (k : List ℕ) × (g : Grammar) × (stands : Data) × (inner : Located) × (get k d ≡ Some stands) × HasField k g fs × HasFaultAt known g stands inner × (l ≡ outer (key k) inner)

-- what a word asks of the value is not so
abbrev ChoiceLed : Option Known → Fields → Data → Located → Type 0
ChoiceLed known cs d l = (w : List ℕ) × (g : Grammar) × HasField w g cs × HasFaultAt known g d l

mutual
  below : (known : Option Known) (g : Grammar) (d : Data) (l : Located) → inside known g d ≡ Some l → HasFaultIn known g d l
  below known (a_list most g) (array ds) l e =
      let led = items_lead (first_fault known g) (HasFaultAt known g) (λ d m. either known g d m (below known g d m)) 0 ds l e in
      outward known (a_list most g) g (index led.0) (array ds) led.1 led.2 l led.3 refl led.4 (led.5 ∙ ap (λ k. outer (index k) led.2) (omega arith))
  below known (an_optional g) d l e =
      let h = below known g d l e in
      record { stands = h.stands; leads = h.leads; expected = optional_in l.pointer g l.grammar h.expected; faulty = h.faulty }
  below known (an_object rule fs) d l e =
      let led = fields_lead known fs d l e in
      outward known (an_object rule fs) led.1 (key led.0) d led.2 led.3 l led.4 led.5 led.6 led.7
  below known (a_choice k g cs) d l e = by (λ v m. either known g v m (below known g v m)) (λ word. choices_lead known cs word d l) (get k d) refl e
    where
      Deliver : Type 0
      Deliver = (v : Data) (m : Located) → first_fault known g v ≡ Some m → HasFaultAt known g v m

      Later : Type 0
      Later = (word : List ℕ) → in_choices known cs word d ≡ Some l → ChoiceLed known cs d l

      at_it : Deliver → Later → (v : Data) → get k d ≡ Some v → (o : Option Located) → first_fault known g v ≡ o → option_or (under (key k) o) (in_choices known cs (text_of v) d) ≡ Some l → HasFaultIn known (a_choice k g cs) d l
      at_it h later v there (Some m) found e = outward known (a_choice k g cs) g (key k) d v m l there (inl (refl, refl)) (h v m found) (sym (same_Some _ _ e))
      at_it h later v there None found e =
          let led = later (text_of v) e in
          record { stands = led.3.stands; leads = led.3.leads; expected = word_in k g cs led.0 led.1 l.pointer l.grammar led.2 led.3.expected; faulty = led.3.faulty }

      by : Deliver → Later → (o : Option Data) → get k d ≡ o → option_and_then (λ v. option_or (under (key k) (first_fault known g v)) (in_choices known cs (text_of v) d)) o ≡ Some l → HasFaultIn known (a_choice k g cs) d l
      by h later None there e = absurd (none-some l e)
      by h later (Some v) there e = at_it h later v there (first_fault known g v) refl e
  below known g d l e = absurd (none-some l e)

  choices_lead : (known : Option Known) (cs : Fields) (word : List ℕ) (d : Data) (l : Located) → in_choices known cs word d ≡ Some l → ChoiceLed known cs d l
  choices_lead known no_fields word d l e = absurd (none-some l e)
  choices_lead known (field w g cs) word d l e = by (bytes_eq word w) (λ e. either known g d l (below known g d l) e) (choices_lead known cs word d l) e
    where
      by : (b : Bool) → (first_fault known g d ≡ Some l → HasFaultAt known g d l) → (in_choices known cs word d ≡ Some l → ChoiceLed known cs d l)
          → cond b (first_fault known g d) (in_choices known cs word d) ≡ Some l → ChoiceLed known (field w g cs) d l
      by true h later e = (w, g, inl (refl, refl), h e)
      by false h later e = let led = later e in (led.0, led.1, inr led.2, led.3)

  fields_lead : (known : Option Known) (fs : Fields) (d : Data) (l : Located) → in_fields known fs d ≡ Some l → FieldLed known fs d l
  fields_lead known no_fields d l e = absurd (none-some l e)
  fields_lead known (field k g fs) d l e = by (fields_lead known fs d l) (λ v m. either known g v m (below known g v m)) (get k d) refl e
    where
      Later : Type 0
      Later = in_fields known fs d ≡ Some l → FieldLed known fs d l

      Deliver : Type 0
      Deliver = (v : Data) (m : Located) → first_fault known g v ≡ Some m → HasFaultAt known g v m

      after : Later → in_fields known fs d ≡ Some l → FieldLed known (field k g fs) d l
      after later e =
          let led = later e in
          (led.0, led.1, led.2, led.3, led.4, inr led.5, led.6, led.7)

      at_it : Later → Deliver → (v : Data) → get k d ≡ Some v → (o : Option Located) → first_fault known g v ≡ o → option_or (under (key k) o) (in_fields known fs d) ≡ Some l → FieldLed known (field k g fs) d l
      at_it later h v there (Some m) found e = (k, g, v, m, there, inl (refl, refl), h v m found, sym (same_Some _ _ e))
      at_it later h v there None found e = after later e

      by : Later → Deliver → (o : Option Data) → get k d ≡ o → option_or (under (key k) (option_and_then (first_fault known g) o)) (in_fields known fs d) ≡ Some l → FieldLed known (field k g fs) d l
      by later h None there e = after later e
      by later h (Some v) there e = at_it later h v there (first_fault known g v) refl e

-- the pointer leads to the value that has the fault
pub leads : (known : Option Known) (g : Grammar) (d : Data) (l : Located) → first_fault known g d ≡ Some l → HasFaultAt known g d l
leads known g d l e = either known g d l (below known g d l) e
