-- Nothing is wrong with a value exactly where it is one of the grammar.
use Rattle.std.{proofs.Common.{◌≡◌, ◌⊎◌, inl, inr, ℕ, suc, cond, is_some, ◌||◌, ◌≤◌, List, Bool, true, false, not, nat_lt, Option, Some, None, option_map, option_and_then, MatchOption, IfOk, Result, Ok, Err, refl, sym, ap, ◌∙◌, true≢false}, proofs.lemmas.Bool.{or_right, leb-true, le-leb, ltb-false, le-ltb}, proofs.lemmas.Option.{none-some}, proofs.lemmas.Slice.Eq.{bytes_eq-Decides}, specs.Option.{option_or}, specs.Str.{bytes_eq}}
use Rattle.serde_json.{specs.Data.{Data, null, string, array, object, Items, no_items, item}, specs.Find.{get}}
use Rattle.net_plan.{specs.Json.{demand, items_count, keyed, found, is_among, name_text}, specs.JsonWords.{HasKeys}, specs.Reading.{then_with}, specs.declared.error.ValueFault.{ValueFault}, specs.declared.error.ValueFault.TheVariants.{OutOfRange, OverLimit, UnknownName}, proofs.KeysLaw.{keys_sound, keys_whole, among_Contains, Contains_among}, proofs.WordsLaw.{name_tells, hex_tells, address_tells, kind_tells}, proofs.Telling.{Tells, any, no_value, number_tells, truth_tells}, specs.Finding.{fault_of, names_of, known_name, word_fault, word_among, has_key, is_within, short_list, unless_null, range_end, is_late, passes, own_fault, Step, key, index, Located, located, under, here, in_items, in_list, inside, in_fields, in_choices, first_fault, refused}, specs.Fitting.{IsWord, IsOneOf, EachIs, IsWithin, Passes, Either, Fits, FieldsFit, ChoiceFits}, specs.Grammar.{Grammar, plain, one_of, a_list, an_optional, an_object, a_choice, Fields, no_fields, field, keys_of, Known}, specs.Names.{text_of}, specs.declared.found.Found.{Found}, specs.declared.shape.Named.{Named}, specs.declared.shape.Rule.{Rule}, specs.declared.shape.Word.{Word}}
use Rattle.net_plan.specs.declared.shape.Rule.TheVariants as rule
use Rattle.net_plan.specs.declared.shape.Word.TheVariants as word

-- ---- nothing is wrong

neither : (a b : Option Located) → option_or a b ≡ None → (a ≡ None) × (b ≡ None)
neither None b e = (refl, e)
neither (Some l) b e = absurd (none-some l (sym e))

nothing : (a b : Option Located) → a ≡ None → b ≡ None → option_or a b ≡ None
nothing a b p q = rw (p, q) refl

not_here : (g : Grammar) (o : Option ValueFault) → here g o ≡ None → o ≡ None
not_here g None e = refl
not_here g (Some f) e = absurd (none-some _ (sym e))

not_under : (s : Step) (o : Option Located) → under s o ≡ None → o ≡ None
not_under s None e = refl
not_under s (Some l) e = absurd (none-some _ (sym e))

pub no_fault : {A : Type 0} (r : Result A ValueFault) → fault_of r ≡ None → (a : A) × (r ≡ Ok a)
no_fault (Ok a) e = (a, refl)
no_fault (Err f) e = absurd (none-some f (sym e))

-- a value that is not refused has no fault
pub unrefused : (o : Option Located) (u : Unit {0}) → refused o ≡ Ok u → o ≡ None
unrefused None u e = refl
unrefused (Some l) u e = absurd (no_value e)

-- ---- words

told : {A : Type 0} {f : Data → Result A ValueFault} {R : Data → A → Type 0} → Tells f any R → (d : Data) → fault_of (f d) ≡ None → (x : A) × R d x
told {A} {f} {R} t d e = let p = no_fault (f d) e in (p.0, t.sound d p.0 p.1 refl)

untold : {A : Type 0} {f : Data → Result A ValueFault} {R : Data → A → Type 0} → Tells f any R → (d : Data) (x : A) → R d x → fault_of (f d) ≡ None
untold t d x h = ap fault_of (t.whole d x h)

pub demanded : (f : ValueFault) (b : Bool) → fault_of (demand f b) ≡ None → b ≡ true
demanded f true e = refl
demanded f false e = absurd (none-some f (sym e))

named_sound : (known : Option Known) (names : Named) (d : Data) → fault_of (known_name (option_map (names_of names) known) d) ≡ None → IsWord known (word.Named names) d
named_sound None names d e = by (name_text d) refl e
  where
    by : (r : Result (List ℕ) ValueFault) → name_text d ≡ r → fault_of (then_with r (λ _. Ok (tt {0}))) ≡ None → IsWord None (word.Named names) d
    by (Ok s) is e = (s, name_tells.sound d s is refl, tt)
    by (Err f) is e = absurd (none-some f (sym e))
named_sound (Some k) names d e = by (name_text d) refl e
  where
    by : (r : Result (List ℕ) ValueFault) → name_text d ≡ r → fault_of (then_with r (λ name. demand UnknownName (is_among (names_of names k) name))) ≡ None → IsWord (Some k) (word.Named names) d
    by (Ok s) is e = (s, name_tells.sound d s is refl, among_Contains (names_of names k) s (demanded UnknownName (is_among (names_of names k) s) e))
    by (Err f) is e = absurd (none-some f (sym e))

named_whole : (known : Option Known) (names : Named) (d : Data) → IsWord known (word.Named names) d → fault_of (known_name (option_map (names_of names) known) d) ≡ None
named_whole None names d h = rw (name_tells.whole d h.0 h.1) refl
named_whole (Some k) names d h = rw (name_tells.whole d h.0 h.1, Contains_among (names_of names k) h.0 h.2) refl

word_sound : (known : Option Known) (w : Word) (d : Data) → word_fault known w d ≡ None → IsWord known w d
word_sound known (word.Number least most) d e = told (number_tells least most) d e
word_sound known word.Name d e = told name_tells d e
word_sound known (word.Named names) d e = named_sound known names d e
word_sound known word.Truth d e = told truth_tells d e
word_sound known word.Kind d e = told kind_tells d e
word_sound known word.Hex d e = told hex_tells d e
word_sound known word.Address d e = told address_tells d e

word_whole : (known : Option Known) (w : Word) (d : Data) → IsWord known w d → word_fault known w d ≡ None
word_whole known (word.Number least most) d h = untold (number_tells least most) d h.0 h.1
word_whole known word.Name d h = untold name_tells d h.0 h.1
word_whole known (word.Named names) d h = named_whole known names d h
word_whole known word.Truth d h = untold truth_tells d h.0 h.1
word_whole known word.Kind d h = untold kind_tells d h.0 h.1
word_whole known word.Hex d h = untold hex_tells d h.0 h.1
word_whole known word.Address d h = untold address_tells d h.0 h.1

among_sound : (words : List (List ℕ)) (d : Data) → fault_of (word_among words d) ≡ None → IsOneOf words d
among_sound words (string s) e = (s, refl, among_Contains words s (demanded OutOfRange (is_among words s) e))
among_sound words d e = absurd (none-some _ (sym e))

among_whole : (words : List (List ℕ)) (d : Data) → IsOneOf words d → fault_of (word_among words d) ≡ None
among_whole words d h = ap (λ v. fault_of (word_among words v)) h.1 ∙ ap (λ b. fault_of (demand OutOfRange b)) (Contains_among words h.0 h.2)

-- ---- lists

within_sound : (most : Option ℕ) (n : ℕ) → is_within most n ≡ true → IsWithin most n
within_sound None n e = tt
within_sound (Some most) n e = leb-true n most e

within_whole : (most : Option ℕ) (n : ℕ) → IsWithin most n → is_within most n ≡ true
within_whole None n h = refl
within_whole (Some most) n h = le-leb n most h

short_sound : (most : Option ℕ) (d : Data) → fault_of (short_list most d) ≡ None → (ds : Items) × (d ≡ array ds) × IsWithin most (items_count ds)
short_sound most (array ds) e = (ds, refl, within_sound most (items_count ds) (demanded OverLimit (is_within most (items_count ds)) e))
short_sound most d e = absurd (none-some _ (sym e))

items_sound : (f : Data → Option Located) (P : Data → Type 0) → ((d : Data) → f d ≡ None → P d) → (n : ℕ) (ds : Items) → in_items f n ds ≡ None → EachIs P ds
items_sound f P h n no_items e = tt
items_sound f P h n (item d ds) e =
    let p = neither (under (index n) (f d)) (in_items f (suc n) ds) e in
    (h d (not_under (index n) (f d) p.0), items_sound f P h (suc n) ds p.1)

items_whole : (f : Data → Option Located) (P : Data → Type 0) → ((d : Data) → P d → f d ≡ None) → (n : ℕ) (ds : Items) → EachIs P ds → in_items f n ds ≡ None
items_whole f P h n no_items e = refl
items_whole f P h n (item d ds) e = nothing (under (index n) (f d)) (in_items f (suc n) ds) (ap (under (index n)) (h d e.0)) (items_whole f P h (suc n) ds e.1)

-- ---- objects

-- at each key something stands
abbrev There : Fields → Data → Type 0
There no_fields d = Unit {0}
There (field k g fs) d = ((stands : Data) × (get k d ≡ Some stands)) × There fs d

is_there : (o : Option Data) → is_some o ≡ true → (stands : Data) × (o ≡ Some stands)
is_there (Some stands) e = (stands, refl)
is_there None e = absurd (true≢false (sym e))

each_there : (fs : Fields) (d : Data) → ((k : List ℕ) → is_among (keys_of fs) k ≡ true → is_some (get k d) ≡ true) → There fs d
each_there no_fields d h = tt
each_there (field k g fs) d h =
    (is_there (get k d) (h k (ap (λ b. b || is_among (keys_of fs) k) ((bytes_eq-Decides k k).1 refl))), each_there fs d (λ l among. h l (or_right (bytes_eq l k) (is_among (keys_of fs) l) among)))

all_there : (fs : Fields) (d : Data) → HasKeys (keys_of fs) d → There fs d
all_there fs d h = each_there fs d (λ k among. ap (λ e. is_some (get k e)) h.1 ∙ (h.2 k).1 (among_Contains (keys_of fs) k among))

object_sound : (rule : Rule) (fs : Fields) (d : Data) → fault_of (then_with (keyed (keys_of fs) d) (λ _. passes rule d)) ≡ None → HasKeys (keys_of fs) d × (fault_of (passes rule d) ≡ None)
object_sound rule fs d e = by (keyed (keys_of fs) d) refl e
  where
    by : (r : Result (Unit {0}) ValueFault) → keyed (keys_of fs) d ≡ r → fault_of (then_with r (λ _. passes rule d)) ≡ None → HasKeys (keys_of fs) d × (fault_of (passes rule d) ≡ None)
    by (Ok u) is e = (keys_sound (keys_of fs) d u is, e)
    by (Err f) is e = absurd (none-some f (sym e))

not_late : (end : ℕ) → nat_lt 256 end ≡ false → end ≤ 256
not_late end e = ltb-false 256 end e

in_time : (end : ℕ) → not (nat_lt 256 end) ≡ true → end ≤ 256
in_time end e = by (nat_lt 256 end) refl e
  where
    by : (b : Bool) → nat_lt 256 end ≡ b → not b ≡ true → end ≤ 256
    by true is e = absurd (true≢false (sym e))
    by false is e = not_late end is

passes_sound : (rule : Rule) (d : Data) → fault_of (passes rule d) ≡ None → Passes rule d
passes_sound rule.None d e = tt
passes_sound rule.EndsInTime d e = λ end is. in_time end (ap (λ r. not (is_late r)) (sym is) ∙ demanded OutOfRange (not (is_late (range_end d))) e)

passes_whole : (rule : Rule) (d : Data) → Passes rule d → fault_of (passes rule d) ≡ None
passes_whole rule.None d h = refl
passes_whole rule.EndsInTime d h = by (range_end d) refl
  where
    by : (r : Result ℕ ValueFault) → range_end d ≡ r → fault_of (demand OutOfRange (not (is_late r))) ≡ None
    by (Err f) is = refl
    by (Ok end) is = let low : end ≤ 256 = h end is in let b : nat_lt 256 end ≡ false = le-ltb 256 end low in rw (b) refl

-- ---- choices

has_sound : (k : List ℕ) (d : Data) → fault_of (has_key k d) ≡ None → (stands : Data) × (get k d ≡ Some stands)
has_sound k (object ms) e = by (get k (object ms)) refl e
  where
    by : (o : Option Data) → get k (object ms) ≡ o → fault_of (then_with (found o) (λ _. Ok (tt {0}))) ≡ None → (stands : Data) × (get k (object ms) ≡ Some stands)
    by (Some stands) is e = (stands, is)
    by None is e = absurd (none-some _ (sym e))
has_sound k d e = absurd (none-some _ (sym e))

has_whole : (k : List ℕ) (d stands : Data) → get k d ≡ Some stands → fault_of (has_key k d) ≡ None
has_whole k (object ms) stands is = ap (λ o. fault_of (then_with (found o) (λ _. Ok (tt {0})))) is
has_whole k d stands is = absurd (none-some _ is)

-- ---- `null`

no_keys : (known : Option Known) (fs : Fields) (d : Data) → ((k : List ℕ) → get k d ≡ None) → in_fields known fs d ≡ None
no_keys known no_fields d none = refl
no_keys known (field k g fs) d none = rw (none k) (no_keys known fs d none)

pub inside_null : (known : Option Known) (g : Grammar) → inside known g null ≡ None
inside_null known (an_optional g) = inside_null known g
inside_null known (an_object rule fs) = no_keys known fs null (λ k. refl)
inside_null known g = refl

-- a value is `null`, or it is not
optional_sound : (o : Option ValueFault) (d : Data) → unless_null d o ≡ None → (d ≡ null) ⊎ (o ≡ None)
optional_sound o null e = inl refl
optional_sound o d e = inr e

optional_whole : (o : Option ValueFault) (d : Data) → o ≡ None → unless_null d o ≡ None
optional_whole o null e = refl
optional_whole o d e = e

-- ---- by induction

parted : (known : Option Known) (g : Grammar) (d : Data) → first_fault known g d ≡ None → (own_fault known g d ≡ None) × (inside known g d ≡ None)
parted known g d e = let p = neither (here g (own_fault known g d)) (inside known g d) e in (not_here g (own_fault known g d) p.0, p.1)

joined : (known : Option Known) (g : Grammar) (d : Data) → own_fault known g d ≡ None → inside known g d ≡ None → first_fault known g d ≡ None
joined known g d p q = nothing (here g (own_fault known g d)) (inside known g d) (ap (here g) p) q

mutual
  sound : (known : Option Known) (g : Grammar) (d : Data) → own_fault known g d ≡ None → inside known g d ≡ None → Fits known g d
  sound known (plain w) d own deep = word_sound known w d own
  sound known (one_of words) d own deep = among_sound words d own
  sound known (a_list most g) d own deep =
      let p = short_sound most d own in
      (p.0, p.1, p.2, items_sound (first_fault known g) (λ e. Fits known g e) (λ e none. let p = parted known g e none in sound known g e p.0 p.1) 0 p.0 (sym (ap (in_list (first_fault known g)) p.1) ∙ deep))
  sound known (an_optional g) d own deep = by (optional_sound (own_fault known g d) d own) (λ e. sound known g d e deep)
    where
      by : (d ≡ null) ⊎ (own_fault known g d ≡ None) → (own_fault known g d ≡ None → Fits known g d) → (d ≡ null) ⊎ Fits known g d
      by (inl e) rest = inl e
      by (inr e) rest = inr (rest e)
  sound known (an_object rule fs) d own deep =
      let p = object_sound rule fs d own in
      (p.0, fields_sound known fs d (all_there fs d p.0) deep, passes_sound rule d p.1)
  sound known (a_choice k g cs) d own deep =
      let there = has_sound k d own in
      let p = neither (under (key k) (first_fault known g there.0)) (in_choices known cs (text_of there.0) d)
      (sym (ap (option_and_then (λ e. option_or (under (key k) (first_fault known g e)) (in_choices known cs (text_of e) d))) there.1) ∙ deep) in
      let q = parted known g there.0 (not_under (key k) (first_fault known g there.0) p.0) in
      (there.0, there.1, (sound known g there.0 q.0 q.1, choices_sound known cs (text_of there.0) d p.1))

  fields_sound : (known : Option Known) (fs : Fields) (d : Data) → There fs d → in_fields known fs d ≡ None → FieldsFit known fs d
  fields_sound known no_fields d there e = tt
  fields_sound known (field k g fs) d there e =
      let p = neither (under (key k) (option_and_then (first_fault known g) (get k d))) (in_fields known fs d) e in
      let none : first_fault known g there.0.0 ≡ None = sym (ap (option_and_then (first_fault known g)) there.0.1) ∙ not_under (key k) (option_and_then (first_fault known g) (get k d)) p.0 in
      let q = parted known g there.0.0 none in
      ((there.0.0, there.0.1, sound known g there.0.0 q.0 q.1), fields_sound known fs d there.1 p.1)

  choices_sound : (known : Option Known) (cs : Fields) (word : List ℕ) (d : Data) → in_choices known cs word d ≡ None → ChoiceFits known cs word d
  choices_sound known no_fields word d e = tt
  choices_sound known (field w g cs) word d e = by (bytes_eq word w) (λ e. let p = parted known g d e in sound known g d p.0 p.1) (choices_sound known cs word d) e
    where
      by : (b : Bool) → (first_fault known g d ≡ None → Fits known g d) → (in_choices known cs word d ≡ None → ChoiceFits known cs word d)
          → cond b (first_fault known g d) (in_choices known cs word d) ≡ None → Either b (Fits known g d) (ChoiceFits known cs word d)
      by true here later e = here e
      by false here later e = later e

-- where no fault is found, the value is one of the grammar
pub none_fits : (known : Option Known) (g : Grammar) (d : Data) → first_fault known g d ≡ None → Fits known g d
none_fits known g d e = let p = parted known g d e in sound known g d p.0 p.1

mutual
  pub own_whole : (known : Option Known) (g : Grammar) (d : Data) → Fits known g d → own_fault known g d ≡ None
  own_whole known (plain w) d h = word_whole known w d h
  own_whole known (one_of words) d h = among_whole words d h
  own_whole known (a_list most g) d h = ap (λ e. fault_of (short_list most e)) h.1 ∙ ap (λ b. fault_of (demand OverLimit b)) (within_whole most (items_count h.0) h.2)
  own_whole known (an_optional g) d (inl e) = ap (λ v. unless_null v (own_fault known g v)) e
  own_whole known (an_optional g) d (inr h) = optional_whole (own_fault known g d) d (own_whole known g d h)
  own_whole known (an_object rule fs) d h = ap (λ r. fault_of (then_with r (λ _. passes rule d))) (keys_whole (keys_of fs) d h.0) ∙ passes_whole rule d h.2
  own_whole known (a_choice k g cs) d h = has_whole k d h.0 h.1

  inside_whole : (known : Option Known) (g : Grammar) (d : Data) → Fits known g d → inside known g d ≡ None
  inside_whole known (a_list most g) d h =
      ap (in_list (first_fault known g)) h.1 ∙ items_whole (first_fault known g) (λ e. Fits known g e) (λ e fits. joined known g e (own_whole known g e fits) (inside_whole known g e fits)) 0 h.0 h.3
  inside_whole known (an_optional g) d (inl e) = ap (inside known g) e ∙ inside_null known g
  inside_whole known (an_optional g) d (inr h) = inside_whole known g d h
  inside_whole known (an_object rule fs) d h = fields_whole known fs d h.1
  inside_whole known (a_choice k g cs) d h =
      ap (option_and_then (λ e. option_or (under (key k) (first_fault known g e)) (in_choices known cs (text_of e) d))) h.1
      ∙ nothing (under (key k) (first_fault known g h.0)) (in_choices known cs (text_of h.0) d)
      (ap (under (key k)) (joined known g h.0 (own_whole known g h.0 h.2.0) (inside_whole known g h.0 h.2.0)))
      (choices_whole known cs (text_of h.0) d h.2.1)
  inside_whole known g d h = refl

  fields_whole : (known : Option Known) (fs : Fields) (d : Data) → FieldsFit known fs d → in_fields known fs d ≡ None
  fields_whole known no_fields d h = refl
  fields_whole known (field k g fs) d h =
      nothing (under (key k) (option_and_then (first_fault known g) (get k d))) (in_fields known fs d)
      (ap (λ o. under (key k) (option_and_then (first_fault known g) o)) h.0.1 ∙ ap (under (key k)) (joined known g h.0.0 (own_whole known g h.0.0 h.0.2) (inside_whole known g h.0.0 h.0.2)))
      (fields_whole known fs d h.1)

  choices_whole : (known : Option Known) (cs : Fields) (word : List ℕ) (d : Data) → ChoiceFits known cs word d → in_choices known cs word d ≡ None
  choices_whole known no_fields word d h = refl
  choices_whole known (field w g cs) word d h =
      by (bytes_eq word w) (λ fits. joined known g d (own_whole known g d fits) (inside_whole known g d fits)) (choices_whole known cs word d) h
    where
      by : (b : Bool) → (Fits known g d → first_fault known g d ≡ None) → (ChoiceFits known cs word d → in_choices known cs word d ≡ None)
          → Either b (Fits known g d) (ChoiceFits known cs word d) → cond b (first_fault known g d) (in_choices known cs word d) ≡ None
      by true here later h = here h
      by false here later h = later h

-- in a value of the grammar no fault is found
pub fits_none : (known : Option Known) (g : Grammar) (d : Data) → Fits known g d → first_fault known g d ≡ None
fits_none known g d h = joined known g d (own_whole known g d h) (inside_whole known g d h)

-- a value whose names are known is one whatever they are the names of
word_forget : (k : Known) (w : Word) (d : Data) → IsWord (Some k) w d → IsWord None w d
word_forget k (word.Named names) d h = (h.0, h.1, tt)
word_forget k w d h = h

each_forget : (P Q : Data → Type 0) → ((d : Data) → P d → Q d) → (ds : Items) → EachIs P ds → EachIs Q ds
each_forget P Q h no_items each = tt
each_forget P Q h (item d ds) each = (h d each.0, each_forget P Q h ds each.1)

mutual
  pub forget : (k : Known) (g : Grammar) (d : Data) → Fits (Some k) g d → Fits None g d
  forget k (plain w) d h = word_forget k w d h
  forget k (one_of words) d h = h
  forget k (a_list most g) d h = (h.0, h.1, h.2, each_forget (λ e. Fits (Some k) g e) (λ e. Fits None g e) (λ e fits. forget k g e fits) h.0 h.3)
  forget k (an_optional g) d (inl e) = inl e
  forget k (an_optional g) d (inr h) = inr (forget k g d h)
  forget k (an_object rule fs) d h = (h.0, forget_fields k fs d h.1, h.2)
  forget k (a_choice name g cs) d h = (h.0, h.1, (forget k g h.0 h.2.0, forget_choices k cs (text_of h.0) d h.2.1))

  forget_fields : (k : Known) (fs : Fields) (d : Data) → FieldsFit (Some k) fs d → FieldsFit None fs d
  forget_fields k no_fields d h = tt
  forget_fields k (field name g fs) d h = ((h.0.0, h.0.1, forget k g h.0.0 h.0.2), forget_fields k fs d h.1)

  forget_choices : (k : Known) (cs : Fields) (word : List ℕ) (d : Data) → ChoiceFits (Some k) cs word d → ChoiceFits None cs word d
  forget_choices k no_fields word d h = tt
  forget_choices k (field w g cs) word d h = by (bytes_eq word w) (forget k g d) (forget_choices k cs word d) h
    where
      by : (b : Bool) → (Fits (Some k) g d → Fits None g d) → (ChoiceFits (Some k) cs word d → ChoiceFits None cs word d)
          → Either b (Fits (Some k) g d) (ChoiceFits (Some k) cs word d) → Either b (Fits None g d) (ChoiceFits None cs word d)
      by true here later h = here h
      by false here later h = later h

found_or_fits : (known : Option Known) (g : Grammar) (d : Data) (o : Option Located) → o ≡ first_fault known g d → MatchOption o (Fits known g d) (λ _. ¬ Fits known g d)
found_or_fits known g d None e = none_fits known g d (sym e)
found_or_fits known g d (Some l) e = λ fits. none-some l (sym (fits_none known g d fits) ∙ sym e)

-- nothing is found exactly where the value is one of the grammar
pub searched : {E : Type 0} (known : Option Known) (g : Grammar) (d : Data) (r : Result (Option Found) E) → IfOk r (λ found. option_map located found ≡ first_fault known g d)
    → IfOk r (λ found. MatchOption (option_map located found) (Fits known g d) (λ _. ¬ Fits known g d))
searched known g d (Ok found) e = found_or_fits known g d (option_map located found) e
searched known g d (Err e) h = h
