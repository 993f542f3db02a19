-- What is made of a value that is one of the grammar is what the relation tells.
use Rattle.std.{proofs.Common.{◌≡◌, ◌≢◌, ◌⊎◌, inl, inr, ℕ, zero, suc, ◌<◌, ◌≤◌, List, [], ◌∷◌, length, Bool, true, false, nat_lt, cond, ◌||◌, Option, Some, None, Result, slice_get, refl, sym, ap, ◌∙◌, subst, true≢false, arith, Contains, codes}, proofs.lemmas.Bool.{and_from, or_right, le-leb, ltb-true, lt-ltb}, proofs.lemmas.Slice.Eq.{bytes_eq-Decides}, specs.List.{list_all}, specs.Str.{bytes_eq}}
use Rattle.serde_json.specs.Data.{Data, null, array, Items, no_items, item}
use Rattle.net_plan.{specs.Finding.{names_of}, specs.Fitting.{EachIs, HasAt, IsListThat, Fits}, specs.Grammar.{Grammar, plain, Known}, specs.Json.{is_among, items_count}, specs.JsonWords.{At, AreItems, IsListOf, IsShortListOf, IsOptional, IsNumber, IsNumberWithin, IsTruth, IsName, IsHex, IsAddress, IsIndexOfName, IsFirstOf}, specs.Made.{read_or, number_in, index_in, kind_in, address_in, each_made, each_in, within_in, optional_in, found_or, made_at, number_at, truth_at, index_at, name_at, hex_at}, specs.Names.{index_among, text_of}, specs.PlanText.{IsKindOf}, specs.Tables.{a_number, a_truth, a_name, a_kind, a_hex, an_address}, specs.declared.error.ValueFault.{ValueFault}, specs.declared.shape.Named.{Named}, proofs.KeysLaw.{among_Contains, Contains_among}, proofs.WordsLaw.{same_Some, first_within, first_only, name_tells, hex_tells, address_tells, kind_tells}, proofs.Telling.{Tells, any, both, number_tells, truth_tells}}
use Rattle.plan_values.{specs.Placed.{is_none_or}, specs.declared.nodes.Kind.TheVariants.{Endpoint}}
use Rattle.net_plan.specs.declared.shape.Word.TheVariants as word

-- Of a value that is `strict` what R tells is made, and nothing else is R to it. A value that is `loose` is `strict` where
-- what is made of it passes the test.
pub record Makes {A : Type 0} (loose strict : Data → Type 0) (f : Data → A) (test : A → Bool) (R : Data → A → Type 0) : Type 0 where
  pub there : (d : Data) → strict d → R d (f d)
  pub back : (d : Data) (x : A) → R d x → strict d
  pub same : (d : Data) (x : A) → R d x → f d ≡ x
  pub known : (d : Data) → loose d → test (f d) ≡ true → strict d
  pub passes : (d : Data) → strict d → test (f d) ≡ true

-- a value of the grammar, whatever its names are the names of; and one whose names are known
abbrev pub Made : {A : Type 0} → Known → Grammar → (Data → A) → (A → Bool) → (Data → A → Type 0) → Type 0
Made k g f test R = Makes (λ d. Fits None g d) (λ d. Fits (Some k) g d) f test R

-- the same of what stands at a key
abbrev pub MadeAt : {A : Type 0} → Known → List ℕ → Grammar → (Data → A) → (A → Bool) → (Data → A → Type 0) → Type 0
MadeAt k key g f test R = Makes (HasAt key (λ e. Fits None g e)) (HasAt key (λ e. Fits (Some k) g e)) f test (At key R)

-- ---- words

pub told_makes : {A : Type 0} {f : Data → Result A ValueFault} {R : Data → A → Type 0} (other : A) → Tells f any R → Makes (λ d. (x : A) × R d x) (λ d. (x : A) × R d x) (λ d. read_or other (f d)) any R
told_makes {A} {f} {R} other t = record {
  there = λ d h. subst (R d) (sym (ap (read_or other) (t.whole d h.0 h.1))) h.1;
  back = λ d x h. (x, h);
  same = λ d x h. ap (read_or other) (t.whole d x h);
  known = λ d h pass. h;
  passes = λ d h. refl;
}

pub at_makes : {A : Type 0} {loose strict : Data → Type 0} {f : Data → A} {test : A → Bool} {R : Data → A → Type 0} (key : List ℕ) (other : A) → Makes loose strict f test R
    → Makes (HasAt key loose) (HasAt key strict) (made_at other f key) test (At key R)
at_makes {A} {loose} {strict} {f} {test} {R} key other m = record {
  there = λ d h. (h.0, h.1, subst (R h.0) (sym (ap (found_or other f) h.1)) (m.there h.0 h.2));
  back = λ d x h. (h.0, h.1, m.back h.0 x h.2);
  same = λ d x h. ap (found_or other f) h.1 ∙ m.same h.0 x h.2;
  known = λ d h pass. (h.0, h.1, m.known h.0 h.2 (sym (ap (λ o. test (found_or other f o)) h.1) ∙ pass));
  passes = λ d h. ap (λ o. test (found_or other f o)) h.1 ∙ m.passes h.0 h.2;
}

pub number_makes : (k : Known) (least most : ℕ) → Made k (a_number least most) (number_in least most) any (IsNumberWithin least most)
number_makes k least most = told_makes least (number_tells least most)

pub truth_made : (k : Known) (key : List ℕ) → MadeAt k key a_truth (truth_at key) any IsTruth
truth_made k key = at_makes key false (told_makes false truth_tells)

pub name_made : (k : Known) → MadeAt k (codes "name") a_name name_at any IsName
name_made k = at_makes (codes "name") (codes "-") (told_makes (codes "-") name_tells)

pub kind_made : (k : Known) → MadeAt k (codes "kind") a_kind (made_at Endpoint kind_in (codes "kind")) any IsKindOf
kind_made k = at_makes (codes "kind") Endpoint (told_makes Endpoint kind_tells)

pub hex_made : (k : Known) → MadeAt k (codes "bytes") a_hex hex_at any IsHex
hex_made k = at_makes (codes "bytes") [] (told_makes [] hex_tells)

pub address_made : (k : Known) → MadeAt k (codes "address") an_address (made_at [] address_in (codes "address")) any IsAddress
address_made k = at_makes (codes "address") [] (told_makes [] address_tells)

pub below : (names : List (List ℕ)) (s : List ℕ) → is_among names s ≡ true → index_among names s < length names
below [] s e = absurd (true≢false (sym e))
below (n ∷ ns) s e = by (bytes_eq s n) refl e (below ns s)
  where
    by : (b : Bool) → bytes_eq s n ≡ b → (b || is_among ns s) ≡ true → (is_among ns s ≡ true → index_among ns s < length ns) → cond b 0 (suc (index_among ns s)) < suc (length ns)
    by true is e rest = omega arith
    by false is e rest = let less = rest e in omega arith

among_at : (names : List (List ℕ)) (s : List ℕ) (i : ℕ) → slice_get names i ≡ Some s → is_among names s ≡ true
among_at [] s i e = cc
among_at (n ∷ ns) s zero e = ap (λ b. b || is_among ns s) ((bytes_eq-Decides s n).1 (sym (same_Some e)))
among_at (n ∷ ns) s (suc i) e = or_right (bytes_eq s n) (is_among ns s) (among_at ns s i e)

pub index_makes : (k : Known) (names : Named) → Made k (plain (word.Named names)) (index_in (index_among (names_of names k))) (λ i. nat_lt i (length (names_of names k))) (IsIndexOfName (names_of names k))
index_makes k names =
    let ns = names_of names k in
    let first : (s : List ℕ) → Contains ns s → index_among ns s < length ns = λ s h. below ns s (Contains_among ns s h) in
    record {
      there = λ d h. (h.0, h.1, subst (IsFirstOf ns h.0) (sym (ap (λ e. index_among ns (text_of e)) h.1.0)) (first_within ns h.0 (first h.0 h.2)));
      back = λ d i h. (h.0, h.1, among_Contains ns h.0 (among_at ns h.0 i h.2.stands));
      same = λ d i h. ap (λ e. index_among ns (text_of e)) h.1.0 ∙ first_only ns h.0 i h.2;
      known = λ d h pass.
          let low : index_among ns h.0 < length ns = ltb-true (index_among ns h.0) (length ns) (sym (ap (λ e. nat_lt (index_among ns (text_of e)) (length ns)) h.1.0) ∙ pass) in
          (h.0, h.1, among_Contains ns h.0 (among_at ns h.0 (index_among ns h.0) (first_within ns h.0 low).stands));
      passes = λ d h. ap (λ e. nat_lt (index_among ns (text_of e)) (length ns)) h.1.0 ∙ lt-ltb (index_among ns h.0) (length ns) (first h.0 h.2);
    }

pub number_made : (k : Known) (key : List ℕ) (least most : ℕ) → MadeAt k key (a_number least most) (number_at key least most) any (IsNumberWithin least most)
number_made k key least most = at_makes key least (number_makes k least most)

pub index_made : (k : Known) (key : List ℕ) (names : Named)
    → MadeAt k key (plain (word.Named names)) (index_at key (index_among (names_of names k))) (λ i. nat_lt i (length (names_of names k))) (IsIndexOfName (names_of names k))
index_made k key names = at_makes key (index_among (names_of names k) []) (index_makes k names)

-- one number and no other
pub one_there : (key : List ℕ) (n : ℕ) (d : Data) → HasAt key (λ e. (m : ℕ) × IsNumberWithin n n e m) d → At key IsNumber d n
one_there key n d h =
    let least : n ≤ h.2.0 = h.2.1.1 in
    let most : h.2.0 ≤ n = h.2.1.2 in
    let same : h.2.0 ≡ n = omega arith in
    (h.0, h.1, subst (IsNumber h.0) same h.2.1.0)

pub one_back : (key : List ℕ) (n : ℕ) (d : Data) → At key IsNumber d n → HasAt key (λ e. (m : ℕ) × IsNumberWithin n n e m) d
one_back key n d h = (h.0, h.1, (n, (h.2, omega arith, omega arith)))

-- ---- lists

module _ {A : Type 0} {loose strict : Data → Type 0} {f : Data → A} {test : A → Bool} {R : Data → A → Type 0} (m : Makes loose strict f test R) where
  items_there : (ds : Items) → EachIs strict ds → AreItems R ds (each_made f ds)
  items_there no_items h = tt
  items_there (item d ds) h = (m.there d h.0, items_there ds h.1)

  items_back : (ds : Items) (xs : List A) → AreItems R ds xs → EachIs strict ds
  items_back no_items xs h = tt
  items_back (item d ds) [] h = absurd h
  items_back (item d ds) (x ∷ xs) h = (m.back d x h.0, items_back ds xs h.1)

  items_same : (ds : Items) (xs : List A) → AreItems R ds xs → each_made f ds ≡ xs
  items_same no_items [] h = refl
  items_same (item d ds) (x ∷ xs) h = rw (m.same d x h.0, items_same ds xs h.1) refl
  items_same ds xs h = absurd h

  items_known : (ds : Items) → EachIs loose ds → list_all test (each_made f ds) ≡ true → EachIs strict ds
  items_known no_items h pass = tt
  items_known (item d ds) h pass = let p = both (test (f d)) (list_all test (each_made f ds)) pass in (m.known d h.0 p.0, items_known ds h.1 p.1)

  items_pass : (ds : Items) → EachIs strict ds → list_all test (each_made f ds) ≡ true
  items_pass no_items h = refl
  items_pass (item d ds) h = and_from (test (f d)) (list_all test (each_made f ds)) (m.passes d h.0) (items_pass ds h.1)

  pub list_makes : Makes (IsListThat None loose) (IsListThat None strict) (each_in f) (list_all test) (IsListOf R)
  list_makes = record {
    there = λ d h. subst (IsListOf R d) (sym (ap (each_in f) h.1)) (h.0, h.1, items_there h.0 h.3);
    back = λ d xs h. (h.0, h.1, tt, items_back h.0 xs h.2);
    same = λ d xs h. ap (each_in f) h.1 ∙ items_same h.0 xs h.2;
    known = λ d h pass. (h.0, h.1, tt, items_known h.0 h.3 (sym (ap (λ e. list_all test (each_in f e)) h.1) ∙ pass));
    passes = λ d h. ap (λ e. list_all test (each_in f e)) h.1 ∙ items_pass h.0 h.3;
  }

  counted : (ds : Items) → length (each_made f ds) ≡ items_count ds
  counted no_items = refl
  counted (item d ds) = ap suc (counted ds)

  pub within_is : (most : ℕ) (d : Data) (ds : Items) → d ≡ array ds → items_count ds ≤ most → within_in most f d ≡ each_made f ds
  within_is most d ds is few = ap (within_in most f) is ∙ ap (λ b. cond b (each_made f ds) []) (le-leb (items_count ds) most few)

  few : (most : ℕ) (ds : Items) (xs : List A) → AreItems R ds xs → length xs ≤ most → items_count ds ≤ most
  few most ds xs h less = subst (λ n. n ≤ most) (ap length (sym (items_same ds xs h)) ∙ counted ds) less

  pub within_makes : (most : ℕ) → Makes (IsListThat (Some most) loose) (IsListThat (Some most) strict) (within_in most f) (list_all test) (IsShortListOf most R)
  within_makes most = record {
    there = λ d h. subst (IsShortListOf most R d) (sym (within_is most d h.0 h.1 h.2)) ((h.0, h.1, items_there h.0 h.3), subst (λ n. n ≤ most) (sym (counted h.0)) h.2);
    back = λ d xs h. (h.0.0, h.0.1, few most h.0.0 xs h.0.2 h.1, items_back h.0.0 xs h.0.2);
    same = λ d xs h. within_is most d h.0.0 h.0.1 (few most h.0.0 xs h.0.2 h.1) ∙ items_same h.0.0 xs h.0.2;
    known = λ d h pass. (h.0, h.1, h.2, items_known h.0 h.3 (sym (ap (list_all test) (within_is most d h.0 h.1 h.2)) ∙ pass));
    passes = λ d h. ap (list_all test) (within_is most d h.0 h.1 h.2) ∙ items_pass h.0 h.3;
  }

  -- ---- values that may be `null`

  module _ (some : (d : Data) → strict d → d ≢ null) where
    optional_there : (d : Data) → (d ≡ null) ⊎ strict d → IsOptional R d (optional_in f d)
    optional_there null h = refl
    optional_there d (inl e) = cc
    optional_there d (inr h) = ((λ e. cc), m.there d h)

    optional_back : (d : Data) (x : Option A) → IsOptional R d x → (d ≡ null) ⊎ strict d
    optional_back d None h = inl h
    optional_back d (Some x) h = inr (m.back d x h.1)

    some_is : (d : Data) → d ≢ null → optional_in f d ≡ Some (f d)
    some_is null h = absurd (h refl)
    some_is d h = refl

    optional_same : (d : Data) (x : Option A) → IsOptional R d x → optional_in f d ≡ x
    optional_same d None h = ap (optional_in f) h
    optional_same d (Some x) h = some_is d h.0 ∙ ap Some (m.same d x h.1)

    optional_known : (d : Data) → (d ≡ null) ⊎ loose d → is_none_or test (optional_in f d) ≡ true → (d ≡ null) ⊎ strict d
    optional_known null h pass = inl refl
    optional_known d (inl e) pass = inl e
    optional_known d (inr h) pass = inr (m.known d h pass)

    optional_passes : (d : Data) → (d ≡ null) ⊎ strict d → is_none_or test (optional_in f d) ≡ true
    optional_passes d (inl e) = ap (λ v. is_none_or test (optional_in f v)) e
    optional_passes d (inr h) = ap (is_none_or test) (some_is d (some d h)) ∙ m.passes d h

    pub optional_makes : Makes (λ d. (d ≡ null) ⊎ loose d) (λ d. (d ≡ null) ⊎ strict d) (optional_in f) (is_none_or test) (IsOptional R)
    optional_makes = record { there = optional_there; back = optional_back; same = optional_same; known = optional_known; passes = optional_passes }

none_or_any : {A : Type 0} (o : Option A) → is_none_or any o ≡ true
none_or_any None = refl
none_or_any (Some x) = refl

pub any_optional : {A : Type 0} {loose strict : Data → Type 0} {f : Data → Option A} {R : Data → Option A → Type 0} → Makes loose strict f (is_none_or any) R → Makes loose strict f any R
any_optional {A} {loose} {strict} {f} {R} m = record { there = m.there; back = m.back; same = m.same; known = λ d h pass. m.known d h (none_or_any (f d)); passes = λ d h. refl }

all_any : {A : Type 0} (xs : List A) → list_all any xs ≡ true
all_any [] = refl
all_any (x ∷ xs) = all_any xs

-- the same where any value passes
pub any_makes : {A : Type 0} {loose strict : Data → Type 0} {f : Data → List A} {R : Data → List A → Type 0} → Makes loose strict f (list_all any) R → Makes loose strict f any R
any_makes {A} {loose} {strict} {f} {R} m = record { there = m.there; back = m.back; same = m.same; known = λ d h pass. m.known d h (all_any (f d)); passes = λ d h. refl }
