-- A reading has no line of a difference exactly where its entries are those of the plan.
use Rattle.std.{proofs.Common.{◌≡◌, ℕ, ◌==◌, ◌&&◌, ◌||◌, not, Bool, true, false, List, [], ◌∷◌, ◌++◌, refl, ap, sym, ◌∙◌, subst, inl, inr, cond, nat_eq}, specs.Prelude.{Option, Some, None, find, codes, if◌then◌else◌}, specs.Option.{option_or}, specs.List.{flat_map, list_any}, specs.Fmt.{decimal}, specs.Cmp.Lexicographic.{pointwise, bytes_decides}, proofs.lemmas.Bool.{cases_Bool, eqb-true, eq-eqb}, proofs.lemmas.Option.{same_Some}}
use Rattle.mctp_control.specs.RouteEntries.{EntryValue}
use Rattle.audited_captures.{specs.AsPlanned.{IsAmong, IsLike, AreOnce, AreAsPlanned, MatchesWhereAsPlanned}, proofs.Booleans.{both, both_left, both_right, not_true, either, or_right, not_both}, specs.Routes.{same_range, has_range, two_words, unlike_number, address_words, unlike_address, unlike, line_if_unlike, line_beside, planned_lines, lines_if_extra, extra_line, extra_lines, unlike_lines}}

-- ---- lists

pub nil_left : {A : Type 0} (xs ys : List A) → xs ++ ys ≡ [] → xs ≡ []
nil_left [] ys is = refl
nil_left (x ∷ xs) ys is = absurd (cc)

pub nil_right : {A : Type 0} (xs ys : List A) → xs ++ ys ≡ [] → ys ≡ []
nil_right [] ys is = is
nil_right (x ∷ xs) ys is = absurd (cc)

pub no_line : {A : Type 0} (b : Bool) (x : A) → (if b then [] else x ∷ []) ≡ [] → b ≡ true
no_line true x is = refl
no_line false x is = absurd (cc)

module _ {A B : Type 0} (f : A → List B) where
  pub flat_nil : (xs : List A) → flat_map f xs ≡ [] → (x : A) → IsAmong x xs → f x ≡ []
  flat_nil [] is x among = absurd among
  flat_nil (y ∷ ys) is x (inl same) = ap f (sym same) ∙ nil_left (f y) (flat_map f ys) is
  flat_nil (y ∷ ys) is x (inr among) = flat_nil ys (nil_right (f y) (flat_map f ys) is) x among

  pub flat_none : (xs : List A) → ((x : A) → IsAmong x xs → f x ≡ []) → flat_map f xs ≡ []
  flat_none [] each = refl
  flat_none (y ∷ ys) each = ap (λ ls. ls ++ flat_map f ys) (each y (inl refl)) ∙ flat_none ys (λ x among. each x (inr among))

module _ {A : Type 0} (test : A → Bool) where
  pub any_is : (xs : List A) → list_any test xs ≡ true → (x : A) × IsAmong x xs × (test x ≡ true)
  any_is [] is = absurd (cc)
  any_is (y ∷ ys) is = elim (either (test y) (list_any test ys) is) [
    | inl here ↦ (y, inl refl, here)
    | inr later ↦ (let found = any_is ys later in (found.0, inr found.1, found.2))
  ]

  pub any_of : (xs : List A) (x : A) → IsAmong x xs → test x ≡ true → list_any test xs ≡ true
  any_of [] x among passes = absurd among
  any_of (y ∷ ys) x (inl same) passes = ap (λ b. b || list_any test ys) (ap test same ∙ passes)
  any_of (y ∷ ys) x (inr among) passes = or_right (test y) (list_any test ys) (any_of ys x among passes)

  found_is : (xs : List A) (x : A) → find test xs ≡ Some x → IsAmong x xs × (test x ≡ true)
  found_is [] x is = absurd (cc)
  found_is (y ∷ ys) x is = elim (cases_Bool (test y)) [
    | inl here ↦ (
        let same : y ≡ x = same_Some y x (sym (ap (λ b. cond b (Some y) (find test ys)) here) ∙ is) in
        (inl same, ap test (sym same) ∙ here))
    | inr other ↦ (
        let later = found_is ys x (sym (ap (λ b. cond b (Some y) (find test ys)) other) ∙ is) in
        (inr later.0, later.1))
  ]

  find_of : (xs : List A) (x : A) → IsAmong x xs → test x ≡ true → (y : A) × (find test xs ≡ Some y)
  find_of [] x among passes = absurd among
  find_of (y ∷ ys) x among passes = elim (cases_Bool (test y)) [
    | inl here ↦ (y, ap (λ b. cond b (Some y) (find test ys)) here)
    | inr other ↦ elim among [
      | inl same ↦ absurd (not_both (test y) (ap test same ∙ passes) other)
      | inr later ↦ (
          let found = find_of ys x later passes in
          (found.0, ap (λ b. cond b (Some y) (find test ys)) other ∙ found.1))
    ]
  ]

-- ---- ranges

first_is : (e f : EntryValue) → same_range e f ≡ true → e.first ≡ f.first
first_is e f is = eqb-true e.first f.first (both_left (e.first == f.first) (e.size == f.size) is)

size_is : (e f : EntryValue) → same_range e f ≡ true → e.size ≡ f.size
size_is e f is = eqb-true e.size f.size (both_right (e.first == f.first) (e.size == f.size) is)

range_of : (e f : EntryValue) → e.first ≡ f.first → e.size ≡ f.size → same_range e f ≡ true
range_of e f first size = both (e.first == f.first) (e.size == f.size) (eq-eqb e.first f.first first) (eq-eqb e.size f.size size)

-- where no two are for the same endpoint IDs, two that are are one
same_one : (fs : List EntryValue) (f g : EntryValue) → AreOnce fs → IsAmong f fs → IsAmong g fs → f.first ≡ g.first → f.size ≡ g.size → f ≡ g
same_one [] f g once is_f is_g first size = absurd is_f
same_one (h ∷ hs) f g once (inl is_f) (inl is_g) first size = sym is_f ∙ is_g
same_one (h ∷ hs) f g once (inl is_f) (inr later) first size =
    let range : same_range h g ≡ true = range_of h g (ap (λ (x : EntryValue). x.first) is_f ∙ first) (ap (λ (x : EntryValue). x.size) is_f ∙ size) in
    absurd (not_both (has_range hs h) (any_of (same_range h) hs g later range) once.0)
same_one (h ∷ hs) f g once (inr later) (inl is_g) first size =
    let range : same_range h f ≡ true = range_of h f (ap (λ (x : EntryValue). x.first) is_g ∙ sym first) (ap (λ (x : EntryValue). x.size) is_g ∙ sym size) in
    absurd (not_both (has_range hs h) (any_of (same_range h) hs f later range) once.0)
same_one (h ∷ hs) f g once (inr is_f) (inr is_g) first size = same_one hs f g once.1 is_f is_g first size

-- ---- what is unlike

none_left : {A : Type 0} (a b : Option A) → option_or a b ≡ None → a ≡ None
none_left None b is = refl
none_left (Some x) b is = is

none_right : {A : Type 0} (a b : Option A) → option_or a b ≡ None → b ≡ None
none_right None b is = is
none_right (Some x) b is = absurd (cc)

none_both : {A : Type 0} (a b : Option A) → a ≡ None → b ≡ None → option_or a b ≡ None
none_both a b is_a is_b = ap (λ x. option_or x b) is_a ∙ is_b

no_words : {A : Type 0} (b : Bool) (x : A) → (if b then None else Some x) ≡ None → b ≡ true
no_words true x is = refl
no_words false x is = absurd (cc)

words_none : {A : Type 0} (b : Bool) (x : A) → b ≡ true → (if b then None else Some x) ≡ None
words_none b x is = ap (λ c. if c then None else Some x) is

number_is : (name : List ℕ) (a b : ℕ) → unlike_number name a b ≡ None → a ≡ b
number_is name a b is = eqb-true a b (no_words (a == b) (two_words name (decimal a) (decimal b)) is)

number_of : (name : List ℕ) (a b : ℕ) → a ≡ b → unlike_number name a b ≡ None
number_of name a b is = words_none (a == b) (two_words name (decimal a) (decimal b)) (eq-eqb a b is)

like_of : (e f : EntryValue) → same_range e f ≡ true → unlike e f ≡ None → IsLike e f
like_of e f range is =
    let kind = unlike_number (codes "type") e.kind f.kind in
    let port = unlike_number (codes "port") e.port f.port in
    let binding = unlike_number (codes "binding") e.binding f.binding in
    let media = unlike_number (codes "media") e.media f.media in
    let address = unlike_address e.address f.address in
    let from_media = option_or media address in
    let from_binding = option_or binding from_media in
    let from_port = option_or port from_binding in
    let is_port = none_right kind from_port is in
    let is_binding = none_right port from_binding is_port in
    let is_media = none_right binding from_media is_binding in
    let is_address = none_right media address is_media in
    record {
      first = first_is e f range;
      size = size_is e f range;
      kind = number_is (codes "type") e.kind f.kind (none_left kind from_port is);
      port = number_is (codes "port") e.port f.port (none_left port from_binding is_port);
      binding = number_is (codes "binding") e.binding f.binding (none_left binding from_media is_binding);
      media = number_is (codes "media") e.media f.media (none_left media address is_media);
      address = (bytes_decides e.address f.address).0 (no_words (pointwise nat_eq e.address f.address) (two_words (codes "address") (address_words e.address) (address_words f.address)) is_address);
    }

unlike_of : (e f : EntryValue) → IsLike e f → unlike e f ≡ None
unlike_of e f like =
    let kind = unlike_number (codes "type") e.kind f.kind in
    let port = unlike_number (codes "port") e.port f.port in
    let binding = unlike_number (codes "binding") e.binding f.binding in
    let media = unlike_number (codes "media") e.media f.media in
    let address = unlike_address e.address f.address in
    let from_media = option_or media address in
    let from_binding = option_or binding from_media in
    let from_port = option_or port from_binding in
    let is_address : address ≡ None =
    words_none (pointwise nat_eq e.address f.address) (two_words (codes "address") (address_words e.address) (address_words f.address)) ((bytes_decides e.address f.address).1 like.address) in
    none_both kind from_port (number_of (codes "type") e.kind f.kind like.kind)
    (none_both port from_binding (number_of (codes "port") e.port f.port like.port)
    (none_both binding from_media (number_of (codes "binding") e.binding f.binding like.binding)
    (none_both media address (number_of (codes "media") e.media f.media like.media) is_address)))

-- ---- the lines

module _ (name : List ℕ) where
  if_nil : (e : EntryValue) (words : Option (List ℕ)) → line_if_unlike name e words ≡ [] → words ≡ None
  if_nil e None is = refl
  if_nil e (Some words) is = absurd (cc)

  beside_nil : (e : EntryValue) (o : Option EntryValue) → line_beside name e o ≡ [] → (f : EntryValue) × (o ≡ Some f) × (unlike e f ≡ None)
  beside_nil e None is = absurd (cc)
  beside_nil e (Some f) is = (f, refl, if_nil e (unlike e f) is)

  planned_nil : (found : List EntryValue) (e : EntryValue) → planned_lines name found e ≡ [] → (f : EntryValue) × IsAmong f found × IsLike e f
  planned_nil found e is =
      let beside = beside_nil e (find (same_range e) found) is in
      let at = found_is (same_range e) found beside.0 beside.1 in
      (beside.0, at.0, like_of e beside.0 at.1 beside.2)

  planned_none : (found : List EntryValue) (e f : EntryValue) → AreOnce found → IsAmong f found → IsLike e f → planned_lines name found e ≡ []
  planned_none found e f once among like =
      let first = find_of (same_range e) found f among (range_of e f like.first like.size) in
      let g = first.0 in
      let at = found_is (same_range e) found g first.1 in
      let same : f ≡ g = same_one found f g once among at.0 (sym like.first ∙ first_is e g at.1) (sym like.size ∙ size_is e g at.1) in
      ap (line_beside name e) first.1 ∙ ap (line_if_unlike name e) (unlike_of e g (subst (λ x. IsLike e x) same like))

  module _ (planned : List EntryValue) where
    not_extra : (f : EntryValue) (later : List EntryValue) → lines_if_extra name planned f later ≡ [] → (has_range planned f ≡ true) × (has_range later f ≡ false)
    not_extra f later is =
        let holds = no_line (has_range planned f && not (has_range later f)) (extra_line name f) is in
        (both_left (has_range planned f) (not (has_range later f)) holds, not_true (has_range later f) (both_right (has_range planned f) (not (has_range later f)) holds))

    once_of : (found : List EntryValue) → extra_lines name planned found ≡ [] → AreOnce found
    once_of [] is = tt
    once_of (f ∷ fs) is = (
      (not_extra f fs (nil_left (lines_if_extra name planned f fs) (extra_lines name planned fs) is)).1,
      once_of fs (nil_right (lines_if_extra name planned f fs) (extra_lines name planned fs) is),
    )

    ranges_of : (found : List EntryValue) → extra_lines name planned found ≡ [] → (f : EntryValue) → IsAmong f found → has_range planned f ≡ true
    ranges_of [] is f among = absurd among
    ranges_of (g ∷ gs) is f (inl same) =
        subst (λ x. has_range planned x ≡ true) same (not_extra g gs (nil_left (lines_if_extra name planned g gs) (extra_lines name planned gs) is)).0
    ranges_of (g ∷ gs) is f (inr among) = ranges_of gs (nil_right (lines_if_extra name planned g gs) (extra_lines name planned gs) is) f among

    none_extra : (found : List EntryValue) → AreOnce found → ((f : EntryValue) → IsAmong f found → has_range planned f ≡ true) → extra_lines name planned found ≡ []
    none_extra [] once each = refl
    none_extra (f ∷ fs) once each =
        let holds : (has_range planned f && not (has_range fs f)) ≡ true = both (has_range planned f) (not (has_range fs f)) (each f (inl refl)) (ap not once.0) in
        ap (λ (b : Bool). (if b then [] else extra_line name f ∷ []) ++ extra_lines name planned fs) holds
        ∙ none_extra fs once.1 (λ x among. each x (inr among))

    pub as_planned : (found : List EntryValue) → unlike_lines name planned found ≡ [] → AreAsPlanned planned found
    as_planned found is =
        let told = flat_map (planned_lines name found) planned in
        let extra = extra_lines name planned found in
        let no_extra : extra ≡ [] = nil_right told extra is in
        let once = once_of found no_extra in
        let all : (e : EntryValue) → IsAmong e planned → (f : EntryValue) × IsAmong f found × IsLike e f =
        λ e among. planned_nil found e (flat_nil (planned_lines name found) planned (nil_left told extra is) e among) in
        record {
          all = all;
          only = λ f among.
              let range = any_is (same_range f) planned (ranges_of found no_extra f among) in
              let e = range.0 in
              let like = all e range.1 in
              let same : like.0 ≡ f =
              same_one found like.0 f once like.1 among (sym (first_is f e range.2 ∙ like.2.first)) (sym (size_is f e range.2 ∙ like.2.size)) in
              (e, range.1, subst (λ x. IsLike e x) same like.2);
          once = once;
        }

    pub no_lines : (found : List EntryValue) → AreAsPlanned planned found → unlike_lines name planned found ≡ []
    no_lines found are =
        let ranges : (f : EntryValue) → IsAmong f found → has_range planned f ≡ true =
        λ f among. (let e = are.only f among in any_of (same_range f) planned e.0 e.1 (range_of f e.0 (sym e.2.first) (sym e.2.size))) in
        ap (λ ls. ls ++ extra_lines name planned found)
        (flat_none (planned_lines name found) planned (λ e among. let f = are.all e among in planned_none found e f.0 are.once f.1 f.2))
        ∙ none_extra found are.once ranges

pub matches : MatchesWhereAsPlanned
matches name planned found = (as_planned name planned found, no_lines name planned found)
