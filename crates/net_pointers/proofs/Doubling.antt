-- Names and keys that stand twice, as they are looked for.
use Rattle.std.{proofs.Common.{◌≡◌, ◌≢◌, ◌<◌, ◌+◌, false, subst, ℕ, zero, suc, List, [], ◌∷◌, ◌++◌, map, length, take, get_or, Bool, true, not, Option, Some, None, option_map, is_some, cond, if◌then◌else◌, ◌⊎◌, inl, inr, ◌==◌, option_and_then, Bor, refl, sym, ap, ◌∙◌, append-nil, append_assoc, arith, true≢false, AllPairs}, proofs.lemmas.List.{get_or_default, length-map, length-take-le, take-map}, proofs.lemmas.Bool.{not-true}, proofs.lemmas.Bool.Decides.{Decides-eqb}, proofs.lemmas.Option.{same_Some}, proofs.lemmas.Slice.Eq.{bytes_eq-Decides}, specs.Option.{option_or}, specs.Str.{bytes_eq}}
use Rattle.json.{specs.Json.{Json, array, object, Items, no_items, item, Members, no_members, member}, specs.Strict.{keys}, specs.Value.{value_view, items_view, members_view}}
use Rattle.net_plan.{specs.Json.{is_among}, specs.Names.{are_new, names_differ, index_of}, specs.SingleKeys.{single, items_single, members_single}, specs.Trees.{Tree}, proofs.Differing.{differ_sound}, proofs.Names.{one_new, names_take, noted_now, index_of-take, index_of-among, index_within}, proofs.Telling.{both}}
use Rattle.net_pointers.{specs.Doubles.{IsFirstDoubled, item_at, member_at, part_after, part_at, HasDoubledKey, IsBefore, NoneBefore, IsFirstDoubledKey}, specs.declared.doubled.DoubledKey.{DoubledKey}, specs.declared.doubled.TwoIndices.{TwoIndices}}

pub text_at_place : (names : List (Bor (List ℕ))) (i : ℕ) (d : Bor (List ℕ)) → i < length names → get_or (map (λ name. name.now) names) i [] ≡ (get_or names i d).now
text_at_place [] i d within = absurd (omega arith)
text_at_place (n ∷ ns) zero d within = refl
text_at_place (n ∷ ns) (suc i) d within = text_at_place ns i d (omega arith)

pub item_of_view : (vs : List Tree) (i : ℕ) (d : Tree) → i < length vs → item_at i (items_view vs) ≡ Some (value_view (get_or vs i d))
item_of_view [] i d within = absurd (omega arith)
item_of_view (v ∷ vs) zero d within = refl
item_of_view (v ∷ vs) (suc i) d within = item_of_view vs i d (omega arith)

pub member_of_view : (ms : List (Bor (List ℕ) × Tree)) (i : ℕ) (d : Bor (List ℕ) × Tree) → i < length ms → member_at i (members_view ms) ≡ Some (value_view (get_or ms i d).1)
member_of_view [] i d within = absurd (omega arith)
member_of_view (m ∷ ms) zero d within = refl
member_of_view (m ∷ ms) (suc i) d within = member_of_view ms i d (omega arith)

new_push : (seen ns : List (List ℕ)) (n : List ℕ) → are_new seen ns ≡ true → is_among (seen ++ ns) n ≡ false → are_new seen (ns ++ n ∷ []) ≡ true
new_push seen [] n e h = one_new seen n [] (ap (λ ms. is_among ms n) (sym (append-nil seen)) ∙ h)
new_push seen (m ∷ ns) n e h =
    let p = both (not (is_among seen m)) (are_new (seen ++ m ∷ []) ns) e in
    one_new seen m (ns ++ n ∷ []) (not-true (is_among seen m) p.0) ∙ new_push (seen ++ m ∷ []) ns n p.1 (ap (λ ms. is_among ms n) (append_assoc seen (m ∷ []) ns) ∙ h)

-- one more name that is not among them
pub differ_push : (ns : List (List ℕ)) (n : List ℕ) → names_differ ns ≡ true → is_among ns n ≡ false → names_differ (ns ++ n ∷ []) ≡ true
differ_push ns n e h = new_push [] ns n e h

-- a list with a name twice
pub not_differing : (names : List (List ℕ)) (i j : ℕ) → i < j → j < length names → get_or names i [] ≡ get_or names j [] → names_differ names ≡ false
not_differing names i j below within same = by (names_differ names) refl
  where
    by : (b : Bool) → names_differ names ≡ b → names_differ names ≡ false
    by false e = e
    by true e = absurd (differ_sound names e i j [] below within same)

-- ---- a name that stands twice

abbrev Texts : Type 0
Texts = List (Bor (List ℕ))

abbrev texts : Texts → List (List ℕ)
texts names = map (λ name. name.now) names

texts_taken : (names : Texts) (j : ℕ) → texts (take j names) ≡ take j (texts names)
texts_taken names j = sym (take-map (λ (n : Bor (List ℕ)). n.now) j names)

taken_at : (ns : List (List ℕ)) (i j : ℕ) → i < j → get_or (take j ns) i [] ≡ get_or ns i []
taken_at ns i zero below = absurd (omega arith)
taken_at (n ∷ ns) (suc i) (suc j) below = taken_at ns i j (omega arith)
taken_at ns i (suc j) below = refl

-- the name at j stands at i too, and no name before it stands twice
pub found_twice : (names : Texts) (i j : ℕ) (d : Bor (List ℕ)) → j < length names → i < length (take j names) → get_or (texts (take j names)) i [] ≡ (get_or names j d).now → names_differ (texts (take j names)) ≡ true
    → IsFirstDoubled (texts names) (record { first = i; second = j })
found_twice names i j d within before same single =
    let few : length (take j names) ≡ j = length-take-le j names (omega arith) in
    let count : length (texts names) ≡ length names = length-map names (λ (n : Bor (List ℕ)). n.now) in
    let below : i < j = omega arith in
    record {
      ascends = below;
      within = omega arith;
      same = sym (taken_at (texts names) i j below) ∙ ap (λ ns. get_or ns i []) (sym (texts_taken names j)) ∙ same ∙ sym (text_at_place names j d within);
      before = subst (AllPairs (λ a b. a ≢ b)) (texts_taken names j) (differ_sound (texts (take j names)) single);
    }

-- what was noted of the names before j
abbrev pub AreNoted : Texts → ℕ → (List ℕ → Option ℕ) → Type 0
AreNoted names j find = (q : List ℕ) → find q ≡ index_of (texts (take j names)) q

-- a name stands at its index
index_there : (ns : List (List ℕ)) (q : List ℕ) (n : ℕ) → index_of ns q ≡ Some n → get_or ns n [] ≡ q
index_there [] q n e = absurd (cc)
index_there (m ∷ ns) q n e = by (bytes_eq q m) refl (index_of ns q) refl e (index_there ns q)
  where
    by : (b : Bool) → bytes_eq q m ≡ b → (o : Option ℕ) → index_of ns q ≡ o → cond b (Some 0) (option_map suc o) ≡ Some n → ((k : ℕ) → index_of ns q ≡ Some k → get_or ns k [] ≡ q) → get_or (m ∷ ns) n [] ≡ q
    by true same o is e rest = ap (λ k. get_or (m ∷ ns) k []) (sym (same_Some 0 n e)) ∙ sym ((bytes_eq-Decides q m).0 same)
    by false other None is e rest = absurd (cc)
    by false other (Some k) is e rest = ap (λ i. get_or (m ∷ ns) i []) (sym (same_Some (suc k) n e)) ∙ rest k is

-- the name at j was noted
pub noted_twice : (names : Texts) (i j : ℕ) (d : Bor (List ℕ)) (find : List ℕ → Option ℕ) → j < length names → AreNoted names j find → Some i ≡ find (get_or names j d).now → names_differ (texts (take j names)) ≡ true
    → IsFirstDoubled (texts names) (record { first = i; second = j })
noted_twice names i j d find within noted had single =
    let q = (get_or names j d).now in
    let at : index_of (texts (take j names)) q ≡ Some i = sym (had ∙ noted q) in
    let before : i < length (take j names) = omega (arith, index_within (texts (take j names)) q i at, length-map (take j names) (λ (n : Bor (List ℕ)). n.now)) in
    found_twice names i j d within before (index_there (texts (take j names)) q i at) single

-- the name at j was not noted, and now it is
pub noted_once : (names : Texts) (j : ℕ) (d : Bor (List ℕ)) (find after : List ℕ → Option ℕ) → j < length names → AreNoted names j find → find (get_or names j d).now ≡ None
    → ((q : List ℕ) → after q ≡ cond (bytes_eq (get_or names j d).now q) (Some j) (find q)) → names_differ (texts (take j names)) ≡ true
    → (names_differ (texts (take (j + 1) names)) ≡ true) × AreNoted names (j + 1) after
noted_once names j d find after within noted none updates single =
    let x = get_or names j d in
    let at = get_or_default names j d x within in
    let new : is_some (find x.now) ≡ false = ap is_some none in
    let among : is_among (texts (take j names)) x.now ≡ false = sym (index_of-among (texts (take j names)) x.now) ∙ ap is_some (sym (noted x.now)) ∙ new in (
      ap names_differ (names_take (λ (n : Bor (List ℕ)). n.now) names j x within at) ∙ differ_push (texts (take j names)) x.now single among,
      λ q. noted_now find after x.now j q new (updates q) ∙ ap (λ (o : Option ℕ). option_or o (if bytes_eq q x.now then Some j else None)) (noted q)
          ∙ sym (index_of-take (λ (n : Bor (List ℕ)). n.now) names j x q within at),
    )

-- a list with such a name
pub first_differs : (names : List (List ℕ)) (p : TwoIndices) → IsFirstDoubled names p → names_differ names ≡ false
first_differs names p h = not_differing names p.first p.second h.ascends h.within h.same

-- ---- a key that stands twice

part_doubled : (j part : Json) (i : ℕ) (inner outer : DoubledKey) → part_after i j ≡ Some part → HasDoubledKey part inner → outer.path.items ≡ i ∷ inner.path.items → outer.members ≡ inner.members → HasDoubledKey j outer
part_doubled j part i inner outer at h path members =
    (h.0, ap (λ p. part_at p j) path ∙ ap (option_and_then (part_at inner.path.items)) at ∙ h.1, subst (IsFirstDoubled (keys h.0)) (sym members) h.2)

-- ---- the first of several

pub none_before_whole : (j : Json) → NoneBefore j []
none_before_whole j [] ms before is = absurd before
none_before_whole j (i ∷ q) ms before is = absurd before

item_single : (js : Items) (i : ℕ) (k : Json) → items_single js ≡ true → item_at i js ≡ Some k → single k ≡ true
item_single no_items i k e is = cc
item_single (item j js) zero k e is =
    let same : j ≡ k = cc in
    subst (λ (x : Json). single x ≡ true) same (both (single j) (items_single js) e).0
item_single (item j js) (suc i) k e is = item_single js i k (both (single j) (items_single js) e).1 is

member_single : (ms : Members) (i : ℕ) (k : Json) → members_single ms ≡ true → member_at i ms ≡ Some k → single k ≡ true
member_single no_members i k e is = cc
member_single (member s j ms) zero k e is =
    let same : j ≡ k = cc in
    subst (λ (x : Json). single x ≡ true) same (both (single j) (members_single ms) e).0
member_single (member s j ms) (suc i) k e is = member_single ms i k (both (single j) (members_single ms) e).1 is

after_single : (i : ℕ) (j k : Json) → single j ≡ true → part_after i j ≡ Some k → single k ≡ true
after_single i (array js) k e is = item_single js i k e is
after_single i (object ms) k e is = member_single ms i k (both (names_differ (keys ms)) (members_single ms) e).1 is
after_single i j k e is = cc

part_of : (o : Option Json) (q : List ℕ) (ms : Members) → ((k : Json) → o ≡ Some k → part_at q k ≡ Some (object ms) → names_differ (keys ms) ≡ true)
    → option_and_then (part_at q) o ≡ Some (object ms) → names_differ (keys ms) ≡ true
part_of None q ms h is = cc
part_of (Some k) q ms h is = h k refl is

-- where no key stands twice each object has its keys once
pub single_parts : (q : List ℕ) (j : Json) (ms : Members) → single j ≡ true → part_at q j ≡ Some (object ms) → names_differ (keys ms) ≡ true
single_parts [] j ms e is =
    let same : j ≡ object ms = cc in
    (both (names_differ (keys ms)) (members_single ms) (subst (λ (x : Json). single x ≡ true) same e)).0
single_parts (i ∷ q) j ms e is = part_of (part_after i j) q ms (λ k found below. single_parts q k ms (after_single i j k e found) below) is

-- none before a part of one that has its own keys once, where no key stands twice in the parts before
none_before_part : (j part : Json) (i : ℕ) (path : List ℕ) → part_after i j ≡ Some part → NoneBefore part path
    → ((ms : Members) → j ≡ object ms → names_differ (keys ms) ≡ true)
    → ((k : ℕ) (e : Json) → k < i → part_after k j ≡ Some e → single e ≡ true) → NoneBefore j (i ∷ path)
none_before_part j part i path at inner own passed [] ms before is = own ms cc
none_before_part j part i path at inner own passed (k ∷ q) ms before is = part_of (part_after k j) q ms (λ e found below. by before e found below) is
  where
    by : (k < i) ⊎ ((k ≡ i) × IsBefore q path) → (e : Json) → part_after k j ≡ Some e → part_at q e ≡ Some (object ms) → names_differ (keys ms) ≡ true
    by (inl less) e found below = single_parts q e ms (passed k e less found) below
    by (inr h) e found below =
        let there : part_after k j ≡ part_after i j = ap (λ n. part_after n j) h.0 in
        let same : e ≡ part = cc in
        inner q ms h.1 (subst (λ (x : Json). part_at q x ≡ Some (object ms)) same below)

-- no key stands twice in the parts that were passed
abbrev pub Passed : Json → ℕ → Type 0
Passed j n = (k : ℕ) (e : Json) → k < n → part_after k j ≡ Some e → single e ≡ true

pub passed_more : (j part : Json) (n : ℕ) → part_after n j ≡ Some part → Passed j n → single part ≡ true → Passed j (n + 1)
passed_more j part n seen before here k e below found = by (k == n) refl
  where
    by : (b : Bool) → (k == n) ≡ b → single e ≡ true
    by true is =
        let there : part_after k j ≡ part_after n j = ap (λ i. part_after i j) ((Decides-eqb k n).0 is) in
        let same : part ≡ e = cc in
        subst (λ (x : Json). single x ≡ true) same here
    by false is =
        let other : k ≢ n = λ same. true≢false (sym ((Decides-eqb k n).1 same) ∙ is) in
        before k e (omega arith) found

pub part_first : (j part : Json) (i : ℕ) (inner outer : DoubledKey) → part_after i j ≡ Some part → IsFirstDoubledKey part inner → outer.path.items ≡ i ∷ inner.path.items → outer.members ≡ inner.members
    → ((ms : Members) → j ≡ object ms → names_differ (keys ms) ≡ true) → Passed j i → IsFirstDoubledKey j outer
part_first j part i inner outer at h path members own passed =
    (part_doubled j part i inner outer at h.0 path members, subst (NoneBefore j) (sym path) (none_before_part j part i inner.path.items at h.1 own passed))

pub no_object : (js : Items) (ms : Members) → array js ≡ object ms → names_differ (keys ms) ≡ true
no_object js ms same = cc

pub keys_once : (ms os : Members) → names_differ (keys ms) ≡ true → object ms ≡ object os → names_differ (keys os) ≡ true
keys_once ms os differ same =
    let is : ms ≡ os = cc in
    subst (λ (x : Members). names_differ (keys x) ≡ true) is differ
