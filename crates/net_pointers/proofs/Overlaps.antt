-- Ranges that don't ascend apart, as they are looked for.
use Rattle.std.{proofs.Common.{◌≡◌, ◌≢◌, ◌≤◌, ◌<◌, ◌+◌, ◌-◌, ◌==◌, ℕ, zero, suc, List, [], ◌∷◌, Bool, true, false, true≢false, nat_le, codes, length, get_or, Option, Some, None, refl, sym, ap, ◌∙◌, subst, arith, inl, inr}, specs.Prelude.{IfSome, option_and_then}, proofs.lemmas.Bool.{leb-true}, proofs.lemmas.Bool.Decides.{Decides-eqb}, proofs.lemmas.Option.{none-some, same_Some, option_and_then_some}}
use Rattle.serde_json.{specs.Data.{Data, array, Items, no_items, item}, specs.Find.{get, at, get_item}}
use Rattle.net_plan.{specs.Finding.{key, index}, specs.Trees.{Tree, view, items_view}, proofs.Telling.{both}}
use Rattle.net_pointers.{specs.Ascending.{AreFirst, DoOverlap, IsBefore, IsFirst, OverlapIn, OverlapOf, OverlapAmong, first_in, end_in, ranges_ascend, list_ascends}, specs.Pointers.{value_at}, specs.declared.ranges.Overlap.{Overlap}}

pub get_item_of_view : (vs : List Tree) (i : ℕ) (d : Tree) → i < length vs → get_item i (items_view vs) ≡ Some (view (get_or vs i d))
get_item_of_view [] i d within = absurd (omega arith)
get_item_of_view (v ∷ vs) zero d within = refl
get_item_of_view (v ∷ vs) (suc i) d within = get_item_of_view vs i d (omega arith)

-- ---- ranges that ascend don't overlap

apart : (ds : Items) (end r : ℕ) → ranges_ascend end ds ≡ true → OverlapIn (array ds) r → ⊥
apart no_items end r up (before, after, one, next, over) = none-some before one
apart (item d no_items) end zero up (before, after, one, next, over) = none-some after next
apart (item d (item e ds)) end zero up (before, after, one, next, over) =
    let up_to : end_in d ≤ first_in e = leb-true (end_in d) (first_in e) (both (nat_le (end_in d) (first_in e)) (ranges_ascend (end_in e) ds) (both (nat_le end (first_in d)) (ranges_ascend (end_in d) (item e ds)) up).1).0 in
    let last : end_in d ≡ end_in before = ap end_in (same_Some d before one) in
    let first : first_in e ≡ first_in after = ap first_in (same_Some e after next) in
    omega (arith, up_to, last, first, over)
apart (item d ds) end (suc r) up (before, after, one, next, over) =
    let more : suc r + 1 ≡ suc (r + 1) = omega arith in
    apart ds (end_in d) r (both _ _ up).1 (before, after, one, ap (λ (n : ℕ). get_item n (item d ds)) (sym more) ∙ next, over)

list_apart : (list : Data) (r : ℕ) → list_ascends (Some list) ≡ true → OverlapIn list r → ⊥
list_apart (array ds) r up over = apart ds 0 r up over
list_apart list r up over = none-some over.0 over.2

entry_apart : (d : Data) (r : ℕ) → list_ascends (get (codes "ranges") d) ≡ true → OverlapOf d r → ⊥
entry_apart d r up (list, is, over) = list_apart list r (ap list_ascends (sym is) ∙ up) over

-- ---- the first ones of a list

-- none of the ranges before one overlaps the next
abbrev pub NoneBefore : List Tree → ℕ → Type 0
NoneBefore vs n = (r : ℕ) → r + 1 < n → OverlapIn (array (items_view vs)) r → ⊥

pub none_more : (vs : List Tree) (i end first : ℕ) (x : Tree) → i < length vs → x ≡ get_or vs i x → ((j : ℕ) (d : Tree) → i ≡ j + 1 → end ≡ end_in (view (get_or vs j d))) → first ≡ first_in (view x) → end ≤ first
    → NoneBefore vs i → NoneBefore vs (i + 1)
none_more vs i end first x within is last this up before r below (a, b, one, next, over) = by (r + 1 == i) refl
  where
    by : (y : Bool) → (r + 1 == i) ≡ y → ⊥
    by true e =
        let here : i ≡ r + 1 = sym ((Decides-eqb (r + 1) i).0 e) in
        let one_is : view (get_or vs r x) ≡ a = same_Some _ _ (sym (get_item_of_view vs r x (omega (arith, here))) ∙ one) in
        let next_is : view (get_or vs (r + 1) x) ≡ b = same_Some _ _ (sym (get_item_of_view vs (r + 1) x (omega (arith, here))) ∙ next) in
        let there : x ≡ get_or vs (r + 1) x = is ∙ ap (λ (n : ℕ). get_or vs n x) here in
        let ends : end ≡ end_in a = last r x here ∙ ap end_in one_is in
        let begins : first ≡ first_in b = this ∙ (ap (λ (v : Tree). first_in (view v)) there ∙ ap first_in next_is) in
        omega (arith, ends, begins)
    by false e =
        let other : r + 1 ≢ i = λ same. true≢false (sym ((Decides-eqb (r + 1) i).1 same) ∙ e) in
        before r (omega arith) (a, b, one, next, over)

-- the range at i begins before the one before it has ended
overlap_here : (vs : List Tree) (i end : ℕ) (x : Tree) → i < length vs → x ≡ get_or vs i x → (i ≡ 0 → end ≡ 0) → ((j : ℕ) (d : Tree) → i ≡ j + 1 → end ≡ end_in (view (get_or vs j d))) → first_in (view x) < end
    → OverlapIn (array (items_view vs)) (i - 1)
overlap_here vs zero end x within is none before below =
    let e : end ≡ 0 = none refl in
    absurd (omega arith)
overlap_here vs (suc j) end x within is none before below =
    let one : suc j ≡ j + 1 = omega arith in
    let back : j ≡ suc j - 1 = omega arith in
    subst (OverlapIn (array (items_view vs))) back (view (get_or vs j x), view x, get_item_of_view vs j x (omega arith), ap (λ n. get_item n (items_view vs)) (sym one) ∙ get_item_of_view vs (suc j) x within ∙ ap (λ v. Some (view v)) (sym is), subst (λ n. first_in (view x) < n) (before j x one) below)

pub first_here : (vs : List Tree) (i end : ℕ) (x : Tree) → i < length vs → x ≡ get_or vs i x → (i ≡ 0 → end ≡ 0) → ((j : ℕ) (d : Tree) → i ≡ j + 1 → end ≡ end_in (view (get_or vs j d))) → NoneBefore vs i → first_in (view x) < end
    → IsFirst (OverlapIn (array (items_view vs))) (i - 1)
first_here vs i end x within is none last before below = (overlap_here vs i end x within is none last below, λ r less over. before r (omega arith) over)

pub first_of_entry : (d list : Data) (found : Option ℕ) → get (codes "ranges") d ≡ Some list → IfSome found (IsFirst (OverlapIn list)) → IfSome found (IsFirst (OverlapOf d))
first_of_entry d list None is h = tt
first_of_entry d list (Some r) is h =
    ((list, is, h.0), λ i below over. h.1 i below (subst (λ v. OverlapIn v i) (same_Some _ _ (sym over.1 ∙ is)) over.2))

-- ---- the first ones of the entries

-- none of the entries before one has such
abbrev pub NoneAmong : List Tree → ℕ → Type 0
NoneAmong vs n = (o : Overlap) → o.entry < n → OverlapAmong (items_view vs) o → ⊥

entry_at : (vs : List Tree) (i : ℕ) (x : Tree) → i < length vs → x ≡ get_or vs i x → get_item i (items_view vs) ≡ Some (view x)
entry_at vs i x within is = get_item_of_view vs i x within ∙ ap (λ v. Some (view v)) (sym is)

overlaps_of : (vs : List Tree) (i : ℕ) (x : Tree) (o : Overlap) → i < length vs → x ≡ get_or vs i x → o.entry ≡ i → OverlapAmong (items_view vs) o → OverlapOf (view x) o.range
overlaps_of vs i x o within is same (d, there, over) =
    subst (λ v. OverlapOf v o.range) (same_Some _ _ (sym there ∙ (ap (λ (n : ℕ). get_item n (items_view vs)) same ∙ entry_at vs i x within is))) over

pub among_more : (vs : List Tree) (i : ℕ) (x : Tree) → i < length vs → x ≡ get_or vs i x → list_ascends (get (codes "ranges") (view x)) ≡ true → NoneAmong vs i → NoneAmong vs (i + 1)
among_more vs i x within is up before o below over = by (o.entry == i) refl
  where
    by : (y : Bool) → (o.entry == i) ≡ y → ⊥
    by true e = entry_apart (view x) o.range up (overlaps_of vs i x o within is ((Decides-eqb o.entry i).0 e) over)
    by false e =
        let other : o.entry ≢ i = λ same. true≢false (sym ((Decides-eqb o.entry i).1 same) ∙ e) in
        before o (omega arith) over

pub first_among : (vs : List Tree) (i r : ℕ) (x : Tree) (o : Overlap) → o.entry ≡ i → o.range ≡ r → i < length vs → x ≡ get_or vs i x → NoneAmong vs i → IsFirst (OverlapOf (view x)) r → AreFirst (OverlapAmong (items_view vs)) o
first_among vs i r x o entry range within is before first =
    ((view x, ap (λ (n : ℕ). get_item n (items_view vs)) entry ∙ entry_at vs i x within is, subst (OverlapOf (view x)) (sym range) first.0), none)
  where
    none : (p : Overlap) → IsBefore p o → OverlapAmong (items_view vs) p → ⊥
    none p (inl less) over = before p (omega arith) over
    none p (inr (same, less)) over = first.1 p.range (omega arith) (overlaps_of vs i x p within is (same ∙ entry) over)

-- ---- the first ones of a certificate

shown : (o : Option Data) (y : Data) → option_and_then (value_at []) o ≡ Some y → o ≡ Some y
shown None y e = absurd (none-some y e)
shown (Some x) y e = e

module _ (d : Data) (ds : Items) (stands : get (codes "ranks") d ≡ Some (array ds)) where
  abbrev To : ℕ → Data → Option Data
  To r v = value_at (index r ∷ []) v

  abbrev Of : ℕ → Data → Option Data
  Of r v = value_at (key (codes "ranges") ∷ index r ∷ []) v

  begins : (n r : ℕ) → value_at (key (codes "ranks") ∷ index n ∷ key (codes "ranges") ∷ index r ∷ []) d ≡ option_and_then (Of r) (get_item n ds)
  begins n r = ap (λ s. option_and_then (value_at (index n ∷ key (codes "ranges") ∷ index r ∷ [])) s) stands

  leads : (n r : ℕ) (entry list : Data) → get_item n ds ≡ Some entry → get (codes "ranges") entry ≡ Some list
      → value_at (key (codes "ranks") ∷ index n ∷ key (codes "ranges") ∷ index r ∷ []) d ≡ option_and_then (value_at []) (at r list)
  leads n r entry list there of = begins n r ∙ (ap (λ s. option_and_then (Of r) s) there ∙ ap (λ s. option_and_then (To r) s) of)

  do_overlap : (o : Overlap) → OverlapAmong ds o → DoOverlap d o
  do_overlap o (entry, there, (list, of, (before, after, one, next, over))) = record {
    before = before;
    after = after;
    one = leads o.entry o.range entry list there of ∙ ap (λ s. option_and_then (value_at []) s) one;
    next = leads o.entry (o.range + 1) entry list there of ∙ ap (λ s. option_and_then (value_at []) s) next;
    overlap = over;
  }

  among : (o : Overlap) → DoOverlap d o → OverlapAmong ds o
  among o h =
      option_and_then_some (Of o.range) (get_item o.entry ds) h.before (sym (begins o.entry o.range) ∙ h.one) (λ entry there more.
      option_and_then_some (To o.range) (get (codes "ranges") entry) h.before more (λ list of last.
      (entry, there, (list, of, (h.before, h.after, shown _ _ last, shown _ _ (sym (leads o.entry (o.range + 1) entry list there of) ∙ h.next), h.overlap)))))

pub first_of_ranks : (d list : Data) (found : Option Overlap) → get (codes "ranks") d ≡ Some list → IfSome found (λ o. (ds : Items) × (list ≡ array ds) × AreFirst (OverlapAmong ds) o)
    → IfSome found (AreFirst (DoOverlap d))
first_of_ranks d list None at h = tt
first_of_ranks d list (Some o) at (ds, is, (over, before)) =
    let stands = at ∙ ap Some is in
    (do_overlap d ds stands o over, λ p less h. before p less (among d ds stands p h))
