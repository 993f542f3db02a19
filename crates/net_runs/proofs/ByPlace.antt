-- Records in their order by place: each stands at its place, once, and is followed by the one that it names.
use Rattle.std.{proofs.Common.{◌≡◌, ◌≢◌, ◌⊎◌, ℕ, zero, suc, ◌+◌, ◌<◌, ◌≤◌, true, false, nat_eq, eqb, List, [], ◌∷◌, length, take, slice_get, get_or, position, Option, Some, None, sym, refl, ap, ◌∙◌, subst, inl, inr, arith}, specs.Prelude.{option_map, AllPairs}, specs.List.{AllByRecursion, IsDistinct, list_any, filter_map, range_with_len}, proofs.lemmas.Bool.{cases_lt, cases_order, true≢false, eqb-true, eq-eqb}, proofs.lemmas.Bool.Decides.{eqb_tells}, proofs.lemmas.Option.{same_Some, none-some, slice_get_within, slice_get_past, slice_get-map, slice_get_cases, get_or_from_slice_get}, proofs.lemmas.List.{length-take-le, length-map}, proofs.lemmas.List.Quantifiers.{position-Some}, proofs.lemmas.Map.Steps.{length-le_from_distinct_below}}
use Rattle.mctp_transport.proofs.Slots.{position-none, position-some}
use Rattle.plan_values.{specs.declared.plan.Plan.{Plan}, specs.declared.certificate.Certificate.{Certificate}, specs.declared.terminus.PlannedRecord.{PlannedRecord}}
use Rattle.pdr_repository.{specs.Records.{Entry, IsRecordOf, IsLawful, Means, handle_at, handle_of, handle_in}, specs.Walks.{Exchange, Collects, NamesTheNext}, proofs.Walks.{every_walk_collects}}
use Rattle.net_tables.{specs.Repositories.{records_of, places_of, entry_of, record_at, by_place, records_by_place, HaveOrder, RecordsHaveOrder}, proofs.RowSearches.{is_or_not}}
use Rattle.net_runs.specs.Headline.{NamesPlannedNext, WalksCollectEach}

-- no two places of a list have one number
abbrev AreApart : List ℕ → Type 0
AreApart ps = (i j x : ℕ) → i < j → slice_get ps i ≡ Some x → slice_get ps j ≢ Some x

distinct_from : (ps : List ℕ) → AreApart ps → IsDistinct eqb ps
unfolding IsDistinct
distinct_from [] apart = tt
distinct_from (p ∷ ps) apart = (others ps (λ j. apart 0 (suc j) p (omega arith) refl), distinct_from ps (λ i j x less. apart (suc i) (suc j) x (omega arith)))
  where
    others : (qs : List ℕ) → ((j : ℕ) → slice_get qs j ≢ Some p) → AllByRecursion (λ q. eqb p q ≡ false) qs
    others [] none = tt
    others (q ∷ qs) none = (
      elim (eqb_tells p q) [ inl same ↦ absurd (none 0 (ap Some (sym same.1))) | inr other ↦ other.0 ],
      others qs (λ j. none (suc j)),
    )

member_at : (ps : List ℕ) (q : ℕ) → list_any (eqb q) ps ≡ true → (i : ℕ) × (slice_get ps i ≡ Some q)
member_at [] q e = absurd (cc)
member_at (p ∷ ps) q e = elim (eqb_tells q p) [
  | inl same ↦ (0, ap Some (sym same.1))
  | inr other ↦ let h = member_at ps q (rw other.0 at e) in (suc h.0, h.1)
]

take_get : (n : ℕ) (xs : List ℕ) (i x : ℕ) → slice_get (take n xs) i ≡ Some x → (i < n) × (slice_get xs i ≡ Some x)
take_get zero xs i x e = absurd (none-some x e)
take_get (suc n) [] i x e = absurd (none-some x e)
take_get (suc n) (y ∷ xs) zero x e = (omega arith, e)
take_get (suc n) (y ∷ xs) (suc i) x e = let h = take_get n xs i x e in (omega arith, h.1)

-- numbers below n, n of them and no two equal, leave none out
none_left_out : (n k : ℕ) (ps : List ℕ) → k < n → n ≤ length ps → ((i j x : ℕ) → i < j → j < n → slice_get ps i ≡ Some x → slice_get ps j ≢ Some x)
    → ((i x : ℕ) → i < n → slice_get ps i ≡ Some x → x < n) → ((i : ℕ) → i < n → slice_get ps i ≢ Some k) → ⊥
none_left_out n k ps small long apart below missing =
    let qs = take n ps in
    let apart_all : AreApart (k ∷ qs) = apart_at in
    let most = length-le_from_distinct_below (k ∷ qs) n (distinct_from (k ∷ qs) apart_all) below_all in
    absurd (omega (arith, most, length-take-le n ps long))
  where
    apart_at : AreApart (k ∷ take n ps)
    apart_at zero zero x less a b = omega arith
    apart_at zero (suc j) x less a b =
        let h = take_get n ps j x b in
        let same : k ≡ x = same_Some k x a in
        missing j h.0 (h.1 ∙ ap Some (sym same))
    apart_at (suc i) zero x less a b = omega arith
    apart_at (suc i) (suc j) x less a b =
        let h = take_get n ps i x a in
        let g = take_get n ps j x b in
        apart i j x (omega arith) g.0 h.1 g.1

    below_all : (q : ℕ) → list_any (eqb q) (k ∷ take n ps) ≡ true → q < n
    below_all q e = by (member_at (k ∷ take n ps) q e)
      where
        by : (i : ℕ) × (slice_get (k ∷ take n ps) i ≡ Some q) → q < n
        by (zero, a) = let same = same_Some k q a in omega arith
        by (suc i, a) = let h = take_get n ps i q a in below i q h.0 h.1

-- one of the first n has the number, or none has
one_below : (ps : List ℕ) (k n : ℕ) → ((j : ℕ) × (j < n) × (slice_get ps j ≡ Some k)) ⊎ ((j : ℕ) → j < n → slice_get ps j ≢ Some k)
one_below ps k zero = inr (λ j less. absurd (omega arith))
one_below ps k (suc n) = elim (one_below ps k n) [
  | inl (j, less, is) ↦ inl (j, omega arith, is)
  | inr none ↦ elim (is_or_not (slice_get ps n) k) [
    | inl is ↦ inl (n, omega arith, is)
    | inr not ↦ inr (λ j less is. elim (cases_lt j n) [
      | inl before ↦ none j before is
      | inr from ↦ let same : j ≡ n = omega arith in let P : ℕ → Type 0 = λ i. slice_get ps i ≡ Some k in not (subst P same is)
    ])
  ]
]

-- a list in which something stands at each place
module _ (h : ℕ → Option Entry) where
  all_given : (a n : ℕ) → ((k : ℕ) → a ≤ k → k < a + n → (e : Entry) × (h k ≡ Some e)) → (length (filter_map h (range_with_len a n)) ≡ n)
      × ((i : ℕ) → i < n → slice_get (filter_map h (range_with_len a n)) i ≡ h (a + i))
  all_given a zero some = (refl, λ i less. absurd (omega arith))
  all_given a (suc n) some =
      let here = some a (omega arith) (omega arith) in
      let rest = all_given (a + 1) n (λ k from less. some k (omega arith) (omega arith)) in
      let L : List Entry → Type 0 = λ xs. (length xs ≡ suc n) × ((i : ℕ) → i < suc n → slice_get xs i ≡ h (a + i)) in
      rw here.1 (ap suc rest.0, at here.0 here.1 rest.1)
    where
      at : (e : Entry) → h a ≡ Some e → ((i : ℕ) → i < n → slice_get (filter_map h (range_with_len (a + 1) n)) i ≡ h (a + 1 + i)) → (i : ℕ) → i < suc n
          → slice_get (e ∷ filter_map h (range_with_len (a + 1) n)) i ≡ h (a + i)
      at e is rest zero less = let same : a + 0 ≡ a = omega arith in sym (ap h same ∙ is)
      at e is rest (suc i) less = let same : a + 1 + i ≡ a + suc i = omega arith in rest i (omega arith) ∙ ap h same

-- the record of a place
pub record StandsAt (records : List PlannedRecord) (places : List ℕ) (place : ℕ) (e : Entry) : Type 0 where
  pub j : ℕ
  pub found : PlannedRecord
  pub listed : slice_get records j ≡ Some found
  pub given : slice_get places j ≡ Some place
  pub is : e ≡ entry_of found

module _ (records : List PlannedRecord) (places : List ℕ) (order : HaveOrder records places) where
  record_there : (j : ℕ) → j < length records → (r : PlannedRecord) × (slice_get records j ≡ Some r)
  record_there j within = elim (slice_get_cases records j).1 [ inl h ↦ (h.0, h.2) | inr h ↦ absurd (omega (arith, h.0)) ]

  -- two records have different places
  apart : (i j x : ℕ) → i < j → j < length records → slice_get places i ≡ Some x → slice_get places j ≢ Some x
  apart i j x less within a b =
      let r = record_there j within in
      let c = order.chained j r.0 r.1 in
      let same : c.place ≡ x = same_Some c.place x (sym c.given ∙ b) in
      c.new i less (a ∙ ap Some (sym same))

  one_place : (i j x : ℕ) → i < length records → j < length records → slice_get places i ≡ Some x → slice_get places j ≡ Some x → i ≡ j
  one_place i j x left right a b = elim (cases_order i j) [
    | inl same ↦ same
    | inr different ↦ elim different [ inl less ↦ absurd (apart i j x less right a b) | inr more ↦ absurd (apart j i x more left b a) ]
  ]

  places_long : length records ≤ length places
  places_long =
      let some = order.some in
      by (length records) refl some
    where
      by : (n : ℕ) → length records ≡ n → 0 < n → length records ≤ length places
      by zero is some = absurd (omega arith)
      by (suc n) is some =
          let r = record_there n (omega arith) in
          let c = order.chained n r.0 r.1 in
          let within = slice_get_within places n c.place c.given in
          omega arith

  below : (i x : ℕ) → i < length records → slice_get places i ≡ Some x → x < length records
  below i x within a =
      let r = record_there i within in
      let c = order.chained i r.0 r.1 in
      let same : c.place ≡ x = same_Some c.place x (sym c.given ∙ a) in
      let small = c.within in
      omega arith

  -- each place is some record's
  taken : (place : ℕ) → place < length records → (j : ℕ) × (j < length records) × (slice_get places j ≡ Some place)
  taken place small = elim (one_below places place (length records)) [
    | inl h ↦ h
    | inr none ↦ absurd (none_left_out (length records) place places small places_long apart below none)
  ]

  found_at : (place : ℕ) → place < length records → (r : PlannedRecord) × (j : ℕ) × (record_at records places place ≡ Some r) × (slice_get records j ≡ Some r) × (slice_get places j ≡ Some place)
  found_at place small = by (position (λ given. nat_eq given place) places) refl
    where
      t : (j : ℕ) × (j < length records) × (slice_get places j ≡ Some place)
      t = taken place small

      by : (found : Option ℕ) → position (λ given. nat_eq given place) places ≡ found
          → (r : PlannedRecord) × (j : ℕ) × (record_at records places place ≡ Some r) × (slice_get records j ≡ Some r) × (slice_get places j ≡ Some place)
      by None e = absurd (true≢false (sym (eq-eqb place place refl) ∙ position-none (λ given. nat_eq given place) places e t.0 place t.2))
      by (Some i) e =
          let there = position-some (λ given. nat_eq given place) places i e in
          let value : there.0 ≡ place = eqb-true there.0 place there.2 in
          let here : slice_get places i ≡ Some place = there.1 ∙ ap Some value in
          let first = position-Some (λ given. nat_eq given place) places i place e in
          let least : i ≤ t.0 = elim (cases_lt t.0 i) [
            | inl less ↦
                let get : get_or places t.0 place ≡ place = get_or_from_slice_get places t.0 place place t.2 in
                absurd (true≢false (sym (eq-eqb (get_or places t.0 place) place get) ∙ first.2 t.0 less))
            | inr more ↦ more
          ] in
          let small_i = t.1 in
          let r = record_there i (omega arith) in
          (r.0, i, rw e r.1, r.1, here)

  given_all : (length (by_place records places) ≡ length records) × ((i : ℕ) → i < length records → slice_get (by_place records places) i ≡ option_map entry_of (record_at records places i))
  given_all =
      let here : ℕ → Option Entry = λ place. option_map entry_of (record_at records places place) in
      let all = all_given here 0 (length records) (λ k from less. let f = found_at k (omega arith) in (entry_of f.0, ap (option_map entry_of) f.2)) in
      (all.0, λ i less. let same : 0 + i ≡ i = omega arith in all.1 i less ∙ ap here same)

  pub by_place_length : length (by_place records places) ≡ length records
  by_place_length = given_all.0

  -- what stands at a place is the record that is given it
  pub stands_at : (place : ℕ) (e : Entry) → slice_get (by_place records places) place ≡ Some e → StandsAt records places place e
  stands_at place e is =
      let within = slice_get_within (by_place records places) place e is in
      let f = found_at place (omega (arith, by_place_length)) in
      let same : entry_of f.0 ≡ e = same_Some (entry_of f.0) e (sym (given_all.1 place (omega (arith, by_place_length)) ∙ ap (option_map entry_of) f.2) ∙ is) in
      record { j = f.1; found = f.0; listed = f.3; given = f.4; is = sym same }

  -- the record that is given a place stands there
  pub placed : (j place : ℕ) (r : PlannedRecord) → slice_get records j ≡ Some r → slice_get places j ≡ Some place → slice_get (by_place records places) place ≡ Some (entry_of r)
  placed j place r listed given =
      let within = slice_get_within records j r listed in
      let small = below j place within given in
      let f = found_at place small in
      let other = slice_get_within records f.1 f.0 f.3 in
      let same : j ≡ f.1 = one_place j f.1 place within other given f.4 in
      let R : ℕ → Type 0 = λ i. slice_get records i ≡ Some r in
      let one : f.0 ≡ r = same_Some f.0 r (sym f.3 ∙ subst R same listed) in
      given_all.1 place small ∙ ap (option_map entry_of) f.2 ∙ ap (λ x. Some (entry_of x)) one

  -- two records have different handles
  one_handle : (i j : ℕ) (r s : PlannedRecord) → slice_get records i ≡ Some r → slice_get records j ≡ Some s → r.handle ≡ s.handle → i ≡ j
  one_handle i j r s a b same = elim (cases_order i j) [
    | inl e ↦ e
    | inr different ↦ elim different [
      | inl less ↦ absurd ((order.handles j s b).1 i r less a same)
      | inr more ↦ absurd ((order.handles i r a).1 j s more b (sym same))
    ]
  ]

  pub is_lawful : IsLawful (by_place records places)
  is_lawful = record {
    some = let some = order.some in omega (arith, by_place_length);
    distinct = λ i j e f a b same.
        let x = stands_at i e a in
        let y = stands_at j f b in
        let handles : x.found.handle ≡ y.found.handle = ap (λ (z : Entry). z.handle) (sym x.is) ∙ same ∙ ap (λ (z : Entry). z.handle) y.is in
        let one : x.j ≡ y.j = one_handle x.j y.j x.found y.found x.listed y.listed handles in
        let P : ℕ → Type 0 = λ k. slice_get places k ≡ Some i in
        same_Some i j (sym (subst P one x.given) ∙ y.given);
    handles = λ i e a.
        let x = stands_at i e a in
        λ none. (order.handles x.j x.found x.listed).0 (ap (λ (z : Entry). z.handle) (sym x.is) ∙ none);
    spelled = λ i e a.
        let x = stands_at i e a in
        let H : Entry → Type 0 = λ z. IsRecordOf z.handle z.bytes in
        subst H (sym x.is) (order.spelled x.j x.found x.listed);
  }

  -- the handle at the place after a record's is the next that the record names
  pub next_at : (place : ℕ) (e : Entry) (x : StandsAt records places place e) → handle_at (by_place records places) (place + 1) ≡ x.found.next
  next_at place e x =
      let c = order.chained x.j x.found x.listed in
      let here : c.place ≡ place = same_Some c.place place (sym c.given ∙ x.given) in
      elim c.next [
        | inl next ↦
            let P : ℕ → Type 0 = λ n. slice_get places next.0 ≡ Some (n + 1) in
            ap handle_of (placed next.0 (place + 1) next.1 next.2 (subst P here next.3)) ∙ sym next.4
        | inr last ↦
            let end = last.0 in
            ap handle_of (slice_get_past (by_place records places) (place + 1) (omega (arith, by_place_length))) ∙ sym last.1
      ]

-- a finished walk has collected each record
pub walks_collect_each : (plan : Plan) (cert : Certificate) → RecordsHaveOrder plan cert → WalksCollectEach plan cert
walks_collect_each plan cert ordered n count xs has least most walk finished =
    let order = ordered n has in
    let entries = records_by_place plan cert n in
    let promised = every_walk_collects entries count xs (is_lawful (records_of plan n) (places_of cert n) order) least most walk in
    let whole = promised.whole finished in
    let C : List ℕ → Type 0 = λ rest. Collects xs promised.collected rest in
    let A : List (List ℕ) → Type 0 = λ rs. AllPairs (λ a b. handle_in a ≢ handle_in b) rs in
    record {
      collected = promised.collected;
      collects = subst C whole.1 promised.collects;
      ordered = whole.0;
      as_many = ap length whole.0 ∙ length-map entries (λ e. e.bytes) ∙ by_place_length (records_of plan n) (places_of cert n) order;
      each = λ j place r listed given.
          ap (λ rs. slice_get rs place) whole.0 ∙ slice_get-map (λ (e : Entry). e.bytes) entries place
          ∙ ap (option_map (λ (e : Entry). e.bytes)) (placed (records_of plan n) (places_of cert n) order j place r listed given);
      handles = subst A (sym whole.0) promised.handles;
      nexts = λ i x is. named x (promised.nexts i x is);
    }
  where
    named : (x : Exchange) → NamesTheNext (records_by_place plan cert n) x → NamesPlannedNext plan cert n x
    named x (place, e, p, means, answer, next) =
        let order = ordered n has in
        let s = stands_at (records_of plan n) (places_of cert n) order place e means.stands in
        let M : Entry → Type 0 = Means (records_by_place plan cert n) x.request.handle place in
        record {
          place = place;
          asked = s.found;
          meant = subst M s.is means;
          j = s.j;
          planned = s.listed;
          part = p;
          answered = answer;
          next = next ∙ next_at (records_of plan n) (places_of cert n) order place e s;
        }
