-- The flights that are kept by number: what finds one, and what a push, a write and a sweep do to all of them.
use Rattle.std.{proofs.Common.{Bor, ◌≡◌, ◌≢◌, ℕ, zero, suc, ◌+◌, ◌<◌, ◌≤◌, true, false, Bool, cond, not, eqb, List, [], ◌∷◌, ◌++◌, length, map, get_or, All, Option, Some, None, option_map, option_and_then, is_some, is_none, refl, sym, ap, ◌∙◌, subst, inl, inr, arith}, specs.Prelude.{slice_set, ◌==◌, if◌then◌else◌, AllPairs, IfSome, option_copied}, specs.List.{range_with_len, filter, count_by, HoldsAt}, specs.List.Sorted.{IsSortedByKey, IsNonDecreasingBy, IsPartitionPoint}, specs.Int.{from_bool}, specs.Ordering.{nat_cmp, ordering_index, is_lt}, specs.declared.cmp.Ordering.TheVariants.{Less, Equal, Greater}, proofs.lemmas.Bool.{cases_lt, cases_eq, le-ltb, eq-eqb, ne_eqb}, proofs.lemmas.Bool.Decides.{eqb_tells}, proofs.lemmas.Cmp.{nat_cmp_total, ranked}, proofs.lemmas.List.{get_or_push, get_or-set_same, get_or-set_other, length-set, length_push}, proofs.lemmas.List.Elements.{All-head, All-tail, All-push, All-filter}, proofs.lemmas.List.FromFn.{length-map-range_with_len, get_or-map-range_with_len, map-range_with_len_more, fill_by_all}, proofs.lemmas.List.Kept.{AllPairs-filter}, proofs.lemmas.List.Quantifiers.{all_pairs_push}, proofs.lemmas.List.Sorted.{searchable_from_sorted}, proofs.lemmas.List.Sums.{sum_by-cons, sum_by_push, sum_by-set}, proofs.lemmas.Option.{slice_get-get_or, slice_get_past}}
use Rattle.net_sim.{specs.declared.flights.Flight.{Flight}, specs.declared.flights.Slot.{Slot}, specs.Flights.{flight_value, kept, flight_at}}
use Rattle.net_runs.specs.States as state

abbrev pub Ascend : List Slot → Type 0
Ascend slots = AllPairs (λ slot later. slot.number < later.number) slots

rest_ascend : (slot : Slot) (slots : List Slot) → Ascend (slot ∷ slots) → Ascend slots
rest_ascend slot slots up = λ i j d lt within. up (suc i) (suc j) d (omega arith) (omega arith)

first_below : (slot : Slot) (slots : List Slot) → Ascend (slot ∷ slots) → All (λ later. slot.number < later.number) slots
first_below slot slots up = λ k d within. up zero (suc k) d (omega arith) (omega arith)

-- a number that no slot has
pub kept_none : (slots : List Slot) (n : ℕ) → All (λ slot. slot.number ≢ n) slots → kept slots n ≡ None
kept_none [] n others = refl
kept_none (slot ∷ slots) n others =
    let other : eqb slot.number n ≡ false = ne_eqb slot.number n (All-head (λ (s : Slot). s.number ≢ n) slot slots others) in
    rw other (kept_none slots n (All-tail (λ (s : Slot). s.number ≢ n) slot slots others))

-- the number of a slot
pub kept_at : (slots : List Slot) (i n : ℕ) (d : Slot) → Ascend slots → i < length slots → (get_or slots i d).number ≡ n → kept slots n ≡ (get_or slots i d).flight
kept_at [] i n d up within is = absurd (omega arith)
kept_at (slot ∷ slots) zero n d up within is = rw (eq-eqb slot.number n is) refl
kept_at (slot ∷ slots) (suc i) n d up within is =
    let below = first_below slot slots up i d (omega arith) in
    let other : eqb slot.number n ≡ false = ne_eqb slot.number n (λ same. omega (arith, below, is, same)) in
    rw other (kept_at slots i n d (rest_ascend slot slots up) (omega arith) is)

-- what holds of each slot's flight, and of none, holds of what is kept
pub kept_all : (P : Option Flight → Type 0) (slots : List Slot) (n : ℕ) → P None → All (λ slot. P slot.flight) slots → P (kept slots n)
kept_all P [] n none all = none
kept_all P (slot ∷ slots) n none all = elim (eqb_tells slot.number n) [
  | inl same ↦ rw same.0 (All-head (λ (s : Slot). P s.flight) slot slots all)
  | inr other ↦ rw other.0 (kept_all P slots n none (All-tail (λ (s : Slot). P s.flight) slot slots all))
]

-- a push changes what is kept under no other number
pub push_keeps : (slots : List Slot) (new : Slot) (n : ℕ) → new.number ≢ n → kept (slots ++ new ∷ []) n ≡ kept slots n
push_keeps [] new n other = rw (ne_eqb new.number n other) refl
push_keeps (slot ∷ slots) new n other = ap (λ (o : Option Flight). if slot.number == n then slot.flight else o) (push_keeps slots new n other)

-- nor does a write
pub set_keeps : (slots : List Slot) (i : ℕ) (new d : Slot) (n : ℕ) → (get_or slots i d).number ≡ new.number → new.number ≢ n → kept (slice_set slots i new) n ≡ kept slots n
set_keeps [] i new d n is other = refl
set_keeps (slot ∷ slots) zero new d n is other =
    rw (ne_eqb new.number n other, ne_eqb slot.number n (λ same. other (sym is ∙ same))) refl
set_keeps (slot ∷ slots) (suc i) new d n is other = ap (λ (o : Option Flight). if slot.number == n then slot.flight else o) (set_keeps slots i new d n is other)

-- nor does a sweep, under any number
sweep_one : (slot : Slot) (slots : List Slot) (n : ℕ) → Ascend (slot ∷ slots) → kept (filter (λ s. is_some s.flight) slots) n ≡ kept slots n
    → (o : Option Flight) → slot.flight ≡ o → kept (filter (λ s. is_some s.flight) (slot ∷ slots)) n ≡ kept (slot ∷ slots) n
sweep_one slot slots n up rest None gone = elim (eqb_tells slot.number n) [
  | inl same ↦ rw (gone, same.0) (rest ∙ kept_none slots n (λ k d within. let below = first_below slot slots up k d within in λ at. omega (arith, below, at, same.1)))
  | inr other ↦ rw (gone, other.0) rest
]
sweep_one slot slots n up rest (Some f) there = rw there (ap (λ (o : Option Flight). if slot.number == n then Some f else o) rest)

sweep_keeps : (slots : List Slot) (n : ℕ) → Ascend slots → kept (filter (λ slot. is_some slot.flight) slots) n ≡ kept slots n
sweep_keeps [] n up = refl
sweep_keeps (slot ∷ slots) n up = sweep_one slot slots n up (sweep_keeps slots n (rest_ascend slot slots up)) slot.flight refl

-- what the flights mean, number by number
abbrev seen : List Slot → ℕ → Option state.Flight
seen slots n = option_map flight_value (kept slots n)

abbrev pub meant : List Slot → ℕ → List (Option state.Flight)
meant slots next = map (seen slots) (range_with_len 0 next)

abbrev pub HasEmpty : List Slot → ℕ → Type 0
HasEmpty slots count = count ≡ count_by (λ slot. is_none slot.flight) slots

abbrev pub AreGiven : List Slot → ℕ → Type 0
AreGiven slots next = All (λ slot. slot.number < next) slots

pub meant_length : (slots : List Slot) (next : ℕ) → next ≡ length (meant slots next)
meant_length slots next = sym (length-map-range_with_len (seen slots) 0 next)

-- two ways to see each number that agree below next
same_below : (f g : ℕ → Option state.Flight) (next : ℕ) → ((k : ℕ) → k < next → f k ≡ g k) → map f (range_with_len 0 next) ≡ map g (range_with_len 0 next)
same_below f g next same = fill_by_all g (map f (range_with_len 0 next)) next None (length-map-range_with_len f 0 next)
    (λ k within. get_or-map-range_with_len f 0 next k k None within (omega arith) ∙ same k within)

abbrev empty_one : Slot → ℕ
empty_one slot = cond (is_none slot.flight) 1 0

filled_none : (o : Option Flight) → o ≢ None → ◌≡◌ {A = ℕ} (cond (is_none o) 1 0) 0
filled_none None not = absurd (not refl)
filled_none (Some f) not = refl

module _ (slots : List Slot) (next : ℕ) (up : Ascend slots) (given : AreGiven slots next) where
  -- the flight of a number, given or not
  pub at_number : (n : ℕ) → flight_at (meant slots next) n ≡ seen slots n
  at_number n = elim (cases_lt n next) [
    | inl within ↦
        let long : n < length (meant slots next) = omega (arith, meant_length slots next) in
        ap (λ (o : Option (Option state.Flight)). option_and_then (λ x. x) o)
        (slice_get-get_or (meant slots next) n None long ∙ ap Some (get_or-map-range_with_len (seen slots) 0 next n n None within (omega arith)))
    | inr past ↦
        let long : length (meant slots next) ≤ n = omega (arith, meant_length slots next) in
        let none = kept_none slots n (λ k d within. let low = given k d within in λ same. omega (arith, low, same)) in
        ap (λ (o : Option (Option state.Flight)). option_and_then (λ x. x) o) (slice_get_past (meant slots next) n long)
        ∙ sym (ap (option_map flight_value) none)
  ]

  -- where no slot has the number
  pub none_at : (n : ℕ) → All (λ slot. slot.number ≢ n) slots → flight_at (meant slots next) n ≡ None
  none_at n others = at_number n ∙ ap (option_map flight_value) (kept_none slots n others)

  -- where the slot that was read has it
  pub slot_at : (n index : ℕ) (slot : Slot) → index < length slots → HoldsAt (λ s. s.number ≡ n) slots index → slot ≡ get_or slots index slot
      → flight_at (meant slots next) n ≡ option_map flight_value slot.flight
  slot_at n index slot within has read = at_number n ∙ ap (option_map flight_value) (kept_at slots index n slot up within (has slot))
      ∙ ap (λ (s : Slot). option_map flight_value s.flight) (sym read)

  module _ (P : Option state.Flight → Type 0) (none : P None) where
    -- what holds of each slot holds of each number, and conversely
    pub each_number : All (λ slot. P (option_map flight_value slot.flight)) slots → All P (meant slots next)
    each_number all = λ k d within.
        let below : k < next = omega (arith, within, meant_length slots next) in
        subst P (sym (get_or-map-range_with_len (seen slots) 0 next k k d below (omega arith)))
        (kept_all (λ (o : Option Flight). P (option_map flight_value o)) slots k none all)

    pub each_slot : All P (meant slots next) → All (λ slot. P (option_map flight_value slot.flight)) slots
    each_slot all = λ i d within.
        let n = (get_or slots i d).number in
        let below : n < next = given i d within in
        let long : n < length (meant slots next) = omega (arith, below, meant_length slots next) in
        subst P (get_or-map-range_with_len (seen slots) 0 next n n None below (omega arith) ∙ ap (option_map flight_value) (kept_at slots i n d up within refl))
        (all n None long)

  module _ (new : Slot) where
    module _ (is_next : new.number ≡ next) where
      pub push_ascend : Ascend (slots ++ new ∷ [])
      push_ascend = all_pairs_push (λ slot later. slot.number < later.number) slots new up (λ k d within. let low = given k d within in omega (arith, low, is_next))

      pub push_given : AreGiven (slots ++ new ∷ []) (next + 1)
      push_given = All-push (λ slot. slot.number < next + 1) slots new (λ k d within. let low = given k d within in omega (arith, low)) (omega (arith, is_next))

      pub push_counted : count_by (λ slot. is_none slot.flight) (slots ++ new ∷ []) ≡ count_by (λ slot. is_none slot.flight) slots + cond (is_none new.flight) 1 0
      push_counted = sum_by_push empty_one slots new

      -- the number that is given next has the flight, and each other one what it had
      pub push_means : meant (slots ++ new ∷ []) (next + 1) ≡ meant slots next ++ option_map flight_value new.flight ∷ []
      push_means =
          let more = map-range_with_len_more (seen (slots ++ new ∷ [])) 0 next next (omega arith) in
          let before = same_below (seen (slots ++ new ∷ [])) (seen slots) next
          (λ k below. ap (option_map flight_value) (push_keeps slots new k (λ same. omega (arith, below, is_next, same)))) in
          let there : get_or (slots ++ new ∷ []) (length slots) new ≡ new = get_or_push slots new new (length slots) refl in
          let last = kept_at (slots ++ new ∷ []) (length slots) next new push_ascend (omega (arith, length_push slots new)) (ap (λ (s : Slot). s.number) there ∙ is_next) in
          more ∙ ap (λ (xs : List (Option state.Flight)). xs ++ seen (slots ++ new ∷ []) next ∷ []) before
          ∙ ap (λ (o : Option Flight). meant slots next ++ option_map flight_value o ∷ []) (last ∙ ap (λ (s : Slot). s.flight) there)

    module _ (index : ℕ) (within : index < length slots) (has : HoldsAt (λ s. s.number ≡ new.number) slots index) where
      number_after : (k : ℕ) (d : Slot) → (get_or (slice_set slots index new) k d).number ≡ (get_or slots k d).number
      number_after k d = elim (cases_eq k index) [
        | inl same ↦ rw same (ap (λ (s : Slot). s.number) (get_or-set_same slots index new d within) ∙ sym (has d))
        | inr other ↦ ap (λ (s : Slot). s.number) (get_or-set_other slots index k new d other)
      ]

      pub set_ascend : Ascend (slice_set slots index new)
      set_ascend i j d lt below =
          let still = up i j d lt (omega (arith, below, length-set slots index new)) in
          omega (arith, still, number_after i d, number_after j d)

      pub set_given : AreGiven (slice_set slots index new) next
      set_given k d below =
          let low = given k d (omega (arith, below, length-set slots index new)) in
          omega (arith, low, number_after k d)

      -- the number of the slot has the flight, and each other one what it had
      pub set_means : meant (slice_set slots index new) next ≡ slice_set (meant slots next) new.number (option_map flight_value new.flight)
      set_means =
          let value = option_map flight_value new.flight in
          let long = length-set (meant slots next) new.number value ∙ sym (meant_length slots next) in
          sym (fill_by_all (seen (slice_set slots index new)) (slice_set (meant slots next) new.number value) next None long (λ k below. elim (cases_eq k new.number) [
            | inl same ↦
                let small : new.number < length (meant slots next) = omega (arith, below, same, meant_length slots next) in
                let there = get_or-set_same slots index new new within in
                let now = kept_at (slice_set slots index new) index new.number new set_ascend (omega (arith, within, length-set slots index new)) (ap (λ (s : Slot). s.number) there)
                ∙ ap (λ (s : Slot). s.flight) there in
                ap (λ n. get_or (slice_set (meant slots next) new.number value) n None) same ∙ get_or-set_same (meant slots next) new.number value None small
                ∙ sym (ap (seen (slice_set slots index new)) same ∙ ap (option_map flight_value) now)
            | inr other ↦
                get_or-set_other (meant slots next) new.number k value None other ∙ get_or-map-range_with_len (seen slots) 0 next k k None below (omega arith)
                ∙ sym (ap (option_map flight_value) (set_keeps slots index new new k (has new) (λ same. other (sym same))))
          ]))

      -- one more slot is empty, if the new one is and the one before it wasn't
      pub set_counted : (get_or slots index new).flight ≢ None → count_by (λ slot. is_none slot.flight) (slice_set slots index new)
          ≡ count_by (λ slot. is_none slot.flight) slots + cond (is_none new.flight) 1 0
      set_counted some =
          let none = filled_none (get_or slots index new).flight some in
          let sums = sum_by-set empty_one slots index new new within in
          omega (arith, sums, none)

  abbrev swept : List Slot
  swept = filter (λ slot. is_some slot.flight) slots

  pub sweep_ascend : Ascend swept
  sweep_ascend = AllPairs-filter (λ slot later. slot.number < later.number) (λ slot. is_some slot.flight) slots up

  pub sweep_given : AreGiven swept next
  sweep_given = All-filter (λ slot. is_some slot.flight) (λ slot. slot.number < next) slots given

  pub sweep_means : meant swept next ≡ meant slots next
  sweep_means = same_below (seen swept) (seen slots) next (λ k below. ap (option_map flight_value) (sweep_keeps slots k up))

-- none is empty after a sweep
filled_more : (slot : Slot) (slots : List Slot) → 0 ≡ count_by (λ s. is_none s.flight) (filter (λ s. is_some s.flight) slots) → (o : Option Flight) → slot.flight ≡ o
    → 0 ≡ count_by (λ s. is_none s.flight) (filter (λ s. is_some s.flight) (slot ∷ slots))
filled_more slot slots rest None gone = rw gone rest
filled_more slot slots rest (Some f) there = rw there (
    let more = sum_by-cons empty_one slot (filter (λ (s : Slot). is_some s.flight) slots) in
    let one : empty_one slot ≡ 0 = ap (λ (o : Option Flight). cond (is_none o) 1 0) there in
    omega (arith, more, one, rest))

pub sweep_counted : (slots : List Slot) → 0 ≡ count_by (λ slot. is_none slot.flight) (filter (λ slot. is_some slot.flight) slots)
sweep_counted [] = refl
sweep_counted (slot ∷ slots) = filled_more slot slots (sweep_counted slots) slot.flight refl

-- what a test for none adds to the count
pub one_if_none : (o : Option Flight) (b : Bool) (n : ℕ) → is_some o ≡ not b → n ≡ from_bool b → n ≡ cond (is_none o) 1 0
one_if_none None true n tells is = is
one_if_none None false n tells is = absurd (cc tells)
one_if_none (Some f) true n tells is = absurd (cc tells)
one_if_none (Some f) false n tells is = is

-- a slot is filled where its meaning is there
pub some_means : (o : Option Flight) → is_some o ≡ is_some (option_map flight_value o)
some_means None = refl
some_means (Some f) = refl

pub is_filled : (o : Option Flight) → is_some (option_map flight_value o) ≡ true → o ≢ None
is_filled o some none = absurd (cc (some, none))

-- a flight that is lent means what it means
pub lent_value : (r : Option (Bor Flight)) → option_map (λ (f : Bor Flight). flight_value f.now) r ≡ option_map flight_value (option_copied r)
lent_value None = refl
lent_value (Some f) = refl

-- a flight's hops are those of its meaning
pub few_hops : (o : Option Flight) → IfSome (option_map flight_value o) (λ f. f.hops < 255) → IfSome o (λ f. f.hops < 255)
few_hops None few = tt
few_hops (Some f) few = few

-- where halving finds a slot, it has the number, and where it finds none, none has it
module _ (slots read : List Slot) (n index : ℕ) (same : read ≡ slots) where
  pub found_index : index < length read → HoldsAt (λ slot. nat_cmp slot.number n ≡ Equal) read index → (index < length slots) × HoldsAt (λ slot. slot.number ≡ n) slots index
  found_index within equal =
      let P : List Slot → Type 0 = λ ss. (index < length ss) × HoldsAt (λ slot. slot.number ≡ n) ss index in
      subst P same (within, λ d. ranked (get_or read index d).number n Equal (sym (equal d)))

  pub found_none : Ascend slots
      → (IsNonDecreasingBy (λ slot. ordering_index (nat_cmp slot.number n)) read → IsPartitionPoint (λ slot. nat_cmp slot.number n ≡ Less) (λ slot. nat_cmp slot.number n ≡ Greater) read index)
      → All (λ slot. slot.number ≢ n) slots
  found_none up splits =
      let rises : IsSortedByKey (λ (slot : Slot). slot.number) nat_cmp slots = λ k d low high. ordered k d (up k (k + 1) d (omega arith) (omega arith)) in
      let S : List Slot → Type 0 = λ ss. IsSortedByKey (λ (slot : Slot). slot.number) nat_cmp ss in
      let parts = splits (searchable_from_sorted nat_cmp_total (λ (slot : Slot). slot.number) read n (subst S (sym same) rises)) in
      let N : List Slot → Type 0 = λ ss. All (λ slot. slot.number ≢ n) ss in
      subst N same (λ k d within at. elim (cases_lt k index) [
        | inl before ↦
            let less : (get_or read k d).number < n = ranked (get_or read k d).number n Less (sym (parts.0 k d (omega arith) before)) in
            omega (arith, less, at)
        | inr after ↦
            let more : n < (get_or read k d).number = ranked (get_or read k d).number n Greater (sym (parts.1 k d after within)) in
            omega (arith, more, at)
      ])
    where
      ordered : (k : ℕ) (d : Slot) → (get_or slots k d).number < (get_or slots (k + 1) d).number → is_lt (nat_cmp (get_or slots (k + 1) d).number (get_or slots k d).number) ≡ false
      ordered k d below =
          let earlier = (get_or slots k d).number in
          let later = (get_or slots (k + 1) d).number in
          rw (le-ltb later earlier (omega (arith, below)), ne_eqb later earlier (λ same. omega (arith, below, same))) refl
