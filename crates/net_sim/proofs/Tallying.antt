-- What the counters tell after a push, a write and a sweep.
use Rattle.std.{proofs.Common.{◌≡◌, ◌≢◌, ℕ, zero, suc, ◌+◌, ◌-◌, ◌<◌, ◌≤◌, List, [], ◌∷◌, ◌++◌, length, get_or, All, Bool, true, false, cond, Option, Some, None, option_map, is_some, is_none, refl, sym, ap, ◌∙◌, arith, true≢false}, specs.Prelude.{slice_set, IfSome, ◌^◌, if◌then◌else◌}, specs.List.{count_by, filter}, proofs.lemmas.Bool.Decides.{Decides-eqb}, proofs.lemmas.List.Sums.{count_by-le-length, sum_by-cons, sum_by_push, sum_by-set}, proofs.lemmas.List.Elements.{All-head, All-tail}, specs.Cmp.{booleans_Decides}}
use Rattle.mctp_transport.{specs.PacketValues.{KeyValue, key_of}, specs.Packets.{key_value}}
use Rattle.net_sim.{specs.FlightValues.{flight_value}, specs.Flights.{gone_on}, specs.KeyCounts.{count_of, are_these}, specs.Settling.{IsNotTo, goes_to}, specs.Tallies.{IsTally, slot_goes_to, AreTallied, waits_under, AreCounted}, specs.declared.flights.Flight.{Flight}, specs.declared.flights.Slot.{Slot}, specs.declared.waiting.Waiting.{Waiting}, specs.declared.key_counts.KeyCounts.{KeyCounts}, proofs.Counting.{map_some, these_are}}
use Rattle.net_runs.specs.States as state

abbrev pub one_if : Bool → ℕ
one_if b = cond b 1 0

-- one more, and one fewer
pub push_tally : {X : Type 0} (test : KeyValue → ℕ → X → Bool) (old new : KeyCounts) (xs : List X) (x : X) → IsTally test old xs
    → ((key : KeyValue) (d : ℕ) → key.tag < 8 → count_of new key d ≡ option_map (λ n. n + one_if (test key d x)) (count_of old key d)) → IsTally test new (xs ++ x ∷ [])
push_tally test old new xs x tallied more key d n few is =
    let before = map_some (λ n. n + one_if (test key d x)) (count_of old key d) n (sym (more key d few) ∙ is) in
    let was = tallied key d before.0 few before.1 in
    omega (arith, was, before.2, sum_by_push (λ y. one_if (test key d y)) xs x)

pub rest_tally : {X : Type 0} (test : KeyValue → ℕ → X → Bool) (old new : KeyCounts) (xs : List X) (x : X) → IsTally test old (x ∷ xs)
    → ((key : KeyValue) (d : ℕ) → key.tag < 8 → count_of new key d ≡ option_map (λ n. n - one_if (test key d x)) (count_of old key d)) → IsTally test new xs
rest_tally test old new xs x tallied fewer key d n few is =
    let before = map_some (λ n. n - one_if (test key d x)) (count_of old key d) n (sym (fewer key d few) ∙ is) in
    let was = tallied key d before.0 few before.1 in
    omega (arith, was, before.2, sum_by-cons (λ y. one_if (test key d y)) x xs)

-- what is counted after a change of so many by each test
abbrev pub Counts : (ℕ → ℕ → ℕ) → KeyCounts → KeyCounts → Option state.Flight → Type 0
Counts change old new f = (key : KeyValue) (d : ℕ) → key.tag < 8 → count_of new key d ≡ option_map (λ n. change n (one_if (goes_to key d f))) (count_of old key d)

module _ (old new : KeyCounts) (slots : List Slot) (tallied : AreTallied old slots) where
  pub push_tallied : (slot : Slot) → Counts (λ n m. n + m) old new (option_map flight_value slot.flight) → AreTallied new (slots ++ slot ∷ [])
  push_tallied slot more = push_tally slot_goes_to old new slots slot tallied more

  pub end_tallied : (slot : Slot) (index : ℕ) → index < length slots → slot.flight ≡ None → Counts (λ n m. n - m) old new (option_map flight_value (get_or slots index slot).flight)
      → AreTallied new (slice_set slots index slot)
  end_tallied slot index within gone fewer key d n few is =
      let before = map_some (λ n. n - one_if (slot_goes_to key d (get_or slots index slot))) (count_of old key d) n (sym (fewer key d few) ∙ is) in
      let was = tallied key d before.0 few before.1 in
      let none : one_if (slot_goes_to key d slot) ≡ 0 = ap (λ (o : Option Flight). one_if (goes_to key d (option_map flight_value o))) gone in
      omega (arith, was, before.2, none, sum_by-set (λ s. one_if (slot_goes_to key d s)) slots index slot slot within)

-- a write that leaves each flight's packet leaves the counts
pub same_tallied : (counts : KeyCounts) (slots : List Slot) (slot : Slot) (index : ℕ) → index < length slots
    → ((key : KeyValue) (d : ℕ) → slot_goes_to key d slot ≡ slot_goes_to key d (get_or slots index slot)) → AreTallied counts slots → AreTallied counts (slice_set slots index slot)
same_tallied counts slots slot index within same tallied key d n few is =
    let was = tallied key d n few is in
    let alike : one_if (slot_goes_to key d slot) ≡ one_if (slot_goes_to key d (get_or slots index slot)) = ap one_if (same key d) in
    omega (arith, was, alike, sum_by-set (λ s. one_if (slot_goes_to key d s)) slots index slot slot within)

-- a sweep leaves them
swept_count : (key : KeyValue) (d : ℕ) (slots : List Slot) → count_by (slot_goes_to key d) (filter (λ slot. is_some slot.flight) slots) ≡ count_by (slot_goes_to key d) slots
swept_count key d [] = refl
swept_count key d (slot ∷ slots) = by (swept_count key d slots) slot.flight refl
  where
    by : count_by (slot_goes_to key d) (filter (λ (s : Slot). is_some s.flight) slots) ≡ count_by (slot_goes_to key d) slots → (o : Option Flight) → slot.flight ≡ o
        → count_by (slot_goes_to key d) (cond (is_some slot.flight) (slot ∷ (filter (λ (s : Slot). is_some s.flight) slots)) (filter (λ (s : Slot). is_some s.flight) slots)) ≡ count_by (slot_goes_to key d) (slot ∷ slots)
    by rest None gone =
        let none : one_if (slot_goes_to key d slot) ≡ 0 = ap (λ (o : Option Flight). one_if (goes_to key d (option_map flight_value o))) gone in
        ap (λ (o : Option Flight). count_by (slot_goes_to key d) (cond (is_some o) (slot ∷ (filter (λ (s : Slot). is_some s.flight) slots)) (filter (λ (s : Slot). is_some s.flight) slots))) gone
        ∙ omega (arith, rest, none, sum_by-cons (λ s. one_if (slot_goes_to key d s)) slot slots)
    by rest (Some f) there =
        ap (λ (o : Option Flight). count_by (slot_goes_to key d) (cond (is_some o) (slot ∷ (filter (λ (s : Slot). is_some s.flight) slots)) (filter (λ (s : Slot). is_some s.flight) slots))) there
        ∙ omega (arith, rest, sum_by-cons (λ s. one_if (slot_goes_to key d s)) slot (filter (λ (s : Slot). is_some s.flight) slots), sum_by-cons (λ s. one_if (slot_goes_to key d s)) slot slots)

pub sweep_tallied : (counts : KeyCounts) (slots : List Slot) → AreTallied counts slots → AreTallied counts (filter (λ slot. is_some slot.flight) slots)
sweep_tallied counts slots tallied key d n few is = tallied key d n few is ∙ sym (swept_count key d slots)

-- ---- one flight

same_both : (key own : KeyValue) (d e : ℕ) → key ≡ own → d ≡ e → are_these key d own e ≡ true
same_both key own d e keys ends =
    rw ((Decides-eqb key.source own.source).1 (ap (λ (k : KeyValue). k.source) keys), (Decides-eqb key.tag own.tag).1 (ap (λ (k : KeyValue). k.tag) keys), (booleans_Decides key.owner own.owner).1 (ap (λ (k : KeyValue). k.owner) keys), (Decides-eqb d e).1 ends) refl

-- the test of a flight decides
goes_not : (key : KeyValue) (d : ℕ) (o : Option state.Flight) → goes_to key d o ≡ false → IsNotTo key d o
goes_not key d None is = tt
goes_not key d (Some f) is = λ to. true≢false (sym (same_both (key_of f.packet) key f.packet.destination d to.0 to.1) ∙ is)

not_goes : (key : KeyValue) (d : ℕ) (o : Option state.Flight) → IsNotTo key d o → goes_to key d o ≡ false
not_goes key d None not = refl
not_goes key d (Some f) not = by (goes_to key d (Some f)) refl
  where
    by : (b : Bool) → goes_to key d (Some f) ≡ b → b ≡ false
    by false is = refl
    by true is = let same = these_are (key_of f.packet) key f.packet.destination d is in absurd (not (same.0, same.1))

-- ---- none of a key

zero_one : (b : Bool) → one_if b ≡ 0 → b ≡ false
zero_one true is = absurd (omega (arith, is))
zero_one false is = refl

pub none_tallied : {X : Type 0} (test : X → Bool) (xs : List X) → count_by test xs ≡ 0 → All (λ x. test x ≡ false) xs
none_tallied {X = X} test xs none i x within = zero_one (test (get_or xs i x)) (omega (arith, none, least xs i within))
  where
    least : (xs : List X) (i : ℕ) → i < length xs → one_if (test (get_or xs i x)) ≤ count_by test xs
    least [] i within = absurd (omega arith)
    least (y ∷ ys) zero within = omega (arith, sum_by-cons (λ z. one_if (test z)) y ys)
    least (y ∷ ys) (suc i) within = omega (arith, least ys i (omega arith), sum_by-cons (λ z. one_if (test z)) y ys)

pub tallied_none : {X : Type 0} (test : X → Bool) (xs : List X) → All (λ x. test x ≡ false) xs → count_by test xs ≡ 0
tallied_none test [] all = refl
tallied_none test (x ∷ xs) all =
    let here : one_if (test x) ≡ 0 = ap one_if (All-head (λ y. test y ≡ false) x xs all) in
    omega (arith, here, tallied_none test xs (All-tail (λ y. test y ≡ false) x xs all), sum_by-cons (λ z. one_if (test z)) x xs)

pub none_counted : (key : KeyValue) (d : ℕ) (slots : List Slot) → count_by (slot_goes_to key d) slots ≡ 0 → All (λ slot. IsNotTo key d (option_map flight_value slot.flight)) slots
none_counted key d slots none i x within = goes_not key d _ (none_tallied (slot_goes_to key d) slots none i x within)

pub counted_none : (key : KeyValue) (d : ℕ) (slots : List Slot) → All (λ slot. IsNotTo key d (option_map flight_value slot.flight)) slots → count_by (slot_goes_to key d) slots ≡ 0
counted_none key d slots all = tallied_none (slot_goes_to key d) slots (λ i x within. not_goes key d _ (all i x within))

-- ---- none of a key that waits

pub none_waiting : (key : KeyValue) (messages : List Waiting) → count_by (waits_under key 0) messages ≡ 0 → All (λ message. key_value message.key ≢ key) messages
none_waiting key messages none i x within = λ same.
    true≢false (sym (same_both (key_value (get_or messages i x).key) key 0 0 same refl) ∙ none_tallied (waits_under key 0) messages none i x within)

pub waiting_none : (key : KeyValue) (messages : List Waiting) → All (λ message. key_value message.key ≢ key) messages → count_by (waits_under key 0) messages ≡ 0
waiting_none key messages all = tallied_none (waits_under key 0) messages (λ i x within. by i x within (waits_under key 0 (get_or messages i x)) refl)
  where
    by : (i : ℕ) (x : Waiting) → i < length messages → (b : Bool) → waits_under key 0 (get_or messages i x) ≡ b → b ≡ false
    by i x within false is = refl
    by i x within true is = absurd (all i x within (these_are (key_value (get_or messages i x).key) key 0 0 is).0)

-- fewer wait than a word counts
pub waiting_fit : (counts : KeyCounts) (messages : List Waiting) (key : KeyValue) → AreCounted counts messages → key.tag < 8 → length messages < 2 ^ 63
    → IfSome (count_of counts key 0) (λ n. n < 2 ^ 63)
waiting_fit counts messages key tallied least few = by (count_of counts key 0) refl
  where
    by : (o : Option ℕ) → count_of counts key 0 ≡ o → IfSome o (λ n. n < 2 ^ 63)
    by None is = tt
    by (Some n) is = omega (arith, few, tallied key 0 n least is, count_by-le-length (waits_under key 0) messages)

-- ---- what a count is below

pub count_fits : (counts : KeyCounts) (slots : List Slot) → AreTallied counts slots → length slots < 2 ^ 63
    → (o : Option Flight) → IfSome o (λ f. IfSome (count_of counts (key_of (flight_value f).packet) (flight_value f).packet.destination) (λ n. n < 2 ^ 63))
count_fits counts slots tallied few None = tt
count_fits counts slots tallied few (Some f) = by (count_of counts (key_of (flight_value f).packet) (flight_value f).packet.destination) refl
  where
    by : (o : Option ℕ) → count_of counts (key_of (flight_value f).packet) (flight_value f).packet.destination ≡ o → IfSome o (λ n. n < 2 ^ 63)
    by None is = tt
    by (Some n) is =
        let key = key_of (flight_value f).packet in
        let d = (flight_value f).packet.destination in
        omega (arith, few, tallied key d n f.packet.header.tag.in_range is, count_by-le-length (slot_goes_to key d) slots)

-- ---- a flight that goes on

goes_on : (key : KeyValue) (d node : ℕ) (o : Option state.Flight) → goes_to key d (option_map (gone_on node) o) ≡ goes_to key d o
goes_on key d node None = refl
goes_on key d node (Some f) = refl

pub still_goes : (node : ℕ) (new old : Slot) → option_map flight_value new.flight ≡ option_map (gone_on node) (option_map flight_value old.flight)
    → (key : KeyValue) (d : ℕ) → slot_goes_to key d new ≡ slot_goes_to key d old
still_goes node new old is key d = ap (goes_to key d) is ∙ goes_on key d node (option_map flight_value old.flight)

-- a slot stays as empty as it was
stays : (o : Option Flight) → is_none o ≡ is_none (option_map flight_value o)
stays None = refl
stays (Some f) = refl

goes_empty : (node : ℕ) (o : Option state.Flight) → is_none (option_map (gone_on node) o) ≡ is_none o
goes_empty node None = refl
goes_empty node (Some f) = refl

pub still_counted : (node count index : ℕ) (slots : List Slot) (new old : Slot) → index < length slots → old ≡ get_or slots index old
    → option_map flight_value new.flight ≡ option_map (gone_on node) (option_map flight_value old.flight)
    → count ≡ count_by (λ slot. is_none slot.flight) slots → count ≡ count_by (λ slot. is_none slot.flight) (slice_set slots index new)
still_counted node count index slots new old within read is counted =
    let empty : is_none new.flight ≡ is_none old.flight = stays new.flight ∙ ap is_none is ∙ goes_empty node (option_map flight_value old.flight) ∙ sym (stays old.flight) in
    let there : one_if (is_none (get_or slots index old).flight) ≡ one_if (is_none new.flight) = ap (λ (s : Slot). one_if (is_none s.flight)) (sym read) ∙ ap one_if (sym empty) in
    omega (arith, counted, there, sum_by-set (λ (s : Slot). one_if (is_none s.flight)) slots index new old within)

-- ---- a message that waits, and one that is taken off

one_more : (b : Bool) (o : Option ℕ) → (if b then option_map (λ n. n + 1) o else o) ≡ option_map (λ n. n + one_if b) o
one_more true None = refl
one_more true (Some n) = refl
one_more false None = refl
one_more false (Some n) = ap Some (omega arith)

one_fewer : (b : Bool) (o : Option ℕ) → (if b then option_map (λ n. n - 1) o else o) ≡ option_map (λ n. n - one_if b) o
one_fewer true None = refl
one_fewer true (Some n) = refl
one_fewer false None = refl
one_fewer false (Some n) = ap Some (omega arith)

module _ (old new : KeyCounts) (own : KeyValue) (e : ℕ) (here : e ≡ 0) where
  pub enters : ((key : KeyValue) (d : ℕ) → key.tag < 8 → count_of new key d ≡ (if are_these own e key d then option_map (λ n. n + 1) (count_of old key d) else count_of old key d))
      → (key : KeyValue) (d : ℕ) → key.tag < 8 → count_of new key d ≡ option_map (λ n. n + one_if (are_these own 0 key d)) (count_of old key d)
  enters more key d few = more key d few ∙ one_more (are_these own e key d) (count_of old key d) ∙ ap (λ (p : ℕ). option_map (λ n. n + one_if (are_these own p key d)) (count_of old key d)) here

  pub leaves : ((key : KeyValue) (d : ℕ) → key.tag < 8 → count_of new key d ≡ (if are_these own e key d then option_map (λ n. n - 1) (count_of old key d) else count_of old key d))
      → (key : KeyValue) (d : ℕ) → key.tag < 8 → count_of new key d ≡ option_map (λ n. n - one_if (are_these own 0 key d)) (count_of old key d)
  leaves fewer key d few = fewer key d few ∙ one_fewer (are_these own e key d) (count_of old key d) ∙ ap (λ (p : ℕ). option_map (λ n. n - one_if (are_these own p key d)) (count_of old key d)) here
