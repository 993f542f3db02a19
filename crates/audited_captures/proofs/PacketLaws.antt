-- One packet more.
use Rattle.std.{proofs.Common.{◌≡◌, ◌≢◌, ◌⊎◌, ℕ, ◌<◌, ◌≤◌, ◌+◌, ◌==◌, Bool, true, false, List, [], ◌∷◌, ◌++◌, length, arith, refl, ap, sym, ◌∙◌, subst, get_or, set, cond, inl, inr, map, take, replicate}, specs.Prelude.{if◌then◌else◌, slice_set}, specs.List.{filter}, proofs.lemmas.Bool.{cases_Bool}, proofs.lemmas.Bool.Decides.{nat_tests}, proofs.lemmas.List.{append-nil, get_or-set_same, get_or-set_other, get_or-replicate, length-replicate, length-set, length-append, length-map, length-take, map-append}, proofs.lemmas.List.Elements.{filter-append}}
use Rattle.bus_captures.{specs.Values.{EntryValue, entry_value}, specs.declared.capture.Entry.{Entry}}
use Rattle.audited_captures.{specs.Counts.{AreCounts, place_of}, specs.PacketSteps.{AddsPacket}, specs.Packets.{NumberedPacket, numbered_packet, ArePackets, is_between, count_between, count_like, AreFirst}, specs.declared.packets.CapturedPacket.{CapturedPacket}, specs.AsPlanned.{IsAmong}, proofs.Booleans.{both, both_left, both_right}, proofs.WordLaws.{mapped_more}}
use Rattle.audited_captures.specs.Packets as packets

-- ---- the packets among the entries

added : (unit : ℕ) (entries : List EntryValue) (old new : List NumberedPacket) (e : EntryValue) → ArePackets unit entries old → AddsPacket unit (length entries + 1) e old new
    → ArePackets unit (entries ++ e ∷ []) new
added unit entries old new e are (inl (none, same)) = subst (λ ps. ArePackets unit (entries ++ e ∷ []) ps) (sym same) (packets.Other entries old e are none)
added unit entries old new e are (inr (f, is, same)) = subst (λ ps. ArePackets unit (entries ++ e ∷ []) ps) (sym same) (packets.More entries old e f are is)

-- the next entry of a list
pub next_packet : (unit : ℕ) (items : List Entry) (i : ℕ) (item : Entry) (old new : List NumberedPacket) → i < length items → item ≡ get_or items i item
    → ArePackets unit (map entry_value (take i items)) old → AddsPacket unit (i + 1) (entry_value item) old new → ArePackets unit (map entry_value (take (i + 1) items)) new
next_packet unit items i item old new within is are adds =
    let many : length (map entry_value (take i items)) ≡ i = omega (arith, within, length-map (take i items) entry_value, length-take i items) in
    subst (λ es. ArePackets unit es new) (sym (mapped_more entry_value items i item within is))
    (added unit (map entry_value (take i items)) old new (entry_value item) are (subst (λ n. AddsPacket unit (n + 1) (entry_value item) old new) (sym many) adds))

-- ---- counts

one_if : (b : Bool) (p : NumberedPacket) → length (cond b (p ∷ []) []) ≡ cond b 1 0
one_if true p = refl
one_if false p = refl

count_more : (source destination : ℕ) (ps : List NumberedPacket) (p : NumberedPacket)
    → count_between source destination (ps ++ p ∷ []) ≡ count_between source destination ps + cond (is_between source destination p) 1 0
count_more source destination ps p =
    ap length (filter-append (is_between source destination) ps (p ∷ []))
    ∙ length-append (filter (is_between source destination) ps) (filter (is_between source destination) (p ∷ []))
    ∙ ap (λ n. count_between source destination ps + n) (one_if (is_between source destination p) p)

filter_within : {A : Type 0} (test : A → Bool) (xs : List A) → length (filter test xs) ≤ length xs
filter_within test [] = omega arith
filter_within test (x ∷ xs) = elim (cases_Bool (test x)) [
  | inl passes ↦ rw passes (omega (arith, filter_within test xs))
  | inr fails ↦ rw fails (omega (arith, filter_within test xs))
]

pub count_within : (source destination : ℕ) (ps : List NumberedPacket) → count_between source destination ps ≤ length ps
count_within source destination ps = filter_within (is_between source destination) ps

between_same : (p : NumberedPacket) → is_between p.source p.destination p ≡ true
between_same p = both (p.source == p.source) (p.destination == p.destination) (grind (arith, nat_tests)) (grind (arith, nat_tests))

pub between_is : (source destination : ℕ) (p : NumberedPacket) → is_between source destination p ≡ true → (p.source ≡ source) × (p.destination ≡ destination)
between_is source destination p is =
    let first : (p.source == source) ≡ true = both_left (p.source == source) (p.destination == destination) is in
    let second : (p.destination == destination) ≡ true = both_right (p.source == source) (p.destination == destination) is in
    (grind (arith, nat_tests), grind (arith, nat_tests))

pub none_counted : (counts : List ℕ) → counts ≡ replicate 65536 0 → AreCounts [] counts
none_counted counts is = record {
  many = ap length is ∙ length-replicate {A = ℕ} 65536 0;
  each = λ source destination x s d. ap (λ xs. get_or xs (place_of source destination) x) is ∙ get_or-replicate {A = ℕ} 65536 (place_of source destination) 0 x (omega (arith, s, d));
}

-- a count more
pub next_counts : (ps : List NumberedPacket) (p : NumberedPacket) (old new : List ℕ) → p.source < 256 → p.destination < 256 → AreCounts ps old
    → new ≡ slice_set old (place_of p.source p.destination) (count_like p ps + 1) → AreCounts (ps ++ p ∷ []) new
next_counts ps p old new source_fits destination_fits are set_so = record {
  many = ap length set_so ∙ length-set old (place_of p.source p.destination) (count_like p ps + 1) ∙ are.many;
  each = λ source destination x s d. elim (cases_Bool (is_between source destination p)) [
    | inl same ↦ (
        let ends = between_is source destination p same in
        let many : length old ≡ 65536 = are.many in
        let there : place_of p.source p.destination < length old = omega (arith, source_fits, destination_fits, many) in
        let place : place_of source destination ≡ place_of p.source p.destination = omega (arith, ends.0, ends.1) in
        let counted : count_like p ps ≡ count_between source destination ps = ap (λ k. count_between k p.destination ps) ends.0 ∙ ap (λ k. count_between source k ps) ends.1 in
        let more : count_between source destination (ps ++ p ∷ []) ≡ count_between source destination ps + 1 =
        count_more source destination ps p ∙ ap (λ b. count_between source destination ps + cond b 1 0) same in
        ap (λ xs. get_or xs (place_of source destination) x) set_so ∙ ap (λ k. get_or (set old (place_of p.source p.destination) (count_like p ps + 1)) k x) place
        ∙ get_or-set_same old (place_of p.source p.destination) (count_like p ps + 1) x there ∙ ap (λ n. n + 1) counted ∙ sym more)
    | inr other ↦ (
        let elsewhere : place_of source destination ≢ place_of p.source p.destination = λ same.
        let first : p.source ≡ source = omega (arith, same, s, d, source_fits, destination_fits) in
        let second : p.destination ≡ destination = omega (arith, same, s, d, source_fits, destination_fits) in
        let is : is_between source destination p ≡ true = subst (λ k. is_between k destination p ≡ true) first (subst (λ k. is_between p.source k p ≡ true) second (between_same p)) in
        let absurdly : true ≡ false = sym is ∙ other in cc in
        let more : count_between source destination (ps ++ p ∷ []) ≡ count_between source destination ps =
        count_more source destination ps p ∙ ap (λ b. count_between source destination ps + cond b 1 0) other ∙ omega arith in
        ap (λ xs. get_or xs (place_of source destination) x) set_so
        ∙ get_or-set_other old (place_of p.source p.destination) (place_of source destination) (count_like p ps + 1) x elsewhere
        ∙ are.each source destination x s d ∙ sym more)
  ];
}

-- ---- first packets

first_or_further : (ps firsts new : List NumberedPacket) (p : NumberedPacket) (b : Bool) → AreFirst ps firsts → (b ≡ true → count_like p ps ≡ 0) → (b ≡ false → count_like p ps ≢ 0)
    → new ≡ firsts ++ (cond b (p ∷ []) []) → AreFirst (ps ++ p ∷ []) new
first_or_further ps firsts new p true are first further is = subst (λ fs. AreFirst (ps ++ p ∷ []) fs) (sym is) (packets.More ps firsts p are (first refl))
first_or_further ps firsts new p false are first further is =
    subst (λ fs. AreFirst (ps ++ p ∷ []) fs) (sym (is ∙ append-nil firsts)) (packets.Further ps firsts p are (further refl))

mapped_if : (old new : List CapturedPacket) (item : CapturedPacket) (b : Bool) → new ≡ old ++ (cond b (item ∷ []) [])
    → map numbered_packet new ≡ map numbered_packet old ++ (cond b (numbered_packet item ∷ []) [])
mapped_if old new item true is = ap (map numbered_packet) is ∙ map-append numbered_packet old (item ∷ [])
mapped_if old new item false is = ap (map numbered_packet) is ∙ map-append numbered_packet old []

-- the next packet of a list
pub next_first : (items : List CapturedPacket) (i : ℕ) (item : CapturedPacket) (old new : List CapturedPacket) (before : ℕ) → i < length items → item ≡ get_or items i item
    → AreFirst (map numbered_packet (take i items)) (map numbered_packet old) → before ≡ count_like (numbered_packet item) (map numbered_packet (take i items))
    → new ≡ old ++ (if before == 0 then item ∷ [] else []) → AreFirst (map numbered_packet (take (i + 1) items)) (map numbered_packet new)
next_first items i item old new before within is are counted joined =
    let ps = map numbered_packet (take i items) in
    let p = numbered_packet item in
    subst (λ qs. AreFirst qs (map numbered_packet new)) (sym (mapped_more numbered_packet items i item within is))
    (first_or_further ps (map numbered_packet old) (map numbered_packet new) p (before == 0) are
    (λ zero. let none : before ≡ 0 = grind (arith, nat_tests) in sym counted ∙ none)
    (λ some. λ none. let zero : before ≡ 0 = counted ∙ none in grind (arith, nat_tests))
    (mapped_if old new item (before == 0) joined))

-- ---- what is among them

pub among_left : {A : Type 0} (x : A) (xs ys : List A) → IsAmong x xs → IsAmong x (xs ++ ys)
among_left x [] ys among = absurd among
among_left x (y ∷ xs) ys (inl same) = inl same
among_left x (y ∷ xs) ys (inr among) = inr (among_left x xs ys among)

pub among_right : {A : Type 0} (x : A) (xs ys : List A) → IsAmong x ys → IsAmong x (xs ++ ys)
among_right x [] ys among = among
among_right x (y ∷ xs) ys among = inr (among_right x xs ys among)

pub among_split : {A : Type 0} (x : A) (xs ys : List A) → IsAmong x (xs ++ ys) → IsAmong x xs ⊎ IsAmong x ys
among_split x [] ys among = inr among
among_split x (y ∷ xs) ys (inl same) = inl (inl same)
among_split x (y ∷ xs) ys (inr among) = elim (among_split x xs ys among) [
  | inl left ↦ inl (inr left)
  | inr right ↦ inr right
]

-- one of the packets went this way
abbrev pub HasOneBetween : ℕ → ℕ → List NumberedPacket → Type 0
HasOneBetween source destination ps = (p : NumberedPacket) × IsAmong p ps × (p.source ≡ source) × (p.destination ≡ destination)

some_counted : (source destination : ℕ) (ps : List NumberedPacket) → count_between source destination ps ≢ 0 → HasOneBetween source destination ps
some_counted source destination [] some = absurd (some refl)
some_counted source destination (p ∷ ps) some = elim (cases_Bool (is_between source destination p)) [
  | inl is ↦ (let ends = between_is source destination p is in (p, inl refl, ends.0, ends.1))
  | inr other ↦ (
      let later = some_counted source destination ps (λ none. some (rw other none)) in
      (later.0, inr later.1, later.2, later.3))
]

-- each of the packets went the way of a first one
pub each_has_first : {ps firsts : List NumberedPacket} → AreFirst ps firsts → (p : NumberedPacket) → IsAmong p ps → HasOneBetween p.source p.destination firsts
each_has_first packets.None p among = absurd among
each_has_first (packets.Further ps firsts q are some) p among = elim (among_split p ps (q ∷ []) among) [
  | inl before ↦ each_has_first are p before
  | inr last ↦ elim last [
    | inl same ↦ (
        let like = some_counted q.source q.destination ps some in
        let first = each_has_first are like.0 like.1 in
        let P : NumberedPacket → Type 0 = λ r. HasOneBetween r.source r.destination firsts in
        subst P same (first.0, first.1, first.2 ∙ like.2, first.3 ∙ like.3))
    | inr none ↦ absurd none
  ]
]
each_has_first (packets.More ps firsts q are none) p among = elim (among_split p ps (q ∷ []) among) [
  | inl before ↦ (let first = each_has_first are p before in (first.0, among_left first.0 firsts (q ∷ []) first.1, first.2, first.3))
  | inr last ↦ elim last [
    | inl same ↦ (
        let P : NumberedPacket → Type 0 = λ r. HasOneBetween r.source r.destination (firsts ++ q ∷ []) in
        subst P same (q, among_right q firsts (q ∷ []) (inl refl), refl, refl))
    | inr nothing ↦ absurd nothing
  ]
]

-- a first one is one of them
pub first_among : {ps firsts : List NumberedPacket} → AreFirst ps firsts → (f : NumberedPacket) → IsAmong f firsts → IsAmong f ps
first_among packets.None f among = absurd among
first_among (packets.Further ps firsts q are some) f among = among_left f ps (q ∷ []) (first_among are f among)
first_among (packets.More ps firsts q are none) f among = elim (among_split f firsts (q ∷ []) among) [
  | inl before ↦ among_left f ps (q ∷ []) (first_among are f before)
  | inr last ↦ among_right f ps (q ∷ []) last
]
