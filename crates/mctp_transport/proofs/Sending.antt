-- What joins packets of one message, of five packets at most, is that message.
use Rattle.std.{proofs.Common.{◌≡◌, ◌≢◌, ℕ, zero, suc, ◌+◌, ◌*◌, ◌%◌, ◌<◌, ◌≤◌, true, nat_eq, List, [], ◌∷◌, length, map, slice_get, Some, sym, refl, ap, ◌∙◌, subst, arith, inl, inr, length-append, suc-mul, zero-mul}, specs.List.{AllByRecursion, concat}, proofs.lemmas.Bool.{true≢false, eqb-true, eq-eqb, ne_eqb}, proofs.lemmas.List.{length-map}, proofs.lemmas.Option.{same_Some, none-some, slice_get_within, slice_get_cases}}
use Rattle.mctp_transport.{specs.PacketValues.{PacketValue, KeyValue, key_of}, specs.Messages.{Joined, payloads_of}, specs.Cutting.{IsCut, ArePacketsOf}, specs.Sending.{IsPacketOf}, proofs.Cuts.{cut_rest, cut_some}, proofs.PacketLists.{same_packets, joined_payloads}}

-- so many bytes make no more packets than they fill
few_payloads : (unit n : ℕ) (message : List ℕ) (ps : List (List ℕ)) → IsCut unit message ps → length message ≤ n * unit → length ps ≤ n
few_payloads unit n message [] cut most = omega arith
few_payloads unit zero message (p ∷ ps) cut most = let some = cut_some unit message (p ∷ ps) cut (omega arith) in absurd (omega (arith, zero-mul unit))
few_payloads unit (suc n) message (p ∷ []) cut most = omega arith
few_payloads unit (suc n) message (p ∷ q ∷ ps) cut most =
    let full = cut.full 0 p refl (omega arith) in
    let whole = ap length cut.whole in
    let rest = few_payloads unit n (concat (q ∷ ps)) (q ∷ ps) (cut_rest unit message p q ps cut) (omega (arith, suc-mul n unit, length-append p (concat (q ∷ ps)))) in
    omega arith

pub few_packets : (unit n : ℕ) (message : List ℕ) (d : ℕ) (key : KeyValue) (start : ℕ) (ps : List PacketValue) → ArePacketsOf unit message d key start ps → length message ≤ n * unit
    → length ps ≤ n
few_packets unit n message d key start ps are most =
    omega (arith, few_payloads unit n message (map (λ f. f.payload) ps) are.cut most, length-map ps (λ (f : PacketValue). f.payload))

-- numbers modulo 4 tell four places in a row apart
next_place : (s i j : ℕ) → 1 ≤ i → i ≤ 4 → j + 1 ≤ 4 → (s + i) % 4 ≡ ((s + j) % 4 + 1) % 4 → i ≡ j + 1
next_place s i j least most most' e = omega arith

-- what joins packets of the list stands in it index by index
stands : (unit : ℕ) (message whole : List ℕ) (d : ℕ) (key : KeyValue) (s : ℕ) (qs ps : List PacketValue) → ArePacketsOf unit message d key s qs → length qs ≤ 5 → Joined ps whole
    → ((j : ℕ) (p : PacketValue) → slice_get ps j ≡ Some p → (i : ℕ) × (slice_get qs i ≡ Some p)) → (j : ℕ) (p : PacketValue) → slice_get ps j ≡ Some p → slice_get qs j ≡ Some p
stands unit message whole d key s qs ps are few joined placed zero p at =
    let (i, is) = placed zero p at in
    let first : i ≡ 0 = eqb-true i 0 (sym (are.som i p is) ∙ joined.start 0 p at) in
    let P : ℕ → Type 0 = λ k. slice_get qs k ≡ Some p in subst P first is
stands unit message whole d key s qs ps are few joined placed (suc j) p at =
    let more : suc j < length ps = slice_get_within ps (suc j) p at in
    by (λ q there. stands unit message whole d key s qs ps are few joined placed j q there) (before j (omega arith))
  where
    before : (k : ℕ) → k < length ps → (q : PacketValue) × (slice_get ps k ≡ Some q)
    before k within = elim (slice_get_cases ps k).1 [ inl h ↦ (h.0, h.2) | inr h ↦ absurd (omega (arith, h.0)) ]

    by : ((q : PacketValue) → slice_get ps j ≡ Some q → slice_get qs j ≡ Some q) → (q : PacketValue) × (slice_get ps j ≡ Some q) → slice_get qs (suc j) ≡ Some p
    by earlier (q, there) =
        let more : suc j < length ps = slice_get_within ps (suc j) p at in
        let here = earlier q there in
        let inside = slice_get_within qs j q here in
        let goes_on : j + 1 ≢ length qs = λ ends. true≢false (sym (eq-eqb (j + 1) (length qs) ends) ∙ sym (are.eom j q here) ∙ joined.finish j q there ∙ ne_eqb (j + 1) (length ps) (λ e. omega arith)) in
        let (i, is) = placed (suc j) p at in
        let within = slice_get_within qs i p is in
        let no_start : i ≢ 0 = λ e. true≢false (sym (eq-eqb i 0 e) ∙ sym (are.som i p is) ∙ joined.start (suc j) p at ∙ ne_eqb (suc j) 0 (λ z. omega arith)) in
        let same_spot : suc j ≡ j + 1 = omega arith in
        let P : ℕ → Type 0 = λ k. slice_get ps k ≡ Some p in
        let step : p.number ≡ (q.number + 1) % 4 = joined.numbers j q p there (subst P same_spot at) in
        let counts : (s + i) % 4 ≡ ((s + j) % 4 + 1) % 4 = sym (are.numbers i p is) ∙ step ∙ ap (λ n. (n + 1) % 4) (are.numbers j q here) in
        let next : i ≡ suc j = omega (arith, next_place s i j (omega (arith, no_start)) (omega arith) (omega (arith, goes_on)) counts) in
        let Q : ℕ → Type 0 = λ k. slice_get qs k ≡ Some p in
        subst Q next is

same_list : (ps qs : List PacketValue) → length ps ≡ length qs → ((j : ℕ) (p : PacketValue) → slice_get ps j ≡ Some p → slice_get qs j ≡ Some p) → ps ≡ qs
same_list [] [] long each = refl
same_list [] (q ∷ qs) long each = absurd (omega arith)
same_list (p ∷ ps) [] long each = absurd (omega arith)
same_list (p ∷ ps) (q ∷ qs) long each =
    let first : q ≡ p = same_Some q p (each 0 p refl) in
    let rest = same_list ps qs (omega arith) (λ j r at. each (suc j) r at) in
    λ i. sym first i ∷ rest i

-- what holds of each packet holds of the one at an index
at_place : (P : PacketValue → Type 0) (ps : List PacketValue) (i : ℕ) (p : PacketValue) → AllByRecursion P ps → slice_get ps i ≡ Some p → P p
at_place P [] i p all at = absurd (none-some p at)
at_place P (q ∷ ps) zero p all at = subst P (same_Some q p at) all.0
at_place P (q ∷ ps) (suc i) p all at = at_place P ps i p all.1 at

-- Packets of one message, five at most, join to that message and to no other.
pub joins_to_itself : (unit : ℕ) (message : List ℕ) (d : ℕ) (key : KeyValue) (s : ℕ) (ps : List PacketValue) (whole : List ℕ) → length message ≤ 5 * unit
    → AllByRecursion (IsPacketOf unit message d key s) ps → Joined ps whole → whole ≡ message
joins_to_itself unit message d key s [] whole short all joined = absurd (omega (arith, joined.some))
joins_to_itself unit message d key s (p ∷ ps) whole short all joined = by all.0
  where
    by : IsPacketOf unit message d key s p → whole ≡ message
    by (qs, k, are, here) =
        let few = few_packets unit 5 message d key s qs are short in
        let placed : (j : ℕ) (r : PacketValue) → slice_get (p ∷ ps) j ≡ Some r → (i : ℕ) × (slice_get qs i ≡ Some r) = λ j r at.
        let (rs, i, others, there) = at_place (IsPacketOf unit message d key s) (p ∷ ps) j r all at in
        let G : List PacketValue → Type 0 = λ fs. slice_get fs i ≡ Some r in
        (i, subst G (same_packets unit message d key s rs qs others are) there) in
        let each = stands unit message whole d key s qs (p ∷ ps) are few joined placed in
        last (last_there (length ps) (omega arith)) few are each
      where
        last_there : (i : ℕ) → i < length (p ∷ ps) → (r : PacketValue) × (slice_get (p ∷ ps) i ≡ Some r)
        last_there i within = elim (slice_get_cases (p ∷ ps) i).1 [ inl h ↦ (h.0, h.2) | inr h ↦ absurd (omega (arith, h.0)) ]

        last : (r : PacketValue) × (slice_get (p ∷ ps) (length ps) ≡ Some r) → length qs ≤ 5 → ArePacketsOf unit message d key s qs
            → ((j : ℕ) (p' : PacketValue) → slice_get (p ∷ ps) j ≡ Some p' → slice_get qs j ≡ Some p') → whole ≡ message
        last (r, at) few are each =
            let ends : r.eom ≡ true = joined.finish (length ps) r at ∙ eq-eqb (length ps + 1) (length (p ∷ ps)) (omega arith) in
            let count : length ps + 1 ≡ length qs = eqb-true (length ps + 1) (length qs) (sym (are.eom (length ps) r (each (length ps) r at)) ∙ ends) in
            let same = same_list (p ∷ ps) qs (omega arith) each in
            joined.whole ∙ ap payloads_of same ∙ sym (joined_payloads qs) ∙ sym are.cut.whole

-- so many packets carry no more bytes than they have room for
room_of : (unit : ℕ) (message : List ℕ) (ps : List (List ℕ)) → IsCut unit message ps → length message ≤ length ps * unit
room_of unit message [] cut = let e = ap length cut.whole in omega (arith, zero-mul unit)
room_of unit message (p ∷ []) cut =
    let e = ap length cut.whole in
    let most = (cut.last 0 p refl refl).1 in
    omega (arith, length-append p [], suc-mul 0 unit, zero-mul unit)
room_of unit message (p ∷ q ∷ ps) cut =
    let e = ap length cut.whole in
    let full = cut.full 0 p refl (omega arith) in
    let rest = room_of unit (concat (q ∷ ps)) (q ∷ ps) (cut_rest unit message p q ps cut) in
    omega (arith, length-append p (concat (q ∷ ps)), suc-mul (length (q ∷ ps)) unit)

pub many_packets : (unit : ℕ) (message : List ℕ) (d : ℕ) (key : KeyValue) (start : ℕ) (ps : List PacketValue) → ArePacketsOf unit message d key start ps
    → length message ≤ length ps * unit
many_packets unit message d key start ps are =
    let long = length-map ps (λ (f : PacketValue). f.payload) in
    let R : ℕ → Type 0 = λ n. length message ≤ n * unit in
    subst R long (room_of unit message (map (λ f. f.payload) ps) are.cut)

-- The first and the last of six packets join, to a message of at most twice the unit.
pub ends_of_six_join : (unit : ℕ) (message : List ℕ) (d : ℕ) (key : KeyValue) (s : ℕ) (a b c e f g : PacketValue) → ArePacketsOf unit message d key s (a ∷ b ∷ c ∷ e ∷ f ∷ g ∷ [])
    → Joined (a ∷ g ∷ []) (payloads_of (a ∷ g ∷ [])) × (length (payloads_of (a ∷ g ∷ [])) ≤ 2 * unit)
ends_of_six_join unit message d key s a b c e f g are =
    let full = are.cut.full 0 a.payload refl (omega arith) in
    let last = are.cut.last 5 g.payload refl refl in
    let first_number = are.numbers 0 a refl in
    let last_number = are.numbers 5 g refl in (
      record {
        some = omega arith;
        one_key = pairs (λ i p q. key_of q ≡ key_of p) refl (are.of_key 5 g refl ∙ sym (are.of_key 0 a refl));
        start = each (λ i p. p.som ≡ nat_eq i 0) (are.som 0 a refl) (are.som 5 g refl);
        finish = each (λ i p. p.eom ≡ nat_eq (i + 1) 2) (are.eom 0 a refl) (are.eom 5 g refl);
        numbers = nexts (omega arith);
        middle = pairs (λ i p q. i + 1 < 2 → length q.payload ≡ length p.payload) (λ lt. refl) (λ lt. absurd (omega arith));
        last = pairs (λ i p q. length q.payload ≤ length p.payload) (omega arith) (omega arith);
        whole = refl;
      },
      omega (arith, length-append a.payload (payloads_of (g ∷ [])), length-append g.payload []),
    )
  where
    each : (P : ℕ → PacketValue → Type 0) → P 0 a → P 1 g → (i : ℕ) (p : PacketValue) → slice_get (a ∷ g ∷ []) i ≡ Some p → P i p
    each P x y zero p at = subst (P 0) (same_Some a p at) x
    each P x y (suc zero) p at = subst (P 1) (same_Some g p at) y
    each P x y (suc (suc i)) p at = absurd (none-some p at)

    pairs : (R : ℕ → PacketValue → PacketValue → Type 0) → R 0 a a → R 1 a g → (i : ℕ) (p q : PacketValue) → slice_get (a ∷ g ∷ []) 0 ≡ Some p → slice_get (a ∷ g ∷ []) i ≡ Some q → R i p q
    pairs R x y i p q first at =
        let P : PacketValue → Type 0 = λ o. R i o q in
        subst P (same_Some a p first) (each (λ j o. R j a o) x y i q at)

    nexts : g.number ≡ (a.number + 1) % 4 → (i : ℕ) (p q : PacketValue) → slice_get (a ∷ g ∷ []) i ≡ Some p → slice_get (a ∷ g ∷ []) (i + 1) ≡ Some q → q.number ≡ (p.number + 1) % 4
    nexts counts zero p q at next =
        let A : PacketValue → Type 0 = λ o. q.number ≡ (o.number + 1) % 4 in
        let G : PacketValue → Type 0 = λ o. o.number ≡ (a.number + 1) % 4 in
        subst A (same_Some a p at) (subst G (same_Some g q next) counts)
    nexts counts (suc i) p q at next = absurd (omega (arith, slice_get_within (a ∷ g ∷ []) (suc i + 1) q next))
