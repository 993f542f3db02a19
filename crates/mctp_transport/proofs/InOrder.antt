-- Packets that join to a message and come in order, with nothing before: the message comes with the last.
use Rattle.std.{proofs.Common.{◌≡◌, ℕ, suc, ◌<◌, ◌≤◌, true, false, List, [], ◌∷◌, ◌++◌, length, map, slice_get, Some, sym, refl, ap, ◌∙◌, subst, inl, inr, arith}, proofs.lemmas.Bool.{ne_eqb}, specs.List.{AllByRecursion}, proofs.lemmas.List.{map-append}, proofs.lemmas.List.Elements.{All-head}}
use Rattle.mctp_transport.{specs.PacketValues.{PacketValue, KeyValue, key_of}, specs.Messages.{Joined, EachPacket}, specs.Histories.{Input, Arrived, History, after, has_start, inputs_of, last_of, before_last_start, ArePackets, FewerThan, IsOpen, IsOtherOpen, Comes}, proofs.FirstIndexes.{same_key-equal}, proofs.Joining.{payloads_length}, proofs.Openness.{open_from}}

-- the packets have come, and nothing else
abbrev pub arrivals : List PacketValue → History
arrivals ps = map (λ p. Arrived p) ps

-- a packet of the key that starts nothing
abbrev IsLater : KeyValue → PacketValue → Type 0
IsLater key p = (p.som ≡ false) × (key_of p ≡ key)

are_arrivals : (ps : List PacketValue) → ArePackets (arrivals ps) ps
are_arrivals [] = tt
are_arrivals (p ∷ ps) = (refl, are_arrivals ps)

module _ (key : KeyValue) where
  later_inputs : (ps : List PacketValue) → AllByRecursion (IsLater key) ps → inputs_of (arrivals ps) key ≡ arrivals ps
  later_inputs [] all = refl
  later_inputs (p ∷ ps) all = rw (same_key-equal (key_of p) key all.0.1) (ap (λ (is : List Input). Arrived p ∷ is) (later_inputs ps all.1))

  no_later_start : (ps : List PacketValue) → AllByRecursion (IsLater key) ps → has_start (arrivals ps) ≡ false
  no_later_start [] all = refl
  no_later_start (p ∷ ps) all = rw all.0.0 (no_later_start ps all.1)

  last_is_all : (p : PacketValue) (ps : List PacketValue) → p.som ≡ true → key_of p ≡ key → AllByRecursion (IsLater key) ps → last_of (arrivals (p ∷ ps)) key ≡ arrivals (p ∷ ps)
  last_is_all p ps starts mine all = rw (same_key-equal (key_of p) key mine, later_inputs ps all, no_later_start ps all, starts) refl

  before_is_none : (p : PacketValue) (ps : List PacketValue) → p.som ≡ true → key_of p ≡ key → AllByRecursion (IsLater key) ps → before_last_start key (arrivals (p ∷ ps)) ≡ []
  before_is_none p ps starts mine all =
      let none : has_start (inputs_of (arrivals ps) key) ≡ false = ap has_start (later_inputs ps all) ∙ no_later_start ps all in
      rw (none, same_key-equal (key_of p) key mine, starts) refl

pub all_from : (P : PacketValue → Type 0) (ps : List PacketValue) → EachPacket ps (λ i p. P p) → AllByRecursion P ps
all_from P [] each = tt
all_from P (p ∷ ps) each = (each 0 p refl, all_from P ps (λ i q at. each (suc i) q at))

pub all_front : (P : PacketValue → Type 0) (ps qs : List PacketValue) → AllByRecursion P (ps ++ qs) → AllByRecursion P ps
all_front P [] qs all = tt
all_front P (p ∷ ps) qs all = (all.0, all_front P ps qs all.1)

-- the packets after the first start nothing
later_ones : (p : PacketValue) (ps : List PacketValue) (whole : List ℕ) → Joined (p ∷ ps) whole → AllByRecursion (IsLater (key_of p)) ps
later_ones p ps whole joined = all_from (IsLater (key_of p)) ps (λ i q at. (joined.start (suc i) q at ∙ ne_eqb (suc i) 0 (λ e. omega arith), joined.one_key (suc i) p q refl at))

none_open : (slots limit : ℕ) (key : KeyValue) → 0 < slots → FewerThan slots (IsOtherOpen slots limit [] key)
none_open slots limit key some [] apart all = some
none_open slots limit key some (k ∷ keys) apart all = absurd (All-head (IsOtherOpen slots limit [] key) k keys all).1

-- all but the last have come: the key is open
open_before : (slots limit : ℕ) (first : PacketValue) (ps : List PacketValue) (p : PacketValue) (whole : List ℕ) → 0 < slots → Joined (first ∷ ps ++ p ∷ []) whole → length whole ≤ limit
    → IsOpen slots limit (arrivals (first ∷ ps)) (key_of first)
open_before slots limit first ps p whole some joined fits =
    let key = key_of first in
    let starts = joined.start 0 first refl in
    let later = all_front (IsLater key) ps (p ∷ []) (later_ones first (ps ++ p ∷ []) whole joined) in
    let A : List Input → Type 0 = λ is. ArePackets is (first ∷ ps) in
    let R : History → Type 0 = λ h. FewerThan slots (IsOtherOpen slots limit h key) in
    let size = ap length joined.whole in
    open_from slots limit (arrivals (first ∷ ps)) key (record {
      under_way = (
        first ∷ ps,
        subst A (sym (last_is_all key first ps starts refl later)) (are_arrivals (first ∷ ps)),
        (omega arith, (p ∷ [], whole, omega arith, joined)),
        omega (arith, payloads_length (first ∷ ps) p),
      );
      room = subst R (sym (before_is_none key first ps starts refl later)) (none_open slots limit key some);
    })

pub comes_in_order : (slots limit : ℕ) (ps : List PacketValue) (p : PacketValue) (whole : List ℕ) → 0 < slots → Joined (ps ++ p ∷ []) whole → length whole ≤ limit
    → Comes slots limit (after (arrivals ps) (Arrived p)) whole
comes_in_order slots limit [] p whole some joined fits =
    let starts = joined.start 0 p refl in
    let A : List Input → Type 0 = λ is. ArePackets is (p ∷ []) in
    record {
      earlier = [];
      packet = p;
      packets = p ∷ [];
      ends = refl;
      since_start = subst A (sym (last_is_all (key_of p) p [] starts refl tt)) (are_arrivals (p ∷ []));
      joined = joined;
      fits = fits;
      begun = inl starts;
    }
comes_in_order slots limit (first ∷ ps) p whole some joined fits =
    let starts = joined.start 0 first refl in
    let later = later_ones first (ps ++ p ∷ []) whole joined in
    let key : key_of p ≡ key_of first = joined.one_key (suc (length ps)) first p refl (last_at ps) in
    let history : after (arrivals (first ∷ ps)) (Arrived p) ≡ arrivals (first ∷ ps ++ p ∷ []) = sym (map-append (λ (q : PacketValue). Arrived q) (first ∷ ps) (p ∷ [])) in
    let A : List Input → Type 0 = λ is. ArePackets is (first ∷ ps ++ p ∷ []) in
    let L : History → Type 0 = λ h. ArePackets (last_of h (key_of first)) (first ∷ ps ++ p ∷ []) in
    let K : KeyValue → Type 0 = λ k. ArePackets (last_of (after (arrivals (first ∷ ps)) (Arrived p)) k) (first ∷ ps ++ p ∷ []) in
    let O : KeyValue → Type 0 = λ k. IsOpen slots limit (arrivals (first ∷ ps)) k in
    record {
      earlier = arrivals (first ∷ ps);
      packet = p;
      packets = first ∷ ps ++ p ∷ [];
      ends = refl;
      since_start = subst K (sym key) (subst L (sym history) (subst A (sym (last_is_all (key_of first) first (ps ++ p ∷ []) starts refl later)) (are_arrivals (first ∷ ps ++ p ∷ []))));
      joined = joined;
      fits = fits;
      begun = inr (subst O (sym key) (open_before slots limit first ps p whole some joined fits));
    }
  where
    last_at : (qs : List PacketValue) → slice_get (qs ++ p ∷ []) (length qs) ≡ Some p
    last_at [] = refl
    last_at (q ∷ qs) = last_at qs
