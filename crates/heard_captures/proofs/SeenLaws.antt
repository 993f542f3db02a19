-- One entry more.
use Rattle.std.{proofs.Common.{◌≡◌, ℕ, ◌<◌, ◌+◌, ◌==◌, ◌&&◌, Bool, true, false, true≢false, List, [], ◌∷◌, ◌++◌, length, arith, refl, ap, sym, ◌∙◌, subst, get_or, cond, inl, inr, map, take}, specs.Prelude.{Result, Ok, Err}, specs.BTreeMap.{get}, proofs.lemmas.List.{append-nil, take_more, map-append}, proofs.lemmas.Bool.{cases_Bool}, proofs.lemmas.Bool.Decides.{nat_tests}}
use Rattle.bus_captures.{specs.Values.{EntryValue, entry_value}, specs.declared.capture.Entry.{Entry}, specs.declared.capture.Interface.{Interface}}
use Rattle.mctp_transport.{specs.declared.packet_error.PacketError.{PacketError}, specs.PacketValues.{PacketValue}, specs.Hearing.{Answer}, specs.Histories.{History, Arrived, after}}
use Rattle.heard_captures.{specs.Places.{is_same, place_cmp}, specs.Seen.{Seen, Fed, NoPacket, Told, Other, NotRead, None, More, history_to, IsNoPacketFor}, specs.Stations.{station_at, HasBeenGiven, AreGiven, AreIdle, IsFedAt}, specs.Steps.{Sees, HaveSeen}, specs.declared.stations.Stations.{Stations}, proofs.PlaceLaws.{same_place}}
use Rattle.mctp_transport.specs.declared.packet_error.PacketError.TheVariants as packet
use Rattle.mctp_transport.specs.Refusals as refusals

pub nothing_seen : (unit : ℕ) (stations : Stations) → AreIdle stations → HaveSeen unit [] [] stations
nothing_seen unit stations idle = record { are = None; given = idle }

prepended : (b : Bool) (p : PacketValue) (xs ys : History) → cond b (Arrived p ∷ (xs ++ ys)) (xs ++ ys) ≡ cond b (Arrived p ∷ xs) xs ++ ys
prepended true p xs ys = refl
prepended false p xs ys = refl

history_more : (i : Interface) (d : ℕ) (seen more : List Seen) → history_to i d (seen ++ more) ≡ history_to i d seen ++ history_to i d more
history_more i d [] more = refl
history_more i d (Fed j p answer ∷ seen) more =
    ap (λ xs. cond (is_same j i && (p.destination == d)) (Arrived p ∷ xs) xs) (history_more i d seen more)
    ∙ prepended (is_same j i && (p.destination == d)) p (history_to i d seen) (history_to i d more)
history_more i d (NoPacket why ∷ seen) more = history_more i d seen more
history_more i d (Told way message ∷ seen) more = history_more i d seen more
history_more i d (Other protocol ∷ seen) more = history_more i d seen more
history_more i d (NotRead why ∷ seen) more = history_more i d seen more

-- a packet to another destination, or on another interface, is no part of the history
history_other : (i j : Interface) (d : ℕ) (seen : List Seen) (p : PacketValue) (answer : Answer) → (is_same j i && (p.destination == d)) ≡ false
    → history_to i d (seen ++ Fed j p answer ∷ []) ≡ history_to i d seen
history_other i j d seen p answer other = history_more i d seen (Fed j p answer ∷ []) ∙ rw other (append-nil (history_to i d seen))

history_same : (i j : Interface) (d : ℕ) (seen : List Seen) (p : PacketValue) (answer : Answer) → (is_same j i && (p.destination == d)) ≡ true
    → history_to i d (seen ++ Fed j p answer ∷ []) ≡ after (history_to i d seen) (Arrived p)
history_same i j d seen p answer same = history_more i d seen (Fed j p answer ∷ []) ∙ rw same refl

both : (a b : Bool) → (a && b) ≡ true → (a ≡ true) × (b ≡ true)
both true b e = (refl, e)
both false b e = absurd (true≢false (sym e))

fed_given : (old new : Stations) (seen : List Seen) (j : Interface) (p : PacketValue) (answer : Answer) → AreGiven old (λ i d. history_to i d seen)
    → IsFedAt old new j p answer → AreGiven new (λ i d. history_to i d (seen ++ Fed j p answer ∷ []))
fed_given old new seen j p answer given fed i d = elim (cases_Bool (is_same j i && (p.destination == d))) [
  | inl same ↦
      let (on, to_) = both (is_same j i) (p.destination == d) same in
      let to : p.destination ≡ d = grind (arith, nat_tests) in
      let place = same_place j i p.destination d on to in
      let was : HasBeenGiven (station_at old j p.destination) (history_to i d seen) =
      subst (λ (k : ℕ × ℕ × ℕ). HasBeenGiven (get place_cmp old.by_place k) (history_to i d seen)) (sym place) (given i d) in
      subst (λ (k : ℕ × ℕ × ℕ). HasBeenGiven (get place_cmp new.by_place k) (history_to i d (seen ++ Fed j p answer ∷ []))) place
      (rw (history_same i j d seen p answer same) (fed.given (history_to i d seen) was))
  | inr other ↦ rw (fed.others i d other, history_other i j d seen p answer other) (given i d)
]

-- what no station is given changes no history
kept : (old new : Stations) (seen : List Seen) (s : Seen) → ((i : Interface) (d : ℕ) → history_to i d (s ∷ []) ≡ []) → new ≡ old
    → AreGiven old (λ i d. history_to i d seen) → AreGiven new (λ i d. history_to i d (seen ++ s ∷ []))
kept old new seen s none same given i d = rw (same, history_more i d seen (s ∷ []), none i d, append-nil (history_to i d seen)) (given i d)

-- one entry more
pub one_more : (unit : ℕ) (entries : List EntryValue) (seen : List Seen) (old new : Stations) (e : EntryValue) (s : Seen)
    → HaveSeen unit entries seen old → Sees unit old new e s → HaveSeen unit (entries ++ e ∷ []) (seen ++ s ∷ []) new
one_more unit entries seen old new e (Fed i p answer) before sees = record {
  are = More entries seen e (Fed i p answer) before.are
      (sees.0, sees.1, sees.2, sees.3.hears (history_to i p.destination seen) (before.given i p.destination));
  given = fed_given old new seen i p answer before.given sees.3;
}
one_more unit entries seen old new e (NoPacket why) before sees = record {
  are = More entries seen e (NoPacket why) before.are (sees.0, sees.1);
  given = kept old new seen (NoPacket why) (λ i d. refl) sees.2 before.given;
}
one_more unit entries seen old new e (Told way message) before sees = record {
  are = More entries seen e (Told way message) before.are (sees.0, sees.1, sees.2);
  given = kept old new seen (Told way message) (λ i d. refl) sees.3 before.given;
}
one_more unit entries seen old new e (Other protocol) before sees = record {
  are = More entries seen e (Other protocol) before.are sees.0;
  given = kept old new seen (Other protocol) (λ i d. refl) sees.1 before.given;
}
one_more unit entries seen old new e (NotRead why) before sees = record {
  are = More entries seen e (NotRead why) before.are sees.0;
  given = kept old new seen (NotRead why) (λ i d. refl) sees.1 before.given;
}

-- why bytes were refused
pub no_packet_for : {T : Type 0} (unit : ℕ) (why : PacketError) (bytes : List ℕ) (result : Result T PacketError) → result ≡ Err why
    → (result ≡ Err packet.Short → refusals.IsShort bytes) → (result ≡ Err packet.Empty → ¬ refusals.IsShort bytes × refusals.IsEmpty bytes)
    → (result ≡ Err packet.Long → refusals.IsLong unit bytes)
    → (result ≡ Err packet.Version → ¬ refusals.IsShort bytes × ¬ refusals.IsEmpty bytes × ¬ refusals.IsLong unit bytes × refusals.HasOtherVersion bytes)
    → IsNoPacketFor unit why bytes
no_packet_for unit packet.Short bytes result is short empty long version = short is
no_packet_for unit packet.Empty bytes result is short empty long version = empty is
no_packet_for unit packet.Long bytes result is short empty long version = long is
no_packet_for unit packet.Version bytes result is short empty long version = version is

-- the next entry of a list
pub next_seen : (unit : ℕ) (items : List Entry) (i : ℕ) (item : Entry) (seen : List Seen) (old new : Stations) (s : Seen) → i < length items → item ≡ get_or items i item
    → HaveSeen unit (map entry_value (take i items)) seen old → Sees unit old new (entry_value item) s
    → HaveSeen unit (map entry_value (take (i + 1) items)) (seen ++ s ∷ []) new
next_seen unit items i item seen old new s within is before sees =
    let same : take (i + 1) items ≡ take i items ++ item ∷ [] = take_more items i item within ∙ ap (λ x. take i items ++ x ∷ []) (sym is) in
    let mapped : map entry_value (take (i + 1) items) ≡ map entry_value (take i items) ++ entry_value item ∷ [] =
    ap (λ es. map entry_value es) same ∙ map-append entry_value (take i items) (item ∷ []) in
    subst (λ es. HaveSeen unit es (seen ++ s ∷ []) new) (sym mapped) (one_more unit (map entry_value (take i items)) seen old new (entry_value item) s before sees)
