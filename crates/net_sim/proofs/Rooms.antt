-- The rooms for the payloads of packets that are cut: how many they take, and what is left once one is taken.
use Rattle.std.{proofs.Common.{◌≡◌, ℕ, zero, suc, ◌+◌, ◌*◌, ◌<◌, ◌≤◌, All, List, [], ◌∷◌, ◌++◌, length, map, get_or, Some, refl, ap, ◌∙◌, subst, inl, inr, arith, length-append}, specs.Prelude.{Vec, option_map, slice_get}, specs.List.{concat}, proofs.lemmas.Bool.{cases_eq}, proofs.lemmas.List.{length_push, get_or_push, get_or_append_left}, proofs.lemmas.List.Elements.{All-head, All-tail}, proofs.lemmas.Option.{same_Some, none-some, slice_get-map, slice_get-get_or, slice_get_within}}
use Rattle.mctp_transport.{specs.PacketValues.{PacketValue, KeyValue}, specs.Cutting.{IsCut, ArePacketsOf}, proofs.Sending.{few_packets}}
use Rattle.net_sim.specs.Payloads.{IsRoomFor, HaveRooms}

-- a part is no longer than the whole
part_within : (ps : List (List ℕ)) (i : ℕ) (p : List ℕ) → slice_get ps i ≡ Some p → length p ≤ length (concat ps)
part_within [] i p at = absurd (none-some p at)
part_within (q ∷ ps) zero p at = omega (arith, ap length (same_Some q p at), length-append q (concat ps))
part_within (q ∷ ps) (suc i) p at = let rest = part_within ps i p at in omega (arith, rest, length-append q (concat ps))

-- a payload is no longer than the unit
payload_within : (unit : ℕ) (message : List ℕ) (ps : List (List ℕ)) → IsCut unit message ps → (i : ℕ) (p : List ℕ) → slice_get ps i ≡ Some p → length p ≤ unit
payload_within unit message ps cut i p at = elim (cases_eq (i + 1) (length ps)) [
  | inl same ↦ (cut.last i p at same).1
  | inr other ↦ (let inside = slice_get_within ps i p at in omega (arith, cut.full i p at (omega (arith, other, inside))))
]

payload_at : (frames : List PacketValue) (k : ℕ) (d : PacketValue) → k < length frames → slice_get (map (λ (f : PacketValue). f.payload) frames) k ≡ Some ((get_or frames k d).payload)
payload_at frames k d within = slice_get-map (λ (f : PacketValue). f.payload) frames k ∙ ap (option_map (λ (f : PacketValue). f.payload)) (slice_get-get_or frames k d within)

module _ {Z : Type 0} (unit : ℕ) (message : List ℕ) (d : ℕ) (key : KeyValue) (start : ℕ) (frames : List PacketValue) (are : ArePacketsOf unit message d key start frames) (rooms : List (Vec ℕ Z)) where
  -- the packets of a short message need no room
  pub short_needs_none : length message ≤ 64 → HaveRooms frames rooms
  short_needs_none short = λ k e within long.
      let part = part_within (map (λ (f : PacketValue). f.payload) frames) k (get_or frames k e).payload (payload_at frames k e within) in
      absurd (omega (arith, long, short, part, ap length are.cut.whole))

  -- as many rooms for a payload as long as the unit as a message fills
  pub enough_rooms : (most : ℕ) → length message ≤ most → (64 < unit → most ≤ length rooms * unit) → All (IsRoomFor unit) rooms → HaveRooms frames rooms
  enough_rooms most few enough each = λ k e within long.
      let small = payload_within unit message (map (λ (f : PacketValue). f.payload) frames) are.cut k (get_or frames k e).payload (payload_at frames k e within) in
      let large : 64 < unit = omega (arith, long, small) in
      let covers = enough large in
      let many = few_packets unit (length rooms) message d key start frames are (omega (arith, few, covers)) in
      (many, λ j room inside over. (let (empty, holds) = each j room inside large in (empty, omega (arith, small, holds))))

-- what holds of each of a list holds of each before the last
all_before : {A : Type 0} (P : A → Type 0) (left : List A) (last : A) → All P (left ++ last ∷ []) → All P left
all_before P left last each k d within = subst P (get_or_append_left left (last ∷ []) d k within) (each k d (omega (arith, within, length_push left last)))

module _ {Z : Type 0} (f : PacketValue) (fs : List PacketValue) where
  module _ (left : List (Vec ℕ Z)) (room : Vec ℕ Z) (have : HaveRooms (f ∷ fs) (left ++ room ∷ [])) where
    -- the room that is taken off is for the first packet
    pub last_room : IsRoomFor (length f.payload) room
    last_room long =
        let P : PacketValue → Type 0 = λ g. 64 < length g.payload → (length (f ∷ fs) ≤ length (left ++ room ∷ [])) × All (IsRoomFor (length g.payload)) (left ++ room ∷ []) in
        let each = (All-head P f fs have long).1 in
        let last = each (length left) room (omega (arith, length_push left room)) in
        subst (IsRoomFor (length f.payload)) (get_or_push left room room (length left) refl) last long

    -- the others have the rest
    pub rooms_left : HaveRooms fs left
    rooms_left k d within long =
        let P : PacketValue → Type 0 = λ g. 64 < length g.payload → (length (f ∷ fs) ≤ length (left ++ room ∷ [])) × All (IsRoomFor (length g.payload)) (left ++ room ∷ []) in
        let (many, each) = All-tail P f fs have k d within long in
        (omega (arith, many, length_push left room), all_before (IsRoomFor (length (get_or fs k d).payload)) left room each)

  module _ (rooms : List (Vec ℕ Z)) (have : HaveRooms (f ∷ fs) rooms) (none : length rooms ≡ 0) where
    -- where there is no room, none is needed
    pub no_room : (room : Vec ℕ Z) → IsRoomFor (length f.payload) room
    no_room room long =
        let P : PacketValue → Type 0 = λ g. 64 < length g.payload → (length (f ∷ fs) ≤ length rooms) × All (IsRoomFor (length g.payload)) rooms in
        let many = (All-head P f fs have long).0 in
        absurd (omega (arith, many, none))

    pub none_left : (left : List (Vec ℕ Z)) → HaveRooms fs left
    none_left left k d within long =
        let P : PacketValue → Type 0 = λ g. 64 < length g.payload → (length (f ∷ fs) ≤ length rooms) × All (IsRoomFor (length g.payload)) rooms in
        let many = (All-tail P f fs have k d within long).0 in
        absurd (omega (arith, many, none))
