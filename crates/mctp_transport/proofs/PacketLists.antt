-- The packets of a message: there is one list of them, they join to the message, and the iterator gives them.
use Rattle.std.{proofs.Common.{◌≡◌, ◌⊎◌, ℕ, zero, suc, ◌+◌, ◌%◌, ◌<◌, ◌≤◌, Bool, true, false, cond, nat_eq, nat_le, List, [], ◌∷◌, ◌++◌, length, take, drop, map, slice_get, Some, refl, sym, ap, ◌∙◌, arith, subst, inl, inr}, specs.List.{concat}, proofs.lemmas.Bool.{cases_lt, ne_eqb}, proofs.lemmas.Bool.Decides.{nat_tests}, proofs.lemmas.Option.{same_Some, none-some, slice_get_within}, proofs.lemmas.List.{length-map, length-take, length-drop, take-append-drop}}
use Rattle.mctp_transport.{specs.PacketValues.{PacketValue, KeyValue, key_of}, specs.Messages.{EachPacket, Joined, payloads_of}, specs.Cutting.{IsCut, ArePacketsOf}, specs.PacketsLeft.{cut}, proofs.PacketsLeftLaws.{first_of, later_of}, proofs.Cuts.{cut_nothing, cut_more, cut_some, some_payloads, same_cuts}}

abbrev payloads : List PacketValue → List (List ℕ)
payloads fs = map (λ f. f.payload) fs

-- the headers are equal
record SameHeader (f g : PacketValue) : Type 0 where
  reserved : f.reserved ≡ g.reserved
  destination : f.destination ≡ g.destination
  key : key_of f ≡ key_of g
  som : f.som ≡ g.som
  eom : f.eom ≡ g.eom
  number : f.number ≡ g.number

same_frame : (f g : PacketValue) → f.payload ≡ g.payload → SameHeader f g → f ≡ g
same_frame f g p h =
    let r = h.reserved in
    let d = h.destination in
    let k = h.key in
    let a = h.som in
    let b = h.eom in
    let n = h.number in
    λ i. record { reserved = r i; destination = d i; source = (k i).source; som = a i; eom = b i; number = n i; owner = (k i).owner; tag = (k i).tag; payload = p i }

same_frames : (fs gs : List PacketValue) → payloads fs ≡ payloads gs
    → ((i : ℕ) (f g : PacketValue) → slice_get fs i ≡ Some f → slice_get gs i ≡ Some g → SameHeader f g) → fs ≡ gs
same_frames [] [] e same = refl
same_frames [] (g ∷ gs) e same = absurd (cc)
same_frames (f ∷ fs) [] e same = absurd (cc)
same_frames (f ∷ fs) (g ∷ gs) e same =
    let p : f.payload ≡ g.payload = cc in
    let rest : payloads fs ≡ payloads gs = cc in
    let here : f ≡ g = same_frame f g p (same 0 f g refl refl) in
    let more = same_frames fs gs rest (λ i x y a b. same (suc i) x y a b) in
    cc

pub payloads_length : (fs : List PacketValue) → length (payloads fs) ≡ length fs
payloads_length fs = length-map fs (λ f. f.payload)

pub same_packets : (unit : ℕ) (message : List ℕ) (destination : ℕ) (key : KeyValue) (start : ℕ) (fs gs : List PacketValue)
    → ArePacketsOf unit message destination key start fs → ArePacketsOf unit message destination key start gs → fs ≡ gs
same_packets unit message destination key start fs gs x y =
    let e = same_cuts unit message (payloads fs) (payloads gs) x.cut y.cut in
    let long : length fs ≡ length gs = sym (payloads_length fs) ∙ ap length e ∙ payloads_length gs in
    same_frames fs gs e (λ i f g a b. record {
      reserved = x.reserved i f a ∙ sym (y.reserved i g b);
      destination = x.addressed i f a ∙ sym (y.addressed i g b);
      key = x.of_key i f a ∙ sym (y.of_key i g b);
      som = x.som i f a ∙ sym (y.som i g b);
      eom = x.eom i f a ∙ ap (λ n. nat_eq (i + 1) n) long ∙ sym (y.eom i g b);
      number = x.numbers i f a ∙ sym (y.numbers i g b);
    })

pub payload_at : (fs : List PacketValue) (i : ℕ) (f : PacketValue) → slice_get fs i ≡ Some f → slice_get (payloads fs) i ≡ Some f.payload
payload_at [] i f a = absurd (none-some f a)
payload_at (g ∷ fs) zero f a = ap (λ (x : PacketValue). Some x.payload) (same_Some g f a)
payload_at (g ∷ fs) (suc i) f a = payload_at fs i f a

pub joined_payloads : (fs : List PacketValue) → concat (payloads fs) ≡ payloads_of fs
joined_payloads [] = refl
joined_payloads (f ∷ fs) = ap (λ xs. f.payload ++ xs) (joined_payloads fs)

pub last_or_not : (i n : ℕ) → i < n → (i + 1 < n) ⊎ (i + 1 ≡ n)
last_or_not i n h = grind arith

-- no payload is longer than the unit
pub within_unit : (unit : ℕ) (message : List ℕ) (ps : List (List ℕ)) (i : ℕ) (p : List ℕ) → IsCut unit message ps → i < length ps → slice_get ps i ≡ Some p → length p ≤ unit
within_unit unit message ps i p c inside a = elim (last_or_not i (length ps) inside) [
  | inl h ↦ let e = c.full i p a h in omega arith
  | inr h ↦ (c.last i p a h).1
]

-- the packets of a message join to it
pub packets_join : (unit : ℕ) (message : List ℕ) (destination : ℕ) (key : KeyValue) (start : ℕ) (fs : List PacketValue)
    → 0 < length message → ArePacketsOf unit message destination key start fs → Joined fs message
packets_join unit message destination key start fs some x =
    let long = payloads_length fs in
    let any = some_payloads unit message (payloads fs) x.cut some in
    record {
      some = omega arith;
      one_key = λ i p q a b. x.of_key i q b ∙ sym (x.of_key 0 p a);
      start = x.som;
      finish = x.eom;
      numbers = λ i p q a b. let m = x.numbers i p a in let n = x.numbers (i + 1) q b in omega arith;
      middle = λ i p q a b inside.
          let first = x.cut.full 0 p.payload (payload_at fs 0 p a) (omega arith) in
          x.cut.full i q.payload (payload_at fs i q b) (omega arith) ∙ sym first;
      last = λ i p q a b.
          let inside = slice_get_within fs i q b in
          let most = within_unit unit message (payloads fs) i q.payload x.cut (omega arith) (payload_at fs i q b) in
          elim (last_or_not 0 (length fs) (omega arith)) [
            | inl h ↦ let full = x.cut.full 0 p.payload (payload_at fs 0 p a) (omega arith) in omega arith
            | inr h ↦
                let at : i ≡ 0 = omega arith in
                let same : q ≡ p = same_Some q p (sym (subst (λ n. slice_get fs n ≡ Some q) at b) ∙ a) in
                omega (arith, ap (λ (f : PacketValue). length f.payload) same)
          ];
      whole = x.cut.whole ∙ joined_payloads fs;
    }

-- what the iterator has left, index by index
record AreLeft (unit : ℕ) (f : PacketValue) (fs : List PacketValue) : Type 0 where
  pub cut : IsCut unit f.payload (payloads fs)
  pub addressed : EachPacket fs (λ i g. g.destination ≡ f.destination)
  pub of_key : EachPacket fs (λ i g. key_of g ≡ key_of f)
  pub numbers : EachPacket fs (λ i g. g.number ≡ (f.number + i) % 4)
  pub som : EachPacket fs (λ i g. g.som ≡ cond (nat_eq i 0) f.som false)
  pub eom : EachPacket fs (λ i g. g.eom ≡ nat_eq (i + 1) (length fs))
  pub reserved : EachPacket fs (λ i g. g.reserved ≡ f.reserved)

left_none : (unit : ℕ) (f : PacketValue) → length f.payload ≡ 0 → AreLeft unit f []
left_none unit f e = record {
  cut = subst (λ m. IsCut unit m []) (empty f.payload e) (cut_nothing unit);
  addressed = λ i g a. absurd (none-some g a);
  of_key = λ i g a. absurd (none-some g a);
  numbers = λ i g a. absurd (none-some g a);
  som = λ i g a. absurd (none-some g a);
  eom = λ i g a. absurd (none-some g a);
  reserved = λ i g a. absurd (none-some g a);
}
  where
    empty : (xs : List ℕ) → length xs ≡ 0 → [] ≡ xs
    empty [] e = refl
    empty (x ∷ xs) e = absurd (omega arith)

-- the bytes fit one packet exactly where no packet is left after it
last_packet : (unit n k : ℕ) → (n ≤ unit → k ≡ 0) → (unit < n → 0 < k) → nat_le n unit ≡ nat_eq (0 + 1) (suc k)
last_packet unit n k none some = elim (cases_lt unit n) [
  | inl h ↦ let more = some h in rw (too_many unit n h) (not_one k more)
  | inr h ↦ let e = none h in rw (enough unit n h, e) refl
]
  where
    too_many : (unit n : ℕ) → unit < n → nat_le n unit ≡ false
    too_many unit n h = grind (arith, nat_tests)

    enough : (unit n : ℕ) → n ≤ unit → nat_le n unit ≡ true
    enough unit n h = grind (arith, nat_tests)

    not_one : (k : ℕ) → 0 < k → false ≡ nat_eq (0 + 1) (suc k)
    not_one k h = grind (arith, nat_tests)

cond_same : (b : Bool) → cond b false false ≡ false
cond_same true = refl
cond_same false = refl

later_start : (i : ℕ) (b : Bool) → false ≡ cond (nat_eq (suc i) 0) b false
later_start i b = rw (ne_eqb (suc i) 0 (λ e. omega arith)) refl

later_end : (i n : ℕ) → nat_eq (i + 1) n ≡ nat_eq (suc i + 1) (suc n)
later_end i n = grind (arith, nat_tests)

-- one more packet, which begins with the bytes that are left
left_more : (unit : ℕ) (f : PacketValue) (fs : List PacketValue) → 0 < unit → f.number < 4 → 0 < length f.payload → AreLeft unit (later_of unit f) fs
    → AreLeft unit f (first_of unit f ∷ fs)
left_more unit f fs wide small some left =
    let size = length-take unit f.payload in
    let rest = length-drop unit f.payload in
    let long = payloads_length fs in
    record {
      cut = subst (λ m. IsCut unit m (take unit f.payload ∷ payloads fs)) (take-append-drop unit f.payload)
          (cut_more unit (take unit f.payload) (drop unit f.payload) (payloads fs) left.cut (omega arith) (omega arith)
          (λ any. let more = cut_some unit (drop unit f.payload) (payloads fs) left.cut any in omega arith));
      addressed = addressed_at;
      of_key = key_at;
      numbers = number_at;
      som = som_at;
      eom = eom_at;
      reserved = reserved_at;
    }
  where
    none_after : length f.payload ≤ unit → length fs ≡ 0
    none_after fits = elim (cases_lt 0 (length fs)) [
      | inl h ↦
          let more = cut_some unit (drop unit f.payload) (payloads fs) left.cut (omega (arith, payloads_length fs)) in
          absurd (omega (arith, length-drop unit f.payload))
      | inr h ↦ omega arith
    ]

    addressed_at : (i : ℕ) (g : PacketValue) → slice_get (first_of unit f ∷ fs) i ≡ Some g → g.destination ≡ f.destination
    addressed_at zero g a = ap (λ (x : PacketValue). x.destination) (sym (same_Some (first_of unit f) g a))
    addressed_at (suc i) g a = left.addressed i g a

    key_at : (i : ℕ) (g : PacketValue) → slice_get (first_of unit f ∷ fs) i ≡ Some g → key_of g ≡ key_of f
    key_at zero g a = ap key_of (sym (same_Some (first_of unit f) g a))
    key_at (suc i) g a = left.of_key i g a

    number_at : (i : ℕ) (g : PacketValue) → slice_get (first_of unit f ∷ fs) i ≡ Some g → g.number ≡ (f.number + i) % 4
    number_at zero g a = let e = ap (λ (x : PacketValue). x.number) (sym (same_Some (first_of unit f) g a)) in omega arith
    number_at (suc i) g a = let e = left.numbers i g a in omega arith

    som_at : (i : ℕ) (g : PacketValue) → slice_get (first_of unit f ∷ fs) i ≡ Some g → g.som ≡ cond (nat_eq i 0) f.som false
    som_at zero g a = ap (λ (x : PacketValue). x.som) (sym (same_Some (first_of unit f) g a))
    som_at (suc i) g a = left.som i g a ∙ cond_same (nat_eq i 0) ∙ later_start i f.som

    eom_at : (i : ℕ) (g : PacketValue) → slice_get (first_of unit f ∷ fs) i ≡ Some g → g.eom ≡ nat_eq (i + 1) (length (first_of unit f ∷ fs))
    eom_at zero g a =
        let rest = length-drop unit f.payload in
        let long = payloads_length fs in
        ap (λ (x : PacketValue). x.eom) (sym (same_Some (first_of unit f) g a))
        ∙ last_packet unit (length f.payload) (length fs)
        (λ fits. none_after fits)
        (λ over. let more = some_payloads unit (drop unit f.payload) (payloads fs) left.cut (omega arith) in omega arith)
    eom_at (suc i) g a = left.eom i g a ∙ later_end i (length fs)

    reserved_at : (i : ℕ) (g : PacketValue) → slice_get (first_of unit f ∷ fs) i ≡ Some g → g.reserved ≡ f.reserved
    reserved_at zero g a = ap (λ (x : PacketValue). x.reserved) (sym (same_Some (first_of unit f) g a))
    reserved_at (suc i) g a = left.reserved i g a

cut_left : (unit n : ℕ) (f : PacketValue) → 0 < unit → f.number < 4 → length f.payload ≤ n → AreLeft unit f (cut unit n f)
unfolding cut
cut_left unit zero f wide small fits = left_none unit f (omega arith)
cut_left unit (suc n) f wide small fits =
    by (λ some. cut_left unit n (later_of unit f) wide (omega arith) (omega (arith, length-drop unit f.payload))) (nat_eq (length f.payload) 0) refl
  where
    by : (0 < length f.payload → AreLeft unit (later_of unit f) (cut unit n (later_of unit f))) → (b : Bool) → nat_eq (length f.payload) 0 ≡ b
        → AreLeft unit f (cond b [] (first_of unit f ∷ cut unit n (later_of unit f)))
    by rest true e = left_none unit f (grind (arith, nat_tests, e))
    by rest false e =
        let some : 0 < length f.payload = grind (arith, nat_tests, e) in
        left_more unit f (cut unit n (later_of unit f)) wide small some (rest some)

-- with all bytes left, SOM set and the reserved bits 0, these are the message's packets
pub all_packets : (unit : ℕ) (f : PacketValue) → 0 < unit → f.number < 4 → f.som ≡ true → f.reserved ≡ 0
    → ArePacketsOf unit f.payload f.destination (key_of f) f.number (cut unit (length f.payload) f)
all_packets unit f wide small starts clear =
    let left = cut_left unit (length f.payload) f wide small (omega arith) in
    record {
      cut = left.cut;
      addressed = left.addressed;
      of_key = left.of_key;
      numbers = left.numbers;
      som = λ i g a. left.som i g a ∙ ap (λ b. cond (nat_eq i 0) b false) starts ∙ cond_is (nat_eq i 0);
      eom = left.eom;
      reserved = λ i g a. left.reserved i g a ∙ clear;
    }
  where
    cond_is : (b : Bool) → cond b true false ≡ b
    cond_is true = refl
    cond_is false = refl
