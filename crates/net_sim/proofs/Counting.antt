-- What a counter of a key tells after a write.
use Rattle.std.{proofs.Common.{◌≡◌, ◌≢◌, ℕ, All, ◌+◌, ◌*◌, ◌<◌, ◌≤◌, List, length, map, get_or, Result, Ok, Err, Bool, true, false, Option, Some, None, is_some, inl, inr, refl, sym, ap, ◌∙◌, subst, arith, true≢false, ◌==◌, ◌&&◌, nat_lt}, specs.Prelude.{option_map, option_and_then, slice_get, slice_set, if◌then◌else◌, IfOk}, specs.Bool.{beq}, specs.Cmp.{booleans_Decides}, proofs.lemmas.Bool.{cases_lt, lt-ltb}, proofs.lemmas.Bool.Decides.{eqb_tells, Decides-eqb}, proofs.lemmas.List.{get_or-map, length-map, get_or_default, get_or-set_same, get_or-set_other, length-set}, proofs.lemmas.Option.{slice_get-get_or, slice_get_past, slice_get_within, same_Some}}
use Rattle.mctp_transport.{specs.PacketValues.{KeyValue, bit}, specs.Histories.{same_key}, specs.declared.address.Eid.{Eid}}
use Rattle.plan_values.specs.declared.nodes.Node.{Node}
use Rattle.net_sim.{specs.declared.key_counts.KnownEids.{KnownEids}, specs.KeyCounts.{if_there, known_at, place_of, are_these}}

-- ---- options

then_some : {A B : Type 0} (f : A → Option B) (o : Option A) (b : B) → option_and_then f o ≡ Some b → (a : A) × (o ≡ Some a) × (f a ≡ Some b)
then_some f None b e = absurd (cc)
then_some f (Some a) b e = (a, refl, e)

pub map_some : {A B : Type 0} (f : A → B) (o : Option A) (b : B) → option_map f o ≡ Some b → (a : A) × (o ≡ Some a) × (f a ≡ b)
map_some f None b e = absurd (cc)
map_some f (Some a) b e = (a, refl, same_Some (f a) b e)

if_some : {A : Type 0} (t : Bool) (a b : A) → (if t then Some a else None) ≡ Some b → (t ≡ true) × (a ≡ b)
if_some true a b e = (refl, same_Some a b e)
if_some false a b e = absurd (cc)

both : (a b : Bool) → (a && b) ≡ true → (a ≡ true) × (b ≡ true)
both true true e = (refl, refl)
both true false e = absurd (true≢false (sym e))
both false b e = absurd (true≢false (sym e))

below : (a b : ℕ) → nat_lt a b ≡ true → a < b
below a b e = elim (cases_lt a b) [
  | inl less ↦ less
  | inr more ↦ grind (arith, e)
]

-- ---- places

there : (eids : List Eid) (e i j : ℕ) → if_there eids e i ≡ Some j → (eid : Eid) × (slice_get eids j ≡ Some eid) × (eid.value ≡ e) × (j < 64)
there eids e i j is =
    let a = then_some (λ (eid : Eid). if nat_lt i 64 && (eid.value == e) then Some i else None) (slice_get eids i) j is in
    let b = if_some (nat_lt i 64 && (a.0.value == e)) i j a.2 in
    let c = both (nat_lt i 64) (a.0.value == e) b.0 in
    (a.0, ap (slice_get eids) (sym b.1) ∙ a.1, (Decides-eqb a.0.value e).0 c.1, subst (λ n. n < 64) b.1 (below i 64 c.0))

known_there : (known : KnownEids) (e j : ℕ) → known_at known e ≡ Some j → (eid : Eid) × (slice_get known.eids.items j ≡ Some eid) × (eid.value ≡ e) × (j < 64)
known_there known e j is =
    let a = then_some (if_there known.eids.items e) (slice_get known.hints.items e) j is in
    there known.eids.items e a.0 j a.2

known_once : (known : KnownEids) (e f j : ℕ) → known_at known e ≡ Some j → known_at known f ≡ Some j → e ≡ f
known_once known e f j a b =
    let p = known_there known e j a in
    let q = known_there known f j b in
    let same : p.0 ≡ q.0 = same_Some p.0 q.0 (sym p.1 ∙ q.1) in
    sym p.2 ∙ ap (λ (eid : Eid). eid.value) same ∙ q.2

bits : (a b : Bool) → bit a ≡ bit b → a ≡ b
bits true true e = refl
bits true false e = absurd (omega (arith, e))
bits false true e = absurd (omega (arith, e))
bits false false e = refl

bit_below : (a : Bool) → bit a < 2
bit_below true = omega arith
bit_below false = omega arith

place : (sources destinations : KnownEids) (k : KeyValue) (d p : ℕ) → place_of sources destinations k d ≡ Some p
    → (i : ℕ) × (j : ℕ) × (known_at destinations d ≡ Some i) × (known_at sources k.source ≡ Some j) × (1024 * i + 16 * j + 2 * k.tag + bit k.owner ≡ p)
place sources destinations k d p is =
    let a = then_some (λ i. option_map (λ j. 1024 * i + 16 * j + 2 * k.tag + bit k.owner) (known_at sources k.source)) (known_at destinations d) p is in
    let b = map_some (λ j. 1024 * a.0 + 16 * j + 2 * k.tag + bit k.owner) (known_at sources k.source) p a.2 in
    (a.0, b.0, a.1, b.1, b.2)

-- no two keys have one place
pub place_once : (sources destinations : KnownEids) (k l : KeyValue) (d e p : ℕ) → k.tag < 8 → l.tag < 8
    → place_of sources destinations k d ≡ Some p → place_of sources destinations l e ≡ Some p → are_these k d l e ≡ true
place_once sources destinations k l d e p few least first second =
    let a = place sources destinations k d p first in
    let b = place sources destinations l e p second in
    let ja = known_there sources k.source a.1 a.3 in
    let jb = known_there sources l.source b.1 b.3 in
    let oa = bit_below k.owner in
    let ob = bit_below l.owner in
    let i : a.0 ≡ b.0 = omega (arith, a.4, b.4, ja.3, jb.3, few, least, oa, ob) in
    let j : a.1 ≡ b.1 = omega (arith, a.4, b.4, ja.3, jb.3, few, least, oa, ob, i) in
    let tag : k.tag ≡ l.tag = omega (arith, a.4, b.4, few, least, oa, ob, i, j) in
    let owner : k.owner ≡ l.owner = bits k.owner l.owner (omega (arith, a.4, b.4, i, j, tag)) in
    let source : k.source ≡ l.source = known_once sources k.source l.source b.1 (a.3 ∙ ap Some j) b.3 in
    let destination : d ≡ e = known_once destinations d e b.0 (a.2 ∙ ap Some i) b.2 in
    rw ((Decides-eqb k.source l.source).1 source, (Decides-eqb k.tag l.tag).1 tag, (booleans_Decides k.owner l.owner).1 owner, (Decides-eqb d e).1 destination) refl

-- where the test holds they are the same
pub these_are : (k l : KeyValue) (d e : ℕ) → are_these k d l e ≡ true → (k ≡ l) × (d ≡ e)
these_are k l d e is =
    let a = both (same_key k l) (d == e) is in
    let b = both (k.source == l.source) ((k.tag == l.tag) && beq k.owner l.owner) a.0 in
    let c = both (k.tag == l.tag) (beq k.owner l.owner) b.1 in
    let source : k.source ≡ l.source = (Decides-eqb k.source l.source).0 b.0 in
    let tag : k.tag ≡ l.tag = (Decides-eqb k.tag l.tag).0 c.0 in
    let owner : k.owner ≡ l.owner = (booleans_Decides k.owner l.owner).0 c.1 in
    (ap (λ (s : ℕ). record k { source = s }) source ∙ ap (λ (t : ℕ). record k { source = l.source; tag = t }) tag ∙ ap (λ (o : Bool). record l { owner = o }) owner, (Decides-eqb d e).0 a.1)

-- ---- writes

module _ (sources destinations : KnownEids) (counts : List ℕ) (k : KeyValue) (d : ℕ) (f : ℕ → ℕ) where
  abbrev at_key : List ℕ → KeyValue → ℕ → Option ℕ
  at_key counts l e = option_and_then (slice_get counts) (place_of sources destinations l e)

  abbrev pub IsCountedBy : List ℕ → Type 0
  IsCountedBy after = (l : KeyValue) (e : ℕ) → l.tag < 8 → at_key after l e ≡ (if are_these k d l e then option_map f (at_key counts l e) else at_key counts l e)

  -- what is not counted stays so
  pub not_counted : at_key counts k d ≡ None → IsCountedBy counts
  not_counted none l e few = by (are_these k d l e) refl
    where
      by : (b : Bool) → are_these k d l e ≡ b → at_key counts l e ≡ (if b then option_map f (at_key counts l e) else at_key counts l e)
      by false is = refl
      by true is =
          let same = these_are k l d e is in
          let gone : at_key counts l e ≡ None = ap (λ (m : KeyValue). at_key counts m e) (sym same.0) ∙ ap (at_key counts k) (sym same.1) ∙ none in
          rw gone refl

  -- one counter is written
  pub counted : (p v : ℕ) → k.tag < 8 → place_of sources destinations k d ≡ Some p → p < length counts → f (get_or counts p 0) ≡ v → IsCountedBy (slice_set counts p v)
  counted p v least own within is l e few = by (are_these k d l e) refl
    where
      other : (o : Option ℕ) → place_of sources destinations l e ≡ o → are_these k d l e ≡ false → option_and_then (slice_get (slice_set counts p v)) o ≡ option_and_then (slice_get counts) o
      other None at not = refl
      other (Some q) at not = elim (eqb_tells q p) [
        | inl same ↦ absurd (true≢false (sym (place_once sources destinations k l d e p least few own (at ∙ ap Some same.1)) ∙ not))
        | inr apart ↦ elim (cases_lt q (length counts)) [
          | inl low ↦ slice_get-get_or (slice_set counts p v) q 0 (omega (arith, low, length-set counts p v)) ∙ ap Some (get_or-set_other counts p q v 0 apart.1) ∙ sym (slice_get-get_or counts q 0 low)
          | inr past ↦ slice_get_past (slice_set counts p v) q (omega (arith, past, length-set counts p v)) ∙ sym (slice_get_past counts q past)
        ]
      ]

      by : (b : Bool) → are_these k d l e ≡ b → at_key (slice_set counts p v) l e ≡ (if b then option_map f (at_key counts l e) else at_key counts l e)
      by false not = other (place_of sources destinations l e) refl not
      by true holds =
          let same = these_are k l d e holds in
          let at : place_of sources destinations l e ≡ Some p = ap (λ (m : KeyValue). place_of sources destinations m e) (sym same.0) ∙ ap (place_of sources destinations k) (sym same.1) ∙ own in
          ap (option_and_then (slice_get (slice_set counts p v))) at
          ∙ slice_get-get_or (slice_set counts p v) p 0 (omega (arith, within, length-set counts p v)) ∙ ap Some (get_or-set_same counts p v 0 within ∙ sym is)
          ∙ sym (ap (λ (o : Option ℕ). option_map f (option_and_then (slice_get counts) o)) at ∙ ap (option_map f) (slice_get-get_or counts p 0 within))

-- ---- hints

-- each of the first endpoint IDs is found
abbrev pub AreHinted : List Eid → List ℕ → ℕ → Type 0
AreHinted eids hints n = (j : ℕ) (d : Eid) → j < n → (i : ℕ) × (slice_get hints (get_or eids j d).value ≡ Some i) × (i < 64) × (i < length eids) × ((get_or eids i d).value ≡ (get_or eids j d).value)

pub hint_more : (eids : List Eid) (hints : List ℕ) (n e : ℕ) (d : Eid) → n < length eids → n < 64 → (get_or eids n d).value ≡ e → e < length hints
    → AreHinted eids hints n → AreHinted eids (slice_set hints e n) (n + 1)
hint_more eids hints n e x within few is low before j d less = elim (eqb_tells (get_or eids j d).value e) [
  | inl same ↦ (n, ap (slice_get (slice_set hints e n)) same.1 ∙ slice_get-get_or (slice_set hints e n) e 0 (omega (arith, low, length-set hints e n)) ∙ ap Some (get_or-set_same hints e n 0 low), few, within, ap (λ (eid : Eid). eid.value) (get_or_default eids n d x within) ∙ is ∙ sym same.1)
  | inr other ↦
      let not : j ≢ n = λ at. other.1 (ap (λ (i : ℕ). (get_or eids i d).value) at ∙ ap (λ (eid : Eid). eid.value) (get_or_default eids n d x within) ∙ is) in
      let old = before j d (omega (arith, less, not)) in
      let f = (get_or eids j d).value in
      (old.0, kept_hint hints e n f old.0 other.1 old.1, old.2, old.3, old.4)
]
  where
    kept_hint : (hints : List ℕ) (e n f i : ℕ) → f ≢ e → slice_get hints f ≡ Some i → slice_get (slice_set hints e n) f ≡ Some i
    kept_hint hints e n f i other at =
        let low : f < length hints = slice_get_within hints f i at in
        slice_get-get_or (slice_set hints e n) f 0 (omega (arith, low, length-set hints e n)) ∙ ap Some (get_or-set_other hints e f n 0 other) ∙ sym (slice_get-get_or hints f 0 low) ∙ at

pub all_known : (known : KnownEids) (eids : List Eid) (n : ℕ) → known.eids.items ≡ eids → n ≡ length eids → AreHinted eids known.hints.items n → All (λ eid. is_some (known_at known eid.value) ≡ true) eids
all_known known eids n same whole hinted = λ j d within.
    let h = hinted j d (omega (arith, within, whole)) in
    let e = (get_or eids j d).value in
    let read : slice_get known.eids.items h.0 ≡ Some (get_or eids h.0 d) = ap (λ (xs : List Eid). slice_get xs h.0) same ∙ slice_get-get_or eids h.0 d h.3 in
    let small : nat_lt h.0 64 ≡ true = lt-ltb h.0 64 h.2 in
    let yes : ((get_or eids h.0 d).value == e) ≡ true = (Decides-eqb _ _).1 h.4 in
    ap (λ (o : Option ℕ). is_some (option_and_then (if_there known.eids.items e) o)) h.1
    ∙ ap (λ (o : Option Eid). is_some (option_and_then (λ (eid : Eid). if nat_lt h.0 64 && (eid.value == e) then Some h.0 else None) o)) read
    ∙ rw (small, yes) refl

-- the endpoint IDs of nodes
pub nodes_known : {E : Type 0} (r : Result KnownEids E) (nodes : List Node) (eids : List Eid) → eids ≡ map (λ (node : Node). node.eid) nodes
    → IfOk r (λ known. length eids ≤ 64 → All (λ eid. is_some (known_at known eid.value) ≡ true) eids)
    → IfOk r (λ known. length nodes ≤ 64 → All (λ node. is_some (known_at known node.eid.value) ≡ true) nodes)
nodes_known (Err e) nodes eids is found = tt
nodes_known (Ok known) nodes eids is found = λ few j d within.
    let count : length eids ≡ length nodes = ap (length {A = Eid}) is ∙ length-map nodes (λ (node : Node). node.eid) in
    let here = found (omega (arith, few, count)) j d.eid (omega (arith, within, count)) in
    let read : get_or eids j d.eid ≡ (get_or nodes j d).eid = ap (λ (es : List Eid). get_or es j d.eid) is ∙ get_or-map (λ (node : Node). node.eid) nodes j d d.eid within in
    subst (λ (eid : Eid). is_some (known_at known eid.value) ≡ true) read here
