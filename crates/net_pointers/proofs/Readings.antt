-- What is read where a path of indices leads.
use Rattle.std.proofs.Common.{◌≡◌, ◌<◌, ℕ, zero, suc, List, [], ◌∷◌, length, get_or, Option, Some, None, option_map, option_and_then, refl, sym, ap, ◌∙◌, subst, arith}
use Rattle.json.{specs.Find.{BeginsWith, InItems, InMembers}, specs.Json.{Json, array, object, Items, no_items, item, Members, no_members, member, parse_map, after_end_array, skip_value, value}, specs.Strict.{keys}, specs.Token.{Token}, proofs.Found.{FirstOf, IsKey, Some_inj, items_close, items_go_on, members_close, members_go_on, members_short, not_found, one_reading, opened}, proofs.Grammar.{closed_array, value_is}}
use Rattle.net_pointers.{specs.Doubles.{item_at, member_at, part_after, part_at}, specs.PartTokens.{past_items, past_key, past_members, from_key, from_part, from_path}}

-- what was found in two steps
pub and_then_parts : {A B : Type 0} (f : A → Option B) (o : Option A) (b : B) → option_and_then f o ≡ Some b → (a : A) × (o ≡ Some a) × (f a ≡ Some b)
and_then_parts f None b e = not_found b e
and_then_parts f (Some a) b e = (a, refl, e)

-- ---- a value that was passed

passed : (d : ℕ) (ts us rest : List Token) (j : Json) → value d ts ≡ Some (j, rest) → skip_value 127 ts ≡ Some us → us ≡ rest
passed d ts us rest j e s = by (value 127 ts) refl s
  where
    by : (o : Option (Json × List Token)) → value 127 ts ≡ o → option_map (λ p. p.1) o ≡ Some us → us ≡ rest
    by None is h = not_found us h
    by (Some x) is h = sym (Some_inj _ _ h) ∙ ap (λ z. z.1) (Some_inj _ _ (one_reading 127 d ts x (j, rest) is e))

-- ---- the items of a list

item_first : (ts : List Token) (j : Json) (js : Items) → InItems ts (item j js) → FirstOf item InItems ts (item j js)
item_first ts j js h = by (after_end_array ts) refl
  where
    by : (o : Option (List Token)) → after_end_array ts ≡ o → FirstOf item InItems ts (item j js)
    by None e = items_go_on ts (item j js) e h
    by (Some r) e =
        let closed : item j js ≡ no_items = items_close r (item j js) (subst (λ us. InItems us (item j js)) (closed_array ts r e) h) in
        cc

items_passed : (n : ℕ) (ts us : List Token) (js : Items) (e : Json) → past_items n ts ≡ Some us → InItems ts js → item_at n js ≡ Some e → BeginsWith us e
items_passed n ts us no_items e p h at = not_found e at
items_passed zero ts us (item j js) e p h at =
    let f = item_first ts j js h in
    let same : f.1 ≡ e = cc in
    let here : ts ≡ us = Some_inj _ _ p in
    (f.0, f.2, ap (value f.0) (sym here) ∙ f.4 ∙ ap (λ x. Some (x, f.2)) same)
items_passed (suc n) ts us (item j js) e p h at =
    let f = item_first ts j js h in
    let s = and_then_parts (past_items n) (skip_value 127 ts) us p in
    let rest : s.0 ≡ f.2 = passed f.0 ts s.0 f.2 f.1 f.4 s.1 in
    let more : f.3 ≡ js = cc in
    items_passed n s.0 us js e s.2 (subst (InItems s.0) more (subst (λ vs. InItems vs f.3) (sym rest) f.6)) at

-- ---- the members of an object

abbrev StartsWith : List ℕ → List Token → Type 0
StartsWith k ts = (us : List Token) × (ts ≡ Token.key k ∷ us)

no_key : (t : Token) (ts : List Token) (k : List ℕ) (j : Json) (ms : Members) → (IsKey t → ⊥) → InMembers (t ∷ ts) (member k j ms) → StartsWith k (t ∷ ts)
no_key t ts k j ms other h =
    let closed : member k j ms ≡ no_members = members_close t ts (member k j ms) other h in
    cc

key_first : (ts : List Token) (k : List ℕ) (j : Json) (ms : Members) → InMembers ts (member k j ms) → StartsWith k ts
key_first [] k j ms h =
    let closed : member k j ms ≡ no_members = members_short [] (member k j ms) (omega arith) h in
    cc
key_first (Token.key s ∷ ts) k j ms h =
    let f = members_go_on s ts (member k j ms) h in
    let same : s ≡ k = cc in
    (ts, ap (λ x. Token.key x ∷ ts) same)
key_first (t ∷ ts) k j ms h = no_key t ts k j ms (λ x. x) h

-- a member, and those behind it
abbrev Behind : List Token → Json → Members → Type 0
Behind us j ms = (d : ℕ) × (rest : List Token) × (value d us ≡ Some (j, rest)) × InMembers rest ms

behind_key : (ts us : List Token) (k : List ℕ) (j : Json) (ms : Members) → past_key ts ≡ Some us → InMembers ts (member k j ms) → Behind us j ms
behind_key ts us k j ms p h =
    let s = key_first ts k j ms h in
    let same : s.0 ≡ us = Some_inj _ _ (ap past_key (sym s.1) ∙ p) in
    let f = members_go_on k us (member k j ms) (subst (λ vs. InMembers vs (member k j ms)) (s.1 ∙ ap (λ vs. Token.key k ∷ vs) same) h) in
    let value_is : f.1 ≡ j = cc in
    let more : f.3 ≡ ms = cc in
    (f.0, f.2, f.4 ∙ ap (λ x. Some (x, f.2)) value_is, subst (InMembers f.2) more f.6)

-- the members from an index on
abbrev members_from : ℕ → Members → Members
members_from zero ms = ms
members_from (suc n) no_members = no_members
members_from (suc n) (member k j ms) = members_from n ms

members_passed : (n : ℕ) (ts us : List Token) (ms : Members) (e : Json) → past_members n ts ≡ Some us → InMembers ts ms → member_at n ms ≡ Some e → InMembers us (members_from n ms)
members_passed zero ts us ms e p h at = subst (λ vs. InMembers vs ms) (Some_inj _ _ p) h
members_passed (suc n) ts us no_members e p h at = not_found e at
members_passed (suc n) ts us (member k j ms) e p h at =
    let a = and_then_parts (past_members n) (option_and_then (skip_value 127) (past_key ts)) us p in
    let b = and_then_parts (skip_value 127) (past_key ts) a.0 a.1 in
    let f = behind_key ts b.0 k j ms b.1 h in
    let rest : a.0 ≡ f.1 = passed f.0 b.0 a.0 f.1 j f.2 b.2 in
    members_passed n a.0 us ms e a.2 (subst (λ vs. InMembers vs ms) (sym rest) f.3) at

-- the member at an index, with its key
member_there : (n : ℕ) (ms : Members) (e : Json) → member_at n ms ≡ Some e → (more : Members) × (members_from n ms ≡ member (get_or (keys ms) n []) e more)
member_there n no_members e at = not_found e at
member_there zero (member k j ms) e at = (ms, ap (λ x. member k x ms) (Some_inj _ _ at))
member_there (suc n) (member k j ms) e at = member_there n ms e at

-- ---- one step, and a path

pub opened_as : {A : Type 0} (f : A → Json) (o : Option (A × List Token)) (j : Json) (rest : List Token) → parse_map f o ≡ Some (j, rest) → (x : A) × (o ≡ Some (x, rest)) × (f x ≡ j)
opened_as f None j rest e = not_found (j, rest) e
opened_as f (Some x) j rest e = let both = Some_inj _ _ e in (x.0, ap (λ r. Some (x.0, r)) (ap (λ z. z.1) both), ap (λ z. z.0) both)

list_opened : (ts : List Token) (j : Json) → BeginsWith (Token.begin_array ∷ ts) j → (js : Items) × (j ≡ array js) × InItems ts js
list_opened ts j h =
    let a = opened_as array _ j h.1 (sym (value_is h.0 (Token.begin_array ∷ ts)) ∙ h.2) in
    (a.0, sym a.2, opened (Token.begin_array ∷ ts) (array a.0) (subst (BeginsWith (Token.begin_array ∷ ts)) (sym a.2) h))

object_opened : (ts : List Token) (j : Json) → BeginsWith (Token.begin_object ∷ ts) j → (ms : Members) × (j ≡ object ms) × InMembers ts ms
object_opened ts j h =
    let a = opened_as object _ j h.1 (sym (value_is h.0 (Token.begin_object ∷ ts)) ∙ h.2) in
    (a.0, sym a.2, opened (Token.begin_object ∷ ts) (object a.0) (subst (BeginsWith (Token.begin_object ∷ ts)) (sym a.2) h))

part_read : (i : ℕ) (ts us : List Token) (j e : Json) → from_part i ts ≡ Some us → BeginsWith ts j → part_after i j ≡ Some e → BeginsWith us e
part_read i (Token.begin_object ∷ ts) us j e p h at =
    let o = object_opened ts j h in
    let at : member_at i o.0 ≡ Some e = ap (part_after i) (sym o.1) ∙ at in
    let a = and_then_parts past_key (past_members i ts) us p in
    let m = member_there i o.0 e at in
    let f = behind_key a.0 us _ e m.0 a.2 (subst (InMembers a.0) m.1 (members_passed i ts a.0 o.0 e a.1 o.2 at)) in
    (f.0, f.1, f.2)
part_read i (Token.begin_array ∷ ts) us j e p h at =
    let o = list_opened ts j h in
    items_passed i ts us o.0 e p o.2 (ap (part_after i) (sym o.1) ∙ at)
part_read i ts us j e p h at = not_found us p

-- where a path leads, the tokens begin with the part to which it leads
pub path_read : (path : List ℕ) (ts us : List Token) (j e : Json) → from_path path ts ≡ Some us → BeginsWith ts j → part_at path j ≡ Some e → BeginsWith us e
path_read [] ts us j e p h at = subst (BeginsWith us) (Some_inj _ _ at) (subst (λ vs. BeginsWith vs j) (Some_inj _ _ p) h)
path_read (i ∷ is) ts us j e p h at =
    let a = and_then_parts (from_path is) (from_part i ts) us p in
    let b = and_then_parts (part_at is) (part_after i j) e at in
    path_read is a.0 us b.0 e a.2 (part_read i ts a.0 j b.0 a.1 h b.1) b.2

pub member_within : (n : ℕ) (ms : Members) → n < length (keys ms) → (e : Json) × (member_at n ms ≡ Some e)
member_within n no_members within = absurd (omega arith)
member_within zero (member k j ms) within = (j, refl)
member_within (suc n) (member k j ms) within = member_within n ms (omega arith)

key_read : (n : ℕ) (ts us : List Token) (ms : Members) → from_key n ts ≡ Some us → BeginsWith ts (object ms) → n < length (keys ms) → StartsWith (get_or (keys ms) n []) us
key_read n (Token.begin_object ∷ ts) us ms p h within =
    let o = object_opened ts (object ms) h in
    let same : o.0 ≡ ms = cc in
    let e = member_within n ms within in
    let m = member_there n ms e.0 e.1 in
    key_first us _ e.0 m.0 (subst (InMembers us) m.1 (members_passed n ts us ms e.0 p (subst (InMembers ts) same o.2) e.1))
key_read n ts us ms p h within = not_found us p

-- where a path leads to an object, and then the key of a member stands
pub path_key_read : (path : List ℕ) (n : ℕ) (ts us : List Token) (j : Json) (ms : Members) → option_and_then (from_key n) (from_path path ts) ≡ Some us → BeginsWith ts j → part_at path j ≡ Some (object ms)
    → n < length (keys ms) → (rest : List Token) × (us ≡ Token.key (get_or (keys ms) n []) ∷ rest)
path_key_read path n ts us j ms p h at within =
    let a = and_then_parts (from_key n) (from_path path ts) us p in
    key_read n a.0 us ms a.2 (path_read path ts a.0 j (object ms) a.1 h at) within
