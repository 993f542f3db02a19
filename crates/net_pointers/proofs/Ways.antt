-- A path that leads to a part of a value leads through its tokens.
use Rattle.std.{proofs.Common.{◌≡◌, ◌≢◌, ℕ, zero, suc, List, [], ◌∷◌, length, Option, Some, None, option_map, option_and_then, refl, sym, ap, ◌∙◌, subst, arith}, specs.Prelude.{⊤}}
use Rattle.json.{specs.Json.{Json, null, boolean, number, string, array, object, Items, item, Members, member, Parse, parse_map, after_end_array, read_key, items_step, members_step, items, members, value_with, value, skip_value}, specs.Token.{Token}, proofs.Grammar.{read_key_is, value_is}, proofs.Found.{Some_inj, not_found}, proofs.Nesting.{value-depth}, proofs.Printed.Trees.{value-json_tokens}, proofs.Unique.Spelling.{value-json_tokens_back}}
use Rattle.net_pointers.{specs.Doubles.{item_at, member_at, part_after, part_at}, specs.PartTokens.{past_items, past_key, past_members, from_key, from_part, from_path}, proofs.Readings.{and_then_parts, opened_as}}

-- a value that begins here, nested no deeper than where it can be passed
abbrev pub Begins : List Token → Json → Type 0
Begins ts j = (rest : List Token) × (value 127 ts ≡ Some (j, rest))

-- a value that is read may nest deeper
read_deeper : (d : ℕ) (ts : List Token) (x : Json × List Token) → value d ts ≡ Some x → value (suc d) ts ≡ Some x
read_deeper d ts x read =
    ap (value (suc d)) (value-json_tokens_back d ts x.1 x.0 read) ∙ value-json_tokens x.0 (suc d) x.1 (let less = value-depth d ts x.1 x.0 read in omega arith)

split : {B : Type 0} (f : Json → B → B) (more : Parse B) (o : Option (Json × List Token)) (b : B) (r : List Token) → option_and_then (λ q. parse_map (f q.0) (more q.1)) o ≡ Some (b, r)
    → (x : Json × List Token) × (o ≡ Some x) × (c : B) × (b ≡ f x.0 c) × (more x.1 ≡ Some (c, r))
split f more None b r e = not_found (b, r) e
split {B} f more (Some x) b r e = go (more x.1) refl e
  where
    go : (m : Option (B × List Token)) → more x.1 ≡ m → parse_map (f x.0) m ≡ Some (b, r) → (y : Json × List Token) × (Some x ≡ Some y) × (c : B) × (b ≡ f y.0 c) × (more y.1 ≡ Some (c, r))
    go None is h = not_found (b, r) h
    go (Some y) is h = let both = Some_inj _ _ h in (x, refl, y.0, sym (ap (λ z. z.0) both), is ∙ ap (λ z. Some (y.0, z)) (ap (λ z. z.1) both))

-- ---- the items of a list, and the members of an object

module _ (d : ℕ) (up : (ts : List Token) (x : Json × List Token) → value d ts ≡ Some x → value 127 ts ≡ Some x) where
  items_way : (n turns : ℕ) (ts rest : List Token) (js : Items) (e : Json) → items (value d) turns ts ≡ Some (js, rest) → item_at n js ≡ Some e → (us : List Token) × (past_items n ts ≡ Some us) × Begins us e
  unfolding items
  items_way n zero ts rest js e read at = not_found (js, rest) read
  items_way zero (suc m) ts rest js e read at = by (after_end_array ts) read
    where
      by : (o : Option (List Token)) → items_step (value d) (items (value d) m) ts o ≡ Some (js, rest) → (us : List Token) × (Some ts ≡ Some us) × Begins us e
      by (Some r) closed = not_found e (ap (item_at 0) (ap (λ z. z.0) (Some_inj _ _ closed)) ∙ at)
      by None going =
          let s = split item (items (value d) m) (value d ts) js rest going in
          let same : s.0.0 ≡ e = Some_inj _ _ (ap (item_at 0) (sym s.3) ∙ at) in
          (ts, refl, (s.0.1, up ts s.0 s.1 ∙ ap (λ j. Some (j, s.0.1)) same))
  items_way (suc k) (suc m) ts rest js e read at = by (λ us cs f g. items_way k m us rest cs e f g) (after_end_array ts) read
    where
      by : ((us : List Token) (cs : Items) → items (value d) m us ≡ Some (cs, rest) → item_at k cs ≡ Some e → (vs : List Token) × (past_items k us ≡ Some vs) × Begins vs e)
          → (o : Option (List Token)) → items_step (value d) (items (value d) m) ts o ≡ Some (js, rest) → (us : List Token) × (past_items (suc k) ts ≡ Some us) × Begins us e
      by again (Some r) closed = not_found e (ap (item_at (suc k)) (ap (λ z. z.0) (Some_inj _ _ closed)) ∙ at)
      by again None going =
          let s = split item (items (value d) m) (value d ts) js rest going in
          let more = again s.0.1 s.2 s.4 (ap (item_at (suc k)) (sym s.3) ∙ at) in
          (more.0, ap (option_and_then (past_items k)) (ap (option_map (λ p. p.1)) (up ts s.0 s.1)) ∙ more.1, more.2)

  abbrev MemberWay : ℕ → List Token → Json → Type 0
  MemberWay n ts e = (vs : List Token) × (past_members n ts ≡ Some vs) × (us : List Token) × (past_key vs ≡ Some us) × Begins us e

  members_way : (n turns : ℕ) (ts rest : List Token) (ms : Members) (e : Json) → members (value d) turns ts ≡ Some (ms, rest) → member_at n ms ≡ Some e → MemberWay n ts e
  unfolding members
  members_way n zero ts rest ms e read at = not_found (ms, rest) read
  members_way n (suc m) ts rest ms e read at = by n at (λ k us cs f g. members_way k m us rest cs e f g) (read_key ts) refl read
    where
      by : (n : ℕ) → member_at n ms ≡ Some e → ((k : ℕ) (us : List Token) (cs : Members) → members (value d) m us ≡ Some (cs, rest) → member_at k cs ≡ Some e → MemberWay k us e)
          → (o : Option (Option (List ℕ) × List Token)) → read_key ts ≡ o → option_and_then (λ q. members_step (value d) (members (value d) m) q.0 q.1) o ≡ Some (ms, rest) → MemberWay n ts e
      by n at again None key read = not_found (ms, rest) read
      by zero at again (Some (None, s)) key read = not_found e (ap (member_at 0) (ap (λ z. z.0) (Some_inj _ _ read)) ∙ at)
      by (suc k) at again (Some (None, s)) key read = not_found e (ap (member_at (suc k)) (ap (λ z. z.0) (Some_inj _ _ read)) ∙ at)
      by zero at again (Some (Some k, s)) key read =
          let x = split (member k) (members (value d) m) (value d s) ms rest read in
          let same : x.0.0 ≡ e = Some_inj _ _ (ap (member_at 0) (sym x.3) ∙ at) in
          (ts, refl, s, ap past_key (read_key_is ts (Some k) s key), (x.0.1, up s x.0 x.1 ∙ ap (λ j. Some (j, x.0.1)) same))
      by (suc n) at again (Some (Some k, s)) key read =
          let x = split (member k) (members (value d) m) (value d s) ms rest read in
          let more = again n x.0.1 x.2 x.4 (ap (member_at (suc n)) (sym x.3) ∙ at) in
          let passed : option_and_then (skip_value 127) (past_key ts) ≡ Some x.0.1 =
          ap (option_and_then (skip_value 127)) (ap past_key (read_key_is ts (Some k) s key)) ∙ ap (option_map (λ p. p.1)) (up s x.0 x.1) in
          (more.0, ap (option_and_then (past_members n)) passed ∙ more.1, more.2, more.3, more.4)

  -- ---- one step

  abbrev PartWay : ℕ → List Token → Json → Type 0
  PartWay i ts e = (us : List Token) × (from_part i ts ≡ Some us) × Begins us e

  part_way : (i : ℕ) (ts rest : List Token) (j e : Json) → value (suc d) ts ≡ Some (j, rest) → part_after i j ≡ Some e → PartWay i ts e
  unfolding value
  part_way i (Token.begin_object ∷ ts) rest j e read at =
      let o = opened_as object _ j rest read in
      let w = members_way i (length ts) ts rest o.0 e o.1 (ap (part_after i) o.2 ∙ at) in
      (w.2, ap (option_and_then past_key) w.1 ∙ w.3, w.4)
  part_way i (Token.begin_array ∷ ts) rest j e read at =
      let o = opened_as array _ j rest read in
      items_way i (length ts) ts rest o.0 e o.1 (ap (part_after i) o.2 ∙ at)
  part_way i (Token.string s ∷ ts) rest j e read at = not_found e (ap (part_after i) (ap (λ z. z.0) (Some_inj _ _ read)) ∙ at)
  part_way i (Token.number s ∷ ts) rest j e read at = not_found e (ap (part_after i) (ap (λ z. z.0) (Some_inj _ _ read)) ∙ at)
  part_way i (Token.boolean b ∷ ts) rest j e read at = not_found e (ap (part_after i) (ap (λ z. z.0) (Some_inj _ _ read)) ∙ at)
  part_way i (Token.null ∷ ts) rest j e read at = not_found e (ap (part_after i) (ap (λ z. z.0) (Some_inj _ _ read)) ∙ at)
  part_way i ts rest j e read at = not_found (j, rest) read

-- ---- a path

-- a path that leads to a part of a value leads to where that part begins
pub path_way : (path : List ℕ) (ts : List Token) (j e : Json) → Begins ts j → part_at path j ≡ Some e → (us : List Token) × (from_path path ts ≡ Some us) × Begins us e
path_way [] ts j e (rest, read) at = (ts, refl, (rest, read ∙ ap (λ x. Some (x, rest)) (Some_inj _ _ at)))
path_way (i ∷ is) ts j e (rest, read) at =
    let a = and_then_parts (part_at is) (part_after i j) e at in
    let p = part_way 126 (λ us x read. read_deeper 126 us x read) i ts rest j a.0 read a.1 in
    let more = path_way is p.0 a.0 e p.2 a.2 in
    (more.0, ap (option_and_then (from_path is)) p.1 ∙ more.1, more.2)

-- ---- the key of a member

is_key : (vs us : List Token) → past_key vs ≡ Some us → (k : List ℕ) × (vs ≡ Token.key k ∷ us)
is_key (Token.key k ∷ ts) us e = (k, ap (λ ws. Token.key k ∷ ws) (Some_inj _ _ e))
is_key vs us e = not_found us e

abbrev KeyWay : ℕ → List Token → Type 0
KeyWay n ts = (us : List Token) × (k : List ℕ) × (from_key n ts ≡ Some (Token.key k ∷ us))

key_way : (d : ℕ) (up : (ts : List Token) (x : Json × List Token) → value d ts ≡ Some x → value 127 ts ≡ Some x) (n : ℕ) (ts rest : List Token) (ms : Members) (e : Json)
    → value (suc d) ts ≡ Some (object ms, rest) → member_at n ms ≡ Some e → KeyWay n ts
unfolding value
key_way d up n (Token.begin_object ∷ ts) rest ms e read at =
    let o = opened_as object _ (object ms) rest read in
    let w = members_way d up n (length ts) ts rest o.0 e o.1 (ap (part_after n) o.2 ∙ at) in
    let k = is_key w.0 w.2 w.3 in
    (w.2, k.0, w.1 ∙ ap Some k.1)
key_way d up n (Token.begin_array ∷ ts) rest ms e read at =
    let o = opened_as array _ (object ms) rest read in
    not_found e (no_list o.0 o.2 ∙ at)
  where
    no_list : (js : Items) → array js ≡ object ms → None ≡ member_at n ms
    no_list js same = ap (λ j. as_member j) same
      where
        as_member : Json → Option Json
        as_member (object ns) = member_at n ns
        as_member j = None
key_way d up n (Token.string s ∷ ts) rest ms e read at = not_found e (ap (part_after n) (ap (λ z. z.0) (Some_inj _ _ read)) ∙ at)
key_way d up n (Token.number s ∷ ts) rest ms e read at = not_found e (ap (part_after n) (ap (λ z. z.0) (Some_inj _ _ read)) ∙ at)
key_way d up n (Token.boolean b ∷ ts) rest ms e read at = not_found e (ap (part_after n) (ap (λ z. z.0) (Some_inj _ _ read)) ∙ at)
key_way d up n (Token.null ∷ ts) rest ms e read at = not_found e (ap (part_after n) (ap (λ z. z.0) (Some_inj _ _ read)) ∙ at)
key_way d up n ts rest ms e read at = not_found (object ms, rest) read

-- a path that leads to an object leads to the key of each of its members
pub path_key_way : (path : List ℕ) (n : ℕ) (ts : List Token) (j : Json) (ms : Members) (e : Json) → Begins ts j → part_at path j ≡ Some (object ms) → member_at n ms ≡ Some e
    → (us : List Token) × (k : List ℕ) × (option_and_then (from_key n) (from_path path ts) ≡ Some (Token.key k ∷ us))
path_key_way path n ts j ms e begins at there =
    let way = path_way path ts j (object ms) begins at in
    let k = key_way 126 (λ us x read. read_deeper 126 us x read) n way.0 way.2.0 ms e way.2.1 there in
    (k.0, k.1, ap (option_and_then (from_key n)) way.1 ∙ k.2)

-- ---- what begins a value is no fault

abbrev IsFault : Token → Type 0
IsFault Token.bad = ⊤
IsFault _ = ⊥

pub sound_start : (d : ℕ) (ts rest : List Token) (j : Json) → value d ts ≡ Some (j, rest) → (t : Token) × (us : List Token) × (ts ≡ t ∷ us) × (t ≢ Token.bad)
sound_start d ts rest j read = by _ _ ts (sym (value_is d ts) ∙ read)
  where
    by : (a : Parse Items) (o : Parse Members) (ts : List Token) → value_with a o ts ≡ Some (j, rest) → (t : Token) × (us : List Token) × (ts ≡ t ∷ us) × (t ≢ Token.bad)
    by a o [] e = not_found (j, rest) e
    by a o (Token.begin_object ∷ ts) e = (Token.begin_object, ts, refl, λ b. subst IsFault (sym b) tt)
    by a o (Token.end_object ∷ ts) e = not_found (j, rest) e
    by a o (Token.begin_array ∷ ts) e = (Token.begin_array, ts, refl, λ b. subst IsFault (sym b) tt)
    by a o (Token.end_array ∷ ts) e = not_found (j, rest) e
    by a o (Token.key s ∷ ts) e = not_found (j, rest) e
    by a o (Token.string s ∷ ts) e = (Token.string s, ts, refl, λ b. subst IsFault (sym b) tt)
    by a o (Token.number s ∷ ts) e = (Token.number s, ts, refl, λ b. subst IsFault (sym b) tt)
    by a o (Token.boolean b ∷ ts) e = (Token.boolean b, ts, refl, λ b. subst IsFault (sym b) tt)
    by a o (Token.null ∷ ts) e = (Token.null, ts, refl, λ b. subst IsFault (sym b) tt)
    by a o (Token.bad ∷ ts) e = not_found (j, rest) e

pub key_is_sound : (k : List ℕ) → Token.key k ≢ Token.bad
key_is_sound k b = subst IsFault (sym b) tt
