-- Members that are gathered one after another.
use Rattle.std.{proofs.Common.{◌≡◌, ℕ, ◌^◌, ◌<◌, ◌≤◌, List, [], ◌∷◌, ◌++◌, length, map, subst, Bool, true, false, not, ◌&&◌, ◌||◌, cond, is_some, Option, Some, None, IfSome, option_map, Ok, refl, sym, ap, ◌∙◌, true≢false, append-nil, append_assoc, codes, IsUtf8, arith}, proofs.lemmas.Bool.{and_from, not-false}, proofs.lemmas.List.{length-map}, proofs.lemmas.Slice.Eq.{bytes_eq-Decides}, specs.List.{list_any}, specs.Str.{bytes_eq}}
use Rattle.json.{specs.Find.{later_or, get_member}, specs.Token.{Token}, specs.Json.{Json, object, Items, no_items, item, Members, no_members, member, parse_map, value}, specs.Strict.{keys}, proofs.Grammar.{value_is}}
use Rattle.hex.specs.Hex.{decode_of}
use Rattle.serde_json.{specs.Data.{Data, Num, unsigned, number}, specs.Find.{as_u64}, specs.Read.{number_of}}
use Rattle.net_plan.{specs.Gathered.{with_last, IsPlain, ArePlain, IsGathered, IsRead, Slot, AreRead, AreParts, IsNext, IsMore, IsThere, EachIs, IsArrayOf, IsPlainText}, specs.Json.{is_among}, specs.JsonWords.{HasKeys, At, AreItems, IsListOf, IsShortListOf, IsNumber, IsName, IsIndexOfName, IsText, IsTruth, IsHex}, specs.Names.{are_new, names_differ}, specs.NameIndexes.{IsIndexOf}, specs.SingleKeys.{single, items_single, members_single}, specs.Texts.{IsJsonTextOf}, specs.Trees.{data_of, items_of, members_of, or_other, num_of, fits, items_fit, members_fit}, proofs.JsonNumbers.{numeral_u64}, proofs.KeysLaw.{among_Contains, any_false}, proofs.WordsLaw.{same_Some, first_index}, proofs.Telling.{both}, proofs.SingleKeys.{single_sound, whole_tree}, proofs.Trees.{get_of, read_whole}}
use Rattle.plan_values.specs.NameText.{is_name}
use Rattle.plain_json.specs.Plain.{IsNextNumber}
use Rattle.serde_json.specs.Data as whole

pub no_Some : {A : Type 0} {a : A} → Some a ≡ None → ⊥
no_Some e = cc

pub if_some : {A : Type 0} {P Q : A → Type 0} (o : Option A) → ((x : A) → P x → Q x) → IfSome o P → IfSome o Q
if_some None f h = tt
if_some (Some x) f h = f x h

abbrev pub joined : Members → Members → Members
joined no_members rest = rest
joined (member k j ms) rest = member k j (joined ms rest)

joined_last : (ms : Members) (k : List ℕ) (j : Json) (rest : Members) → joined ms (member k j rest) ≡ joined (with_last ms k j) rest
joined_last no_members k j rest = refl
joined_last (member l i ms) k j rest = ap (member l i) (joined_last ms k j rest)

pub joined_none : (ms : Members) → joined ms no_members ≡ ms
joined_none no_members = refl
joined_none (member k j ms) = ap (member k j) (joined_none ms)

pub one_more : (ms : Members) (k : List ℕ) (j : Json) (r : Option (Members × List Token)) → parse_map (joined ms) (parse_map (member k j) r) ≡ parse_map (joined (with_last ms k j)) r
one_more ms k j None = refl
one_more ms k j (Some p) = ap (λ js. Some (js, p.1)) (joined_last ms k j p.0)

-- ---- look-ups

latest : (b : Bool) (j : Json) (o p : Option Json) → later_or (cond b (Some j) o) p ≡ cond b (Some j) (later_or o p)
latest true j o p = refl
latest false j o p = refl

pub get_last : (name : List ℕ) (ms : Members) (k : List ℕ) (j : Json) → get_member name (with_last ms k j) ≡ cond (bytes_eq k name) (Some j) (get_member name ms)
get_last name no_members k j = refl
get_last name (member l i ms) k j = ap (λ o. later_or o (cond (bytes_eq l name) (Some i) None)) (get_last name ms k j) ∙ latest (bytes_eq k name) j (get_member name ms) (cond (bytes_eq l name) (Some i) None)

-- ---- plain members

fit_last : (ms : Members) (k : List ℕ) (j : Json) → members_fit ms ≡ true → fits j ≡ true → members_fit (with_last ms k j) ≡ true
fit_last no_members k j e f = and_from (fits j) true f refl
fit_last (member l i ms) k j e f = let p = both (fits i) (members_fit ms) e in and_from (fits i) (members_fit (with_last ms k j)) p.0 (fit_last ms k j p.1 f)

single_last : (ms : Members) (k : List ℕ) (j : Json) → members_single ms ≡ true → single j ≡ true → members_single (with_last ms k j) ≡ true
single_last no_members k j e f = and_from (single j) true f refl
single_last (member l i ms) k j e f = let p = both (single i) (members_single ms) e in and_from (single i) (members_single (with_last ms k j)) p.0 (single_last ms k j p.1 f)

keys_last : (ms : Members) (k : List ℕ) (j : Json) → keys (with_last ms k j) ≡ keys ms ++ k ∷ []
keys_last no_members k j = refl
keys_last (member l i ms) k j = ap (λ ks. l ∷ ks) (keys_last ms k j)

new_last : (seen ns : List (List ℕ)) (n : List ℕ) → are_new seen ns ≡ true → is_among (seen ++ ns) n ≡ false → are_new seen (ns ++ n ∷ []) ≡ true
new_last seen [] n e new = and_from (not (is_among seen n)) true (ap (λ s. not (is_among s n)) (sym (append-nil seen)) ∙ ap not new) refl
new_last seen (m ∷ ns) n e new =
    let p = both (not (is_among seen m)) (are_new (seen ++ m ∷ []) ns) e in
    and_from (not (is_among seen m)) (are_new (seen ++ m ∷ []) (ns ++ n ∷ [])) p.0 (new_last (seen ++ m ∷ []) ns n p.1 (ap (λ s. is_among s n) (append_assoc seen (m ∷ []) ns) ∙ new))

absent : (ms : Members) (k : List ℕ) → get_member k ms ≡ None → is_among (keys ms) k ≡ false
absent no_members k e = refl
absent (member l i ms) k e = by (get_member k ms) (bytes_eq l k) (bytes_eq k l) refl refl refl e (absent ms k)
  where
    by : (o : Option Json) (b c : Bool) → get_member k ms ≡ o → bytes_eq l k ≡ b → bytes_eq k l ≡ c → later_or o (cond b (Some i) None) ≡ None → (get_member k ms ≡ None → is_among (keys ms) k ≡ false) → (c || is_among (keys ms) k) ≡ false
    by (Some j) b c is at back none rest = absurd (no_Some none)
    by None true c is at back none rest = absurd (no_Some none)
    by None false true is at back none rest = absurd (true≢false (sym ((bytes_eq-Decides l k).1 (sym ((bytes_eq-Decides k l).0 back))) ∙ at))
    by None false false is at back none rest = rest is

pub is_some_map : {A B : Type 0} (f : A → B) (o : Option A) → is_some (option_map f o) ≡ is_some o
is_some_map f None = refl
is_some_map f (Some a) = refl

module _ (known : List (List ℕ)) where
  pub none_plain : ArePlain known no_members
  none_plain = record { fit = refl; differ = refl; single = refl; among = λ k there. absurd (true≢false (sym there)) }

  pub plain_last : (ms : Members) (k : List ℕ) (j : Json) → ArePlain known ms → is_among known k ≡ true → get_member k ms ≡ None → IsPlain j → ArePlain known (with_last ms k j)
  plain_last ms k j h among new plain = record {
    fit = fit_last ms k j h.fit plain.0;
    differ = ap names_differ (keys_last ms k j) ∙ new_last [] (keys ms) k h.differ (absent ms k new);
    single = single_last ms k j h.single plain.1;
    among = λ name there. by name (bytes_eq k name) refl (ap is_some (sym (get_last name ms k j)) ∙ there);
  }
    where
      by : (name : List ℕ) (b : Bool) → bytes_eq k name ≡ b → is_some (cond b (Some j) (get_member name ms)) ≡ true → is_among known name ≡ true
      by name true same there = ap (is_among known) (sym ((bytes_eq-Decides k name).0 same)) ∙ among
      by name false other there = h.among name there

  pub object_plain : (ms : Members) → ArePlain known ms → IsPlain (object ms)
  object_plain ms h = (h.fit, ap (λ b. b && members_single ms) h.differ ∙ h.single)

  -- each of the keys that may stand there does
  pub all_keys : (ms : Members) → ArePlain known ms → list_any (λ key. not (is_some (get_member key ms))) known ≡ false → HasKeys known (data_of (object ms))
  all_keys ms h none =
      let found = λ (k : List ℕ). ap is_some (get_of k (object ms)) ∙ is_some_map data_of (get_member k ms) in (
        members_of ms whole.no_members,
        refl,
        λ k. (
          λ there. among_Contains known k (h.among k (sym (found k) ∙ there)),
          λ among. found k ∙ not-false (is_some (get_member k ms)) (any_false (λ key. not (is_some (get_member key ms))) known none k among),
        ),
      )

-- ---- what is read at keys

abbrev pick : Bool → (Option Json → Type 0) → (Option Json → Type 0) → Option Json → Type 0
pick true P Q = P
pick false P Q = Q

-- what holds of what stands at a key
abbrev pub look : List ℕ → List Slot → Option Json → Type 0
look k [] = λ o. Unit {0}
look k (s ∷ slots) = pick (bytes_eq k s.0) s.1 (look k slots)

-- the same slots, but for what holds at a key
abbrev pub put : List ℕ → (Option Json → Type 0) → List Slot → List Slot
put k P [] = []
put k P (s ∷ slots) = (s.0, pick (bytes_eq k s.0) P s.1) ∷ put k P slots

pub at_key : (k : List ℕ) (slots : List Slot) (ms : Members) → AreRead slots ms → look k slots (get_member k ms)
at_key k [] ms h = tt
at_key k (s ∷ slots) ms h = by (bytes_eq k s.0) refl (at_key k slots ms h.1)
  where
    by : (b : Bool) → bytes_eq k s.0 ≡ b → look k slots (get_member k ms) → pick b s.1 (look k slots) (get_member k ms)
    by true e rest = subst (λ name. s.1 (get_member name ms)) (sym ((bytes_eq-Decides k s.0).0 e)) h.0
    by false e rest = rest

read_more : (k : List ℕ) (P : Option Json → Type 0) (slots : List Slot) (ms : Members) (j : Json) → P (Some j) → AreRead slots ms → AreRead (put k P slots) (with_last ms k j)
read_more k P [] ms j is h = tt
read_more k P (s ∷ slots) ms j is h = (subst (pick (bytes_eq k s.0) P s.1) (sym (get_last s.0 ms k j)) (by (bytes_eq k s.0)), read_more k P slots ms j is h.1)
  where
    by : (b : Bool) → pick b P s.1 (cond b (Some j) (get_member s.0 ms))
    by true = is
    by false = h.0

same_keys : (k : List ℕ) (P : Option Json → Type 0) (slots : List Slot) → map (λ s. s.0) (put k P slots) ≡ map (λ s. s.0) slots
same_keys k P [] = refl
same_keys k P (s ∷ slots) = ap (λ ks. s.0 ∷ ks) (same_keys k P slots)

-- one more value was read, at a key at which none stood
module _ {A : Type 0} (R : Data → A → Type 0) (k : List ℕ) (slots : List Slot) (old new : Option A) (x : A) where
  pub parts_more : old ≡ None → new ≡ Some x → ((o : Option Json) → look k slots o → IsRead R old o) → is_among (map (λ s. s.0) slots) k ≡ true → (ms : Members) (j : Json) → R (data_of j) x × IsPlain j → AreParts slots ms
      → AreParts (put k (IsRead R new) slots) (with_last ms k j)
  parts_more none is at known ms j made h =
      let none_there : get_member k ms ≡ None = subst (λ o. IsRead R o (get_member k ms)) none (at (get_member k ms) (at_key k slots ms h.read)) in record {
        plain = subst (λ ks. ArePlain ks (with_last ms k j)) (sym (same_keys k (IsRead R new) slots)) (plain_last (map (λ s. s.0) slots) ms k j h.plain known none_there made.1);
        read = read_more k (IsRead R new) slots ms j (subst (λ o. IsRead R o (Some j)) (sym is) (j, refl, made.0)) h.read;
      }

  pub there_taken : (r : Option Unit) (key : List ℕ) (depth : ℕ) (ts us : List Token) → key ≡ k → ((o : Option Json) → look k slots o → IsRead R old o) → is_among (map (λ s. s.0) slots) k ≡ true
      → IsThere depth ts us (λ j. R (data_of j) x × IsPlain j) → IfSome r (λ _. (old ≡ None) × (new ≡ Some x)) → IfSome r (λ _. IsMore depth key ts us (AreParts slots) (AreParts (put k (IsRead R new) slots)))
  there_taken r key depth ts us same at known took set =
      if_some r (λ _ is. subst (λ key. IsMore depth key ts us (AreParts slots) (AreParts (put k (IsRead R new) slots))) (sym same)
      (took.0, took.1, λ ms h. parts_more is.0 is.1 at known ms took.0 took.2 h)) set

  pub next_taken : (r : Option Unit) (key : List ℕ) (depth : ℕ) (ts us : List Token) → key ≡ k → ((o : Option Json) → look k slots o → IsRead R old o) → is_among (map (λ s. s.0) slots) k ≡ true
      → IsNext ts us (λ j. R (data_of j) x × IsPlain j) → IfSome r (λ _. (old ≡ None) × (new ≡ Some x)) → IfSome r (λ _. IsMore depth key ts us (AreParts slots) (AreParts (put k (IsRead R new) slots)))
  next_taken r key depth ts us same at known took = there_taken r key depth ts us same at known (took.0, took.1 depth, took.2)

pub at_gathered : {A : Type 0} (key : List ℕ) (R : Data → A → Type 0) (x : A) (ms : Members) → IsGathered key R (Some x) ms → At key R (data_of (object ms)) x
at_gathered key R x ms h = (data_of h.0, get_of key (object ms) ∙ ap (option_map data_of) h.1, h.2)

-- what stands at a key at which this was read
pub here : {A : Type 0} (key : List ℕ) (R : Data → A → Type 0) (o : Option A) (ms : Members) → IsGathered key R o ms → (x : A) → o ≡ Some x → (j : Json) × (get_member key ms ≡ Some j) × At key R (data_of (object ms)) x
here key R o ms h x e = let there = subst (λ o. IsGathered key R o ms) e h in (there.0, there.1, at_gathered key R x ms there)

-- where nothing stands at the other keys, all keys are among these
pub only_keys : (known own : List (List ℕ)) (ms : Members) → ArePlain known ms → list_any (λ key. not (is_among own key) && is_some (get_member key ms)) known ≡ false → ArePlain own ms
only_keys known own ms h none = record {
  fit = h.fit;
  differ = h.differ;
  single = h.single;
  among = λ k there.
      let one = any_false (λ key. not (is_among own key) && is_some (get_member key ms)) known none k (among_Contains known k (h.among k there)) in
      not-false (is_among own k) (left_false (not (is_among own k)) (is_some (get_member k ms)) one there);
}
  where
    left_false : (a b : Bool) → (a && b) ≡ false → b ≡ true → a ≡ false
    left_false false b e there = refl
    left_false true b e there = absurd (true≢false (sym there ∙ e))

-- the first of the nodes that has the name at `node`
pub placed_at : (names : List (List ℕ)) (find : List ℕ → Option ℕ) → IsIndexOf find names → (name : List ℕ) (place : ℕ) → find name ≡ Some place → (d : Data) → At (codes "node") IsName d name → At (codes "node") (IsIndexOfName names) d place
placed_at names find places name place found d h = (h.0, h.1, (name, h.2, first_index names name place (sym (places name) ∙ found)))

-- ---- values that stand in one token

whole_number_plain : (o : Option Num) (n : ℕ) → as_u64 (or_other o) ≡ Some n → (or_other o ≡ unsigned n) × (is_some o ≡ true)
whole_number_plain (Some (unsigned m)) n e = (ap unsigned (same_Some e), refl)
whole_number_plain o n e = absurd (no_Some (sym e))

pub next_is : (j : Json) (P : Json → Type 0) (t : Token) (old new : List Token) → old ≡ t ∷ new → ((depth : ℕ) → value depth (t ∷ new) ≡ Some (j, new)) → P j → IsNext old new P
next_is j P t old new is read h = (j, λ depth. ap (value depth) is ∙ read depth, h)

number_next : (old new : List Token) (s : List ℕ) (o : Option ℕ) → old ≡ Token.number s ∷ new → o ≡ as_u64 (num_of s) → IfSome o (λ n. IsNext old new (λ j. IsNumber (data_of j) n × IsPlain j))
number_next old new s None is e = tt
number_next old new s (Some n) is e =
    let h = whole_number_plain (number_of s) n (sym e) in
    next_is (Json.number s) (λ j. IsNumber (data_of j) n × IsPlain j) (Token.number s) old new is (λ depth. value_is depth (Token.number s ∷ new)) (ap number h.0, (h.1, refl))

pub numeral_next : (old new : List Token) (n : ℕ) → IsNextNumber old n new → n < 2 ^ 64 → IsNext old new (λ j. IsNumber (data_of j) n × IsPlain j)
numeral_next old new n (s, numeral, value, is) fits = number_next old new s (Some n) is (sym (numeral_u64 s n numeral value fits))

pub hex_next : (old new : List Token) (s bytes : List ℕ) → old ≡ Token.string s ∷ new → decode_of s ≡ Ok bytes → IsNext old new (λ j. IsHex (data_of j) bytes × IsPlain j)
hex_next old new s bytes is e = next_is (Json.string s) (λ j. IsHex (data_of j) bytes × IsPlain j) (Token.string s) old new is (λ depth. value_is depth (Token.string s ∷ new)) ((s, refl, e), (refl, refl))

pub name_next : (old new : List Token) (s : List ℕ) → old ≡ Token.string s ∷ new → is_name s ≡ true → IsNext old new (λ j. IsName (data_of j) s × IsPlain j)
name_next old new s is e = next_is (Json.string s) (λ j. IsName (data_of j) s × IsPlain j) (Token.string s) old new is (λ depth. value_is depth (Token.string s ∷ new)) ((refl, e), (refl, refl))

pub text_next : (old new : List Token) (s : List ℕ) → old ≡ Token.string s ∷ new → IsNext old new (λ j. IsText s (data_of j) × IsPlain j)
text_next old new s is = next_is (Json.string s) (λ j. IsText s (data_of j) × IsPlain j) (Token.string s) old new is (λ depth. value_is depth (Token.string s ∷ new)) (refl, (refl, refl))

pub truth_next : (old new : List Token) (b : Bool) → old ≡ Token.boolean b ∷ new → IsNext old new (λ j. IsTruth (data_of j) b × IsPlain j)
truth_next old new b is = next_is (Json.boolean b) (λ j. IsTruth (data_of j) b × IsPlain j) (Token.boolean b) old new is (λ depth. value_is depth (Token.boolean b ∷ new)) (refl, (refl, refl))

-- ---- items that are read one after another

abbrev pub items_joined : Items → Items → Items
items_joined no_items rest = rest
items_joined (item j js) rest = item j (items_joined js rest)

abbrev pub item_last : Items → Json → Items
item_last no_items j = item j no_items
item_last (item i js) j = item i (item_last js j)

items_joined_last : (js : Items) (j : Json) (rest : Items) → items_joined js (item j rest) ≡ items_joined (item_last js j) rest
items_joined_last no_items j rest = refl
items_joined_last (item i js) j rest = ap (item i) (items_joined_last js j rest)

pub items_joined_none : (js : Items) → items_joined js no_items ≡ js
items_joined_none no_items = refl
items_joined_none (item j js) = ap (item j) (items_joined_none js)

pub one_more_item : (js : Items) (j : Json) (r : Option (Items × List Token)) → parse_map (items_joined js) (parse_map (item j) r) ≡ parse_map (items_joined (item_last js j)) r
one_more_item js j None = refl
one_more_item js j (Some p) = ap (λ is. Some (is, p.1)) (items_joined_last js j p.0)

module _ {A : Type 0} (R : Json → A → Type 0) where
  pub each_last : (js : Items) (xs : List A) (j : Json) (x : A) → EachIs R js xs → R j x → EachIs R (item_last js j) (xs ++ x ∷ [])
  each_last no_items [] j x h r = (r, tt)
  each_last (item i js) (y ∷ ys) j x h r = (h.0, each_last js ys j x h.1 r)
  each_last js xs j x h r = absurd h

array_plain : {A : Type 0} (R : Json → A → Type 0) (js : Items) (xs : List A) → ((j : Json) (x : A) → R j x → IsPlain j) → EachIs R js xs → (items_fit js ≡ true) × (items_single js ≡ true)
array_plain R no_items [] each h = (refl, refl)
array_plain R (item j js) (x ∷ xs) each h =
    let here = each j x h.0 in
    let rest = array_plain R js xs each h.1 in
    (and_from (fits j) (items_fit js) here.0 rest.0, and_from (single j) (items_single js) here.1 rest.1)
array_plain R js xs each h = absurd h

each_item : {A B : Type 0} (R : Data → A → Type 0) (see : B → A) (js : Items) (xs : List B) → EachIs (λ j x. R (data_of j) (see x) × IsPlain j) js xs → AreItems R (items_of js) (map see xs)
each_item R see no_items [] h = tt
each_item R see (item j js) (x ∷ xs) h = (h.0.0, each_item R see js xs h.1)
each_item R see js xs h = absurd h

pub list_of : {A B : Type 0} (R : Data → A → Type 0) (see : B → A) (most : ℕ) (j : Json) (xs : List B) → IsArrayOf (λ j x. R (data_of j) (see x) × IsPlain j) j xs → length xs ≤ most
    → IsShortListOf most R (data_of j) (map see xs) × IsPlain j
list_of R see most j xs h few =
    let all = each_item R see h.0 xs h.2 in
    let plain = array_plain (λ j x. R (data_of j) (see x) × IsPlain j) h.0 xs (λ j x r. r.1) h.2 in
    ((((items_of h.0, ap data_of h.1, all)), subst (λ n. n ≤ most) (sym (length-map xs see)) few), (ap fits h.1 ∙ plain.0, ap single h.1 ∙ plain.1))

pub list_there : {A B : Type 0} (R : Data → A → Type 0) (see : B → A) (most depth : ℕ) (ts us : List Token) (xs : List B) → IsThere depth ts us (λ j. IsArrayOf (λ j x. R (data_of j) (see x) × IsPlain j) j xs) → length xs ≤ most
    → IsThere depth ts us (λ j. IsShortListOf most R (data_of j) (map see xs) × IsPlain j)
list_there R see most depth ts us xs took few = (took.0, took.1, list_of R see most took.0 xs took.2 few)

pub any_list_there : {A B : Type 0} (R : Data → A → Type 0) (see : B → A) (depth : ℕ) (ts us : List Token) (xs : List B) → IsThere depth ts us (λ j. IsArrayOf (λ j x. R (data_of j) (see x) × IsPlain j) j xs)
    → IsThere depth ts us (λ j. IsListOf R (data_of j) (map see xs) × IsPlain j)
any_list_there R see depth ts us xs took = let listed = list_of R see (length xs) took.0 xs took.2 (omega arith) in (took.0, took.1, (listed.0.0, listed.1))

-- ---- the whole text

pub stands_for_plain : {A : Type 0} (R : Data → A → Type 0) (text : List ℕ) (x : A) → IsUtf8 text → IsPlainText R text x → IsJsonTextOf R text x
stands_for_plain R text x utf8 h = (data_of h.0, (utf8, read_whole text h.0 h.1 h.2.0), (h.0, whole_tree text h.0 h.1, single_sound h.0 h.2.1), h.3)

-- where two values stand in the same place, so do they in a longer list
pub each_moved : {A : Type 0} (R S : Data → A → Type 0) (ds : whole.Items) (xs : List A) → ((d : Data) (x : A) → R d x → S d x) → AreItems R ds xs → AreItems S ds xs
each_moved R S whole.no_items [] move h = tt
each_moved R S (whole.item d ds) (x ∷ xs) move h = (move d x h.0, each_moved R S ds xs move h.1)
each_moved R S ds xs move h = absurd h
