-- What the links of a tape tell of its tokens.
use Rattle.std.{proofs.Common.{◌≡◌, ℕ, zero, suc, ◌+◌, ◌-◌, ◌<◌, List, ◌∷◌, map, length, drop, get_or, Option, Some, None, option_map, option_and_then, refl, sym, ap, ◌∙◌, arith}, proofs.lemmas.List.{drop_more, get_or-map, length-map}}
use Rattle.json.{specs.Json.{skip_value, value}, specs.Tape.{node_token, Passes}, specs.Token.{Token}, specs.declared.tape.Node.{Node}, specs.declared.tape.Node.TheVariants.{Object, EndObject, Array, EndArray, Key, String, Number, Bool, Null}, proofs.Found.{one_reading, not_found, Some_inj}, proofs.Grammar.{value_is, left_some}}
use Rattle.net_pointers.specs.PartTokens.{past_items, past_key, past_members, from_part, from_path}

pub here : (ns : List Node) (i : ℕ) (d : Node) → i < length ns → drop i (map node_token ns) ≡ node_token (get_or ns i d) ∷ drop (i + 1) (map node_token ns)
here ns i d h =
    drop_more (map node_token ns) i (node_token d) (omega (arith, length-map ns node_token)) ∙ ap (λ t. t ∷ drop (i + 1) (map node_token ns)) (get_or-map node_token ns i d (node_token d) h)

-- a value of one token
pub one_passed : (n : Node) (ts rest : List Token) → ((a : ℕ) → n ≡ Object a → ⊥) → ((a : ℕ) → n ≡ Array a → ⊥) → skip_value 127 (node_token n ∷ ts) ≡ Some rest → rest ≡ ts
one_passed (Object a) ts rest p q e = absurd (p a refl)
one_passed EndObject ts rest p q e = not_found rest (sym (ap (option_map (λ z. z.1)) (value_is 127 _)) ∙ e)
one_passed (Array a) ts rest p q e = absurd (q a refl)
one_passed EndArray ts rest p q e = not_found rest (sym (ap (option_map (λ z. z.1)) (value_is 127 _)) ∙ e)
one_passed (Key s) ts rest p q e = not_found rest (sym (ap (option_map (λ z. z.1)) (value_is 127 _)) ∙ e)
one_passed (String s) ts rest p q e = sym (Some_inj _ _ (sym (ap (option_map (λ z. z.1)) (value_is 127 _)) ∙ e))
one_passed (Number s) ts rest p q e = sym (Some_inj _ _ (sym (ap (option_map (λ z. z.1)) (value_is 127 _)) ∙ e))
one_passed (Bool b) ts rest p q e = sym (Some_inj _ _ (sym (ap (option_map (λ z. z.1)) (value_is 127 _)) ∙ e))
one_passed Null ts rest p q e = sym (Some_inj _ _ (sym (ap (option_map (λ z. z.1)) (value_is 127 _)) ∙ e))

-- a list or an object, over its link
pub linked_passed : (all : List Token) (i end : ℕ) (rest : List Token) → Passes all i end → skip_value 127 (drop i all) ≡ Some rest → rest ≡ drop end all
linked_passed all i end rest link e =
    let mine = left_some (value 127 (drop i all)) rest e in
    let other = left_some (value link.0 (drop i all)) (drop end all) link.1 in
    ap (λ z. z.1) (Some_inj _ _ (one_reading 127 link.0 (drop i all) _ _ mine.1 other.1))

pub and_then_parts : {A B : Type 0} (f : A → Option B) (o : Option A) (b : B) → option_and_then f o ≡ Some b → (a : A) × (o ≡ Some a) × (f a ≡ Some b)
and_then_parts f None b e = not_found b e
and_then_parts f (Some a) b e = (a, refl, e)

-- one more of so many items, or members
pub item_on : (n k : ℕ) (ts rest us : List Token) → k < n → past_items (n - k) ts ≡ Some rest → ((xs : List Token) → skip_value 127 ts ≡ Some xs → xs ≡ us) → past_items (n - (k + 1)) us ≡ Some rest
item_on n k ts rest us below e passed =
    let more : n - k ≡ suc (n - (k + 1)) = omega arith in
    let s = and_then_parts (past_items (n - (k + 1))) (skip_value 127 ts) rest (sym (ap (λ m. past_items m ts) more) ∙ e) in
    ap (past_items (n - (k + 1))) (sym (passed s.0 s.1)) ∙ s.2

pub member_on : (n k : ℕ) (ts rest vs us : List Token) → k < n → past_members (n - k) ts ≡ Some rest → ((xs : List Token) → past_key ts ≡ Some xs → xs ≡ vs) → ((xs : List Token) → skip_value 127 vs ≡ Some xs → xs ≡ us)
    → past_members (n - (k + 1)) us ≡ Some rest
member_on n k ts rest vs us below e named passed =
    let more : n - k ≡ suc (n - (k + 1)) = omega arith in
    let s = and_then_parts (past_members (n - (k + 1))) _ rest (sym (ap (λ m. past_members m ts) more) ∙ e) in
    let t = and_then_parts (skip_value 127) (past_key ts) s.0 s.1 in
    let is : skip_value 127 vs ≡ Some s.0 = ap (skip_value 127) (sym (named t.0 t.1)) ∙ t.2 in
    ap (past_members (n - (k + 1))) (sym (passed s.0 is)) ∙ s.2

pub none_left : (n : ℕ) (ts rest : List Token) → n ≡ 0 → past_items n ts ≡ Some rest → rest ≡ ts
none_left zero ts rest e is = sym (Some_inj _ _ is)
none_left (suc n) ts rest e is = absurd (omega (arith, e))

pub no_member_left : (n : ℕ) (ts rest : List Token) → n ≡ 0 → past_members n ts ≡ Some rest → rest ≡ ts
no_member_left zero ts rest e is = sym (Some_inj _ _ is)
no_member_left (suc n) ts rest e is = absurd (omega (arith, e))

-- a key
pub key_passed : (ts us xs : List Token) → ((t : Token) (vs : List Token) → ts ≡ t ∷ vs → vs ≡ us) → past_key ts ≡ Some xs → xs ≡ us
key_passed (Token.key k ∷ ts) us xs next e = sym (Some_inj _ _ e) ∙ next (Token.key k) ts refl
key_passed ts us xs next e = not_found xs e

-- no part of a value of one token
pub no_part : (n : Node) (i : ℕ) (us ts : List Token) → ((a : ℕ) → n ≡ Object a → ⊥) → ((a : ℕ) → n ≡ Array a → ⊥) → from_part i (node_token n ∷ us) ≡ Some ts → ⊥
no_part (Object a) i us ts p q e = absurd (p a refl)
no_part EndObject i us ts p q e = not_found ts e
no_part (Array a) i us ts p q e = absurd (q a refl)
no_part EndArray i us ts p q e = not_found ts e
no_part (Key s) i us ts p q e = not_found ts e
no_part (String s) i us ts p q e = not_found ts e
no_part (Number s) i us ts p q e = not_found ts e
no_part (Bool b) i us ts p q e = not_found ts e
no_part Null i us ts p q e = not_found ts e

-- one step more along a path
pub path_on : (path rest : List ℕ) (i : ℕ) (ts end : List Token) → path ≡ i ∷ rest → from_path path ts ≡ Some end → (us : List Token) × (from_part i ts ≡ Some us) × (from_path rest us ≡ Some end)
path_on path rest i ts end is e = and_then_parts (from_path rest) (from_part i ts) end (ap (λ p. from_path p ts) (sym is) ∙ e)
