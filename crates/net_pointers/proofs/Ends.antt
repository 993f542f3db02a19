-- What is left of the tokens once some were passed is their end.
use Rattle.std.{proofs.Common.{◌≡◌, ◌≤◌, ◌-◌, ◌+◌, ℕ, zero, suc, List, [], ◌∷◌, ◌++◌, length, drop, Option, Some, None, option_and_then, refl, sym, ap, ◌∙◌, arith}, proofs.lemmas.List.{append_assoc, length-append}, proofs.Math.Seq.{drop-append_seam}}
use Rattle.json.{specs.Token.{Token}, specs.Json.{Json, array, object, Items, item, Members, member, Parse, parse_map, after_end_array, read_key, items_step, members_step, items, members, value_with, value, skip_value}, proofs.Grammar.{left, left-parse_map, closed_array, read_key_is}, proofs.Found.{Some_inj, not_found}}
use Rattle.net_pointers.{specs.Scans.{Ends}, specs.PartTokens.{past_items, past_key, past_members, from_key, from_part, from_path}, proofs.Readings.{and_then_parts}}

whole : (ts us : List Token) → ts ≡ us → Ends ts us
whole ts us e = ([], e)

after_one : (t : Token) (ts us rest : List Token) → ts ≡ t ∷ us → Ends us rest → Ends ts rest
after_one t ts us rest e (pre, is) = (t ∷ pre, e ∙ ap (λ vs. t ∷ vs) is)

further : (ts us vs : List Token) → Ends ts us → Ends us vs → Ends ts vs
further ts us vs (pre, e) (more, f) = (pre ++ more, e ∙ ap (λ ws. pre ++ ws) f ∙ sym (append_assoc pre more vs))

abbrev Leaves : {A : Type 0} → Parse A → Type 0
Leaves {A} p = (ts r : List Token) → left (p ts) ≡ Some r → Ends ts r

then_more : {B : Type 0} (f : Json → B → B) (more : Parse B) (o : Option (Json × List Token)) (ts r : List Token) → Leaves more → ((x : List Token) → left o ≡ Some x → Ends ts x)
    → left (option_and_then (λ q. parse_map (f q.0) (more q.1)) o) ≡ Some r → Ends ts r
then_more f more None ts r again first e = not_found r e
then_more f more (Some q) ts r again first e = further ts q.1 r (first q.1 refl) (again q.1 r (sym (left-parse_map (f q.0) (more q.1)) ∙ e))

module _ (p : Parse Json) (leaves : Leaves p) where
  item_turn : (more : Parse Items) (ts r : List Token) (o : Option (List Token)) → Leaves more → after_end_array ts ≡ o → left (items_step p more ts o) ≡ Some r → Ends ts r
  item_turn more ts r (Some x) again e f = after_one Token.end_array ts x r (closed_array ts x e) (whole x r (Some_inj x r f))
  item_turn more ts r None again e f = then_more item more (p ts) ts r again (leaves ts) f

  Leaves-items : (n : ℕ) → Leaves (items p n)
  unfolding items
  Leaves-items zero ts r e = not_found r e
  Leaves-items (suc n) ts r e = item_turn (items p n) ts r (after_end_array ts) (Leaves-items n) refl e

  member_turn : (more : Parse Members) (ts r : List Token) (o : Option (Option (List ℕ) × List Token)) → Leaves more → read_key ts ≡ o
      → left (option_and_then (λ q. members_step p more q.0 q.1) o) ≡ Some r → Ends ts r
  member_turn more ts r None again e f = not_found r f
  member_turn more ts r (Some (None, s)) again e f = after_one Token.end_object ts s r (read_key_is ts None s e) (whole s r (Some_inj s r f))
  member_turn more ts r (Some (Some k, s)) again e f = after_one (Token.key k) ts s r (read_key_is ts (Some k) s e) (then_more (member k) more (p s) s r again (leaves s) f)

  Leaves-members : (n : ℕ) → Leaves (members p n)
  unfolding members
  Leaves-members zero ts r e = not_found r e
  Leaves-members (suc n) ts r e = member_turn (members p n) ts r (read_key ts) (Leaves-members n) refl e

Leaves-value_with : (a : Parse Items) (o : Parse Members) → Leaves a → Leaves o → Leaves (value_with a o)
Leaves-value_with a o p q (Token.begin_object ∷ ts) r e = after_one Token.begin_object _ ts r refl (q ts r (sym (left-parse_map object (o ts)) ∙ e))
Leaves-value_with a o p q (Token.begin_array ∷ ts) r e = after_one Token.begin_array _ ts r refl (p ts r (sym (left-parse_map array (a ts)) ∙ e))
Leaves-value_with a o p q (Token.string s ∷ ts) r e = after_one (Token.string s) _ ts r refl (whole ts r (Some_inj ts r e))
Leaves-value_with a o p q (Token.number s ∷ ts) r e = after_one (Token.number s) _ ts r refl (whole ts r (Some_inj ts r e))
Leaves-value_with a o p q (Token.boolean b ∷ ts) r e = after_one (Token.boolean b) _ ts r refl (whole ts r (Some_inj ts r e))
Leaves-value_with a o p q (Token.null ∷ ts) r e = after_one Token.null _ ts r refl (whole ts r (Some_inj ts r e))
Leaves-value_with a o p q x r e = not_found r e

Leaves-value : (d : ℕ) → Leaves (value d)
unfolding value
Leaves-value zero = Leaves-value_with (λ ts. None) (λ ts. None) (λ ts r e. not_found r e) (λ ts r e. not_found r e)
Leaves-value (suc d) =
    Leaves-value_with (λ ts. items (value d) (length ts) ts) (λ ts. members (value d) (length ts) ts)
    (λ ts. Leaves-items (value d) (Leaves-value d) (length ts) ts) (λ ts. Leaves-members (value d) (Leaves-value d) (length ts) ts)

-- ---- along a path

items_end : (n : ℕ) (ts us : List Token) → past_items n ts ≡ Some us → Ends ts us
items_end zero ts us e = whole ts us (Some_inj ts us e)
items_end (suc n) ts us e = let a = and_then_parts (past_items n) (skip_value 127 ts) us e in further ts a.0 us (Leaves-value 127 ts a.0 a.1) (items_end n a.0 us a.2)

key_ends : (ts us : List Token) → past_key ts ≡ Some us → Ends ts us
key_ends (Token.key k ∷ ts) us e = after_one (Token.key k) _ ts us refl (whole ts us (Some_inj ts us e))
key_ends ts us e = not_found us e

members_end : (n : ℕ) (ts us : List Token) → past_members n ts ≡ Some us → Ends ts us
members_end zero ts us e = whole ts us (Some_inj ts us e)
members_end (suc n) ts us e =
    let a = and_then_parts (past_members n) (option_and_then (skip_value 127) (past_key ts)) us e in
    let b = and_then_parts (skip_value 127) (past_key ts) a.0 a.1 in
    further ts b.0 us (key_ends ts b.0 b.1) (further b.0 a.0 us (Leaves-value 127 b.0 a.0 b.2) (members_end n a.0 us a.2))

part_ends : (i : ℕ) (ts us : List Token) → from_part i ts ≡ Some us → Ends ts us
part_ends i (Token.begin_array ∷ ts) us e = after_one Token.begin_array _ ts us refl (items_end i ts us e)
part_ends i (Token.begin_object ∷ ts) us e =
    let a = and_then_parts past_key (past_members i ts) us e in
    after_one Token.begin_object _ ts us refl (further ts a.0 us (members_end i ts a.0 a.1) (key_ends a.0 us a.2))
part_ends i ts us e = not_found us e

pub path_ends : (path : List ℕ) (ts us : List Token) → from_path path ts ≡ Some us → Ends ts us
path_ends [] ts us e = whole ts us (Some_inj ts us e)
path_ends (i ∷ is) ts us e = let a = and_then_parts (from_path is) (from_part i ts) us e in further ts a.0 us (part_ends i ts a.0 a.1) (path_ends is a.0 us a.2)

pub key_of_object_ends : (i : ℕ) (ts us : List Token) → from_key i ts ≡ Some us → Ends ts us
key_of_object_ends i (Token.begin_object ∷ ts) us e = after_one Token.begin_object _ ts us refl (members_end i ts us e)
key_of_object_ends i ts us e = not_found us e

pub path_key_ends : (path : List ℕ) (i : ℕ) (ts us : List Token) → option_and_then (from_key i) (from_path path ts) ≡ Some us → Ends ts us
path_key_ends path i ts us e =
    let a = and_then_parts (from_key i) (from_path path ts) us e in
    further ts a.0 us (path_ends path ts a.0 a.1) (key_of_object_ends i a.0 us a.2)

-- so they are what is left behind all others
pub end_is : (ts us : List Token) → Ends ts us → (length us ≤ length ts) × (drop (length ts - length us) ts ≡ us)
end_is ts us (pre, e) =
    let long : length ts ≡ length pre + length us = ap length e ∙ length-append pre us in
    let before : length ts - length us ≡ length pre = omega arith in
    (omega arith, ap (λ n. drop n ts) before ∙ ap (drop (length pre)) e ∙ drop-append_seam pre us)
