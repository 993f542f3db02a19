-- What words of JSON say is what the relations tell.
use Rattle.std.{proofs.Common.{◌≡◌, ◌≢◌, ℕ, zero, suc, unwrap_or, ◌<◌, List, [], ◌∷◌, length, Bool, true, false, nat_le, Some, None, Result, Ok, Err, refl, sym, ap, ◌∙◌, subst, cond, true≢false, codes, slice_get, arith}, proofs.lemmas.Bool.{leb-true, le-leb}, proofs.lemmas.Slice.Eq.{bytes_eq-Decides}, specs.Str.{bytes_eq}}
use Rattle.hex.{specs.Hex.{decode_of}, specs.declared.error.FromHexError.{FromHexError}}
use Rattle.serde_json.specs.Data.{Data, string}
use Rattle.net_plan.{specs.Json.{at_key, demand, name_text, whole_number, hex_text, address_text, kind_text, decoded}, specs.JsonWords.{At, IsNumberWithin, IsName, IsHex, IsAddress, IsFirstOf}, specs.Names.{index_of, index_among}, specs.PlanText.{IsKindOf}, specs.declared.error.ValueFault.TheVariants.{OutOfRange, OverLimit}, proofs.Names.{index_among-of, index_within}, proofs.Telling.{Tells, any, no_value, same_Ok, then_Ok, demanded, at_key_tells, number_tells}}
use Rattle.plan_values.{specs.NameText.{is_name}, specs.declared.nodes.Kind.{Kind}, specs.declared.nodes.Kind.TheVariants.{Bridge, Endpoint}}

-- ---- texts

name_sound : (d : Data) (x : List ℕ) → name_text d ≡ Ok x → IsName d x
name_sound (string s) x e = by (is_name s) refl e
  where
    by : (b : Bool) → is_name s ≡ b → cond b (Ok s) (Err OutOfRange) ≡ Ok x → IsName (string s) x
    by true n e = subst (IsName (string s)) (same_Ok e) (refl, n)
    by false n e = absurd (no_value e)
name_sound d x e = absurd (no_value e)

pub name_tells : Tells name_text any IsName
name_tells = record { sound = λ d x e pass. name_sound d x e; whole = λ d x h. ap name_text h.0 ∙ ap (λ b. cond b (Ok x) (Err OutOfRange)) h.1; passes = λ d x h. refl }

hex_sound : (d : Data) (x : List ℕ) → hex_text d ≡ Ok x → IsHex d x
hex_sound (string s) x e = by (decode_of s) refl e
  where
    by : (r : Result (List ℕ) FromHexError) → decode_of s ≡ r → decoded r ≡ Ok x → IsHex (string s) x
    by (Ok bytes) d e = subst (IsHex (string s)) (same_Ok e) (s, refl, d)
    by (Err fault) d e = absurd (no_value e)
hex_sound d x e = absurd (no_value e)

pub hex_tells : Tells hex_text any IsHex
hex_tells = record { sound = λ d x e pass. hex_sound d x e; whole = λ d x h. ap hex_text h.1 ∙ ap decoded h.2; passes = λ d x h. refl }

address_sound : (d : Data) (x : List ℕ) → address_text d ≡ Ok x → IsAddress d x
address_sound d x e =
    let p = then_Ok (hex_text d) _ x e in
    let u = then_Ok (demand OverLimit (nat_le (length p.0) 8)) _ x p.2 in
    subst (IsAddress d) (same_Ok u.2) (hex_sound d p.0 p.1, leb-true (length p.0) 8 (demanded OverLimit (nat_le (length p.0) 8) u.0 u.1))

address_whole : (d : Data) (x : List ℕ) → IsAddress d x → address_text d ≡ Ok x
address_whole d x h = rw (hex_tells.whole d x h.0, le-leb (length x) 8 h.1) refl

pub address_tells : Tells address_text any IsAddress
address_tells = record { sound = λ d x e pass. address_sound d x e; whole = address_whole; passes = λ d x h. refl }

kind_sound : (d : Data) (k : Kind) → kind_text d ≡ Ok k → IsKindOf d k
kind_sound (string s) k e = by (bytes_eq s (codes "bridge")) (bytes_eq s (codes "endpoint")) refl refl e
  where
    by : (b c : Bool) → bytes_eq s (codes "bridge") ≡ b → bytes_eq s (codes "endpoint") ≡ c → cond b (Ok Bridge) (cond c (Ok Endpoint) (Err OutOfRange)) ≡ Ok k → IsKindOf (string s) k
    by true c b1 b2 e = subst (IsKindOf (string s)) (same_Ok e) (ap string ((bytes_eq-Decides s (codes "bridge")).0 b1))
    by false true b1 b2 e = subst (IsKindOf (string s)) (same_Ok e) (ap string ((bytes_eq-Decides s (codes "endpoint")).0 b2))
    by false false b1 b2 e = absurd (no_value e)
kind_sound d k e = absurd (no_value e)

kind_whole : (d : Data) (k : Kind) → IsKindOf d k → kind_text d ≡ Ok k
kind_whole d Bridge h = ap kind_text h
kind_whole d Endpoint h = ap kind_text h

pub kind_tells : Tells kind_text any IsKindOf
kind_tells = record { sound = λ d k e pass. kind_sound d k e; whole = kind_whole; passes = λ d k h. refl }

-- ---- places

pub same_Some : {A : Type 0} {a b : A} → Some a ≡ Some b → a ≡ b
same_Some e = cc

no_Some : {A : Type 0} {a : A} → None ≡ Some a → ⊥
no_Some e = cc

pub first_within : (names : List (List ℕ)) (s : List ℕ) → index_among names s < length names → IsFirstOf names s (index_among names s)
first_within [] s below = absurd (omega arith)
first_within (n ∷ ns) s below = by (bytes_eq s n) refl below (first_within ns s)
  where
    by : (b : Bool) → bytes_eq s n ≡ b → cond b 0 (suc (index_among ns s)) < suc (length ns) → (index_among ns s < length ns → IsFirstOf ns s (index_among ns s)) → IsFirstOf (n ∷ ns) s (cond b 0 (suc (index_among ns s)))
    by true is below rest = record { stands = ap Some (sym ((bytes_eq-Decides s n).0 is)); first = λ k under. absurd (omega arith) }
    by false is below rest =
        let first : IsFirstOf ns s (index_among ns s) = rest (omega arith) in
        record { stands = first.stands; first = passed first }
      where
        passed : IsFirstOf ns s (index_among ns s) → (k : ℕ) → k < suc (index_among ns s) → slice_get (n ∷ ns) k ≢ Some s
        passed first zero under here = true≢false (sym ((bytes_eq-Decides s n).1 (sym (same_Some here))) ∙ is)
        passed first (suc k) under here = first.first k (omega arith) here

pub first_index : (names : List (List ℕ)) (s : List ℕ) (k : ℕ) → index_of names s ≡ Some k → IsFirstOf names s k
first_index names s k e =
    let same : index_among names s ≡ k = sym (index_among-of names s) ∙ ap (λ o. unwrap_or o (length names)) e in
    let below : k < length names = index_within names s k e in
    subst (IsFirstOf names s) same (first_within names s (omega arith))

pub first_only : (names : List (List ℕ)) (s : List ℕ) (p : ℕ) → IsFirstOf names s p → index_among names s ≡ p
first_only [] s p h = absurd (no_Some h.stands)
first_only (n ∷ ns) s zero h = ap (λ b. cond b 0 (suc (index_among ns s))) ((bytes_eq-Decides s n).1 (sym (same_Some h.stands)))
first_only (n ∷ ns) s (suc p) h =
    let rest : IsFirstOf ns s p = record { stands = h.stands; first = λ k below. h.first (suc k) (omega arith) } in
    by (bytes_eq s n) refl (first_only ns s p rest)
  where
    by : (b : Bool) → bytes_eq s n ≡ b → index_among ns s ≡ p → cond b 0 (suc (index_among ns s)) ≡ suc p
    by true is e = absurd (h.first 0 (omega arith) (ap Some (sym ((bytes_eq-Decides s n).0 is))))
    by false is e = ap suc e

-- ---- what stands at a key

pub number_at : (key : List ℕ) (least most : ℕ) → Tells (at_key key (whole_number least most)) any (At key (IsNumberWithin least most))
number_at key least most = at_key_tells key (whole_number least most) any (IsNumberWithin least most) (number_tells least most)
