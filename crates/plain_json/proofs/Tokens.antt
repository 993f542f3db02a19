-- The first token of a text, by the first lexeme.
use Rattle.std.proofs.Common.{◌≡◌, ◌<◌, ℕ, Bool, true, false, List, [], ◌∷◌, length, Option, Some, None, refl, sym, ap, ◌∙◌, subst}
use Rattle.json.{specs.Token.{Token, begin_object, end_object, begin_array, end_array, key, string, number, boolean, null}, specs.Json.{Json, value, after_end_array}, specs.Lex.{token, colon, lex, between, Place, fresh, after_value, after_comma, after_key, begins_colon, may_begin, if_allowed, place_token, punctuate}, proofs.Grammar.{left, skip_value-shorter, value_is}}
use Rattle.plain_json.{specs.Plain.{IsNumberAt, IsNextNumber, BeginAt, tokens_at}, specs.declared.reader.Place.TheVariants.{Fresh, AfterValue}}
use Rattle.plain_json.specs.declared.reader.Place as reader

allowed : (b : Bool) (t : Token) (k : Place → List Token) (next : Place) → b ≡ true → if_allowed b t k next ≡ t ∷ k next
allowed b t k next e = ap (λ x. if_allowed x t k next) e

pub begins_behind : (rest bytes behind after : List ℕ) → lex between bytes ≡ lex between rest → bytes ≡ 44 ∷ behind → lex between after ≡ lex between behind
    → BeginAt (tokens_at AfterValue rest) after
unfolding punctuate lex
begins_behind rest bytes behind after same is next = (after_comma, refl, ap (punctuate after_value) (sym same ∙ ap (lex between) is) ∙ ap (punctuate after_comma) (sym next))

pub object_begins : (ts : List Token) (text rest : List ℕ) → BeginAt ts text → text ≡ 123 ∷ rest → ts ≡ begin_object ∷ tokens_at Fresh rest
unfolding punctuate lex
object_begins ts text rest (p, may, are) is =
    are ∙ ap (punctuate p) (ap (lex between) is) ∙ allowed (may_begin p) begin_object (λ n. punctuate n (lex between rest)) fresh may

pub array_begins : (ts : List Token) (text rest : List ℕ) → BeginAt ts text → text ≡ 91 ∷ rest → ts ≡ begin_array ∷ tokens_at Fresh rest
unfolding punctuate lex
array_begins ts text rest (p, may, are) is =
    are ∙ ap (punctuate p) (ap (lex between) is) ∙ allowed (may_begin p) begin_array (λ n. punctuate n (lex between rest)) fresh may

pub key_begins : (ts : List Token) (text s behind after rest : List ℕ) → BeginAt ts text → lex between text ≡ token (string s) ∷ lex between behind → lex between after ≡ lex between behind
    → after ≡ 58 ∷ rest → ts ≡ key s ∷ tokens_at Fresh rest
unfolding punctuate lex
key_begins ts text s behind after rest (p, may, are) first same is =
    let ls = lex between rest in
    are ∙ ap (punctuate p) (first ∙ ap (λ l. token (string s) ∷ l) (sym same ∙ ap (lex between) is)) ∙ allowed (may_begin p) (key s) (λ n. punctuate n (colon ∷ ls)) after_key may

pub string_begins : (ts : List Token) (text s behind after : List ℕ) → BeginAt ts text → lex between text ≡ token (string s) ∷ lex between behind → lex between after ≡ lex between behind
    → begins_colon (lex between after) ≡ false → ts ≡ string s ∷ tokens_at AfterValue behind
unfolding punctuate
string_begins ts text s behind after (p, may, are) first same no_colon =
    let ls = lex between behind in
    let none : begins_colon ls ≡ false = ap begins_colon (sym same) ∙ no_colon in
    are ∙ ap (punctuate p) first ∙ ap (λ b. place_token p (string s) b (λ n. punctuate n ls)) none ∙ allowed (may_begin p) (string s) (λ n. punctuate n ls) after_value may

pub number_begins : (ts : List Token) (text s rest : List ℕ) → BeginAt ts text → lex between text ≡ token (number s) ∷ lex between rest → ts ≡ number s ∷ tokens_at AfterValue rest
unfolding punctuate
number_begins ts text s rest (p, may, are) first = are ∙ ap (punctuate p) first ∙ allowed (may_begin p) (number s) (λ n. punctuate n (lex between rest)) after_value may

pub next_number : (ts : List Token) (text : List ℕ) (n : ℕ) (rest : List ℕ) → BeginAt ts text → IsNumberAt text n rest → IsNextNumber ts n (tokens_at AfterValue rest)
next_number ts text n rest begin (s, numeral, value, is, first) = (s, numeral, value, number_begins ts text s rest begin first)

pub truth_begins : (ts : List Token) (text : List ℕ) (b : Bool) (rest : List ℕ) → BeginAt ts text → lex between text ≡ token (boolean b) ∷ lex between rest → ts ≡ boolean b ∷ tokens_at AfterValue rest
unfolding punctuate
truth_begins ts text b rest (p, may, are) first = are ∙ ap (punctuate p) first ∙ allowed (may_begin p) (boolean b) (λ n. punctuate n (lex between rest)) after_value may

pub null_begins : (ts : List Token) (text rest : List ℕ) → BeginAt ts text → lex between text ≡ token null ∷ lex between rest → ts ≡ null ∷ tokens_at AfterValue rest
unfolding punctuate
null_begins ts text rest (p, may, are) first = are ∙ ap (punctuate p) first ∙ allowed (may_begin p) null (λ n. punctuate n (lex between rest)) after_value may

-- ---- where an object, an array or the text may end

pub object_ends : (place : reader.Place) (rest bytes behind : List ℕ) → lex between bytes ≡ lex between rest → bytes ≡ 125 ∷ behind
    → tokens_at place rest ≡ end_object ∷ tokens_at AfterValue behind
unfolding punctuate lex
object_ends Fresh rest bytes behind same is = ap (punctuate fresh) (sym same ∙ ap (lex between) is)
object_ends AfterValue rest bytes behind same is = ap (punctuate after_value) (sym same ∙ ap (lex between) is)

pub array_ends : (place : reader.Place) (rest bytes behind : List ℕ) → lex between bytes ≡ lex between rest → bytes ≡ 93 ∷ behind
    → tokens_at place rest ≡ end_array ∷ tokens_at AfterValue behind
unfolding punctuate lex
array_ends Fresh rest bytes behind same is = ap (punctuate fresh) (sym same ∙ ap (lex between) is)
array_ends AfterValue rest bytes behind same is = ap (punctuate after_value) (sym same ∙ ap (lex between) is)

pub text_ends : (place : reader.Place) (rest bytes : List ℕ) → lex between bytes ≡ lex between rest → bytes ≡ [] → tokens_at place rest ≡ []
unfolding punctuate lex
text_ends Fresh rest bytes same none = ap (punctuate fresh) (sym same ∙ ap (lex between) none)
text_ends AfterValue rest bytes same none = ap (punctuate after_value) (sym same ∙ ap (lex between) none)

-- where a value begins no array ends
abbrev IsNothing : {A : Type 0} → Option A → Type 0
IsNothing None = Unit {0}
IsNothing (Some a) = ⊥

pub no_end_array : (depth : ℕ) (ts : List Token) (j : Json) (r : List Token) → value depth ts ≡ Some (j, r) → after_end_array ts ≡ None
no_end_array depth (end_array ∷ ts) j r e = absurd (subst IsNothing (sym (value_is depth (end_array ∷ ts)) ∙ e) tt)
no_end_array depth ts j r e = refl

-- a value takes a token at least
pub value_shorter : (depth : ℕ) (ts r : List Token) (j : Json) → value depth ts ≡ Some (j, r) → length r < length ts
value_shorter depth ts r j e = skip_value-shorter depth ts r (ap left e)
