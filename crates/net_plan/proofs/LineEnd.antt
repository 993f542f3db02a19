-- The end of a line behind a JSON text changes nothing of its value.
use Rattle.std.{proofs.Common.{◌≡◌, ℕ, ◌+◌, ◌-◌, ◌≤◌, ◌==◌, List, [], ◌∷◌, ◌++◌, length, take, drop, Bool, true, false, cond, ◌&&◌, ◌||◌, nat_lt, nat_eq, Option, Some, None, option_map, option_and_then, refl, sym, ap, ap₂, ◌∙◌, arith, one-add}, proofs.lemmas.List.{length-append, take-append-le}, specs.Char.{is_ascii_digit, is_digit, encode_utf8}, specs.List.{prefix_len, starts_with}}
use Rattle.json.{specs.Lex.{Lexeme, token, Class, quote, backslash, space, other, class, string_token, Mode, between, in_word, in_string, lex_byte, lex, punctuate, fresh, tokens}, specs.Text.{Within, plain, after_backslash, after_u, after_high, content, code_unit, short_escape, prepend, is_high_surrogate, is_low_surrogate, surrogate_pair}, specs.Token.{number, boolean, null, bad}, specs.Word.{ends_word, after_digits, after_minus, after_sign, after_whole, after_fraction, after_exponent, after_number, number_before, literal, word}}
use Rattle.serde_json.specs.Read.{of_json, max_depth, read}
use Rattle.net_plan.specs.Texts.{HasSingleKeys}
use Rattle.json.specs.Ascii as ascii
use Rattle.json.specs.Json as json

abbrev ended : List ℕ → List ℕ
ended t = t ++ 10 ∷ []

-- ---- strings

no_unit : (b : Bool) (n : ℕ) → cond (b && false) (Some n) None ≡ None
no_unit true n = refl
no_unit false n = refl

unit_line : (a b c : ℕ) → code_unit a b c 10 ≡ None
unfolding code_unit
unit_line a b c = no_unit (is_digit a 16 && is_digit b 16 && is_digit c 16) _

then_same : {A B : Type 0} (o : Option A) (f g : A → Option B) → ((x : A) → f x ≡ g x) → option_and_then f o ≡ option_and_then g o
then_same None f g h = refl
then_same (Some x) f g h = h x

then_none : {A B : Type 0} (f : A → Option B) (o : Option A) (b : Bool) → o ≡ None → cond b (option_and_then f o) None ≡ None
then_none f o true e = ap (option_and_then f) e
then_none f o false e = refl

content_line : (w : Within) (t : List ℕ) → content w (ended t) ≡ content w t
unfolding content short_escape
content_line plain (x ∷ xs) = ap₂ (λ a b. cond (x == ascii.quote) (Some []) (cond (x == ascii.backslash) a (cond (nat_lt x ascii.space) None (prepend (x ∷ []) b)))) (content_line after_backslash xs) (content_line plain xs)
content_line after_backslash (x ∷ xs) = ap₂ (λ a b. cond (x == ascii.lower_u) a (option_and_then (λ c. prepend (c ∷ []) b) (short_escape x))) (content_line after_u xs) (content_line plain xs)
content_line after_u (a ∷ b ∷ c ∷ []) = ap (option_and_then (λ u. cond (is_high_surrogate u) (content (after_high u) []) (cond (is_low_surrogate u) None (prepend (encode_utf8 u) (content plain []))))) (unit_line a b c)
content_line after_u (a ∷ b ∷ c ∷ d ∷ xs) =
    let rest = content_line plain xs in
    let high : (u : ℕ) → content (after_high u) (ended xs) ≡ content (after_high u) xs = λ u. content_line (after_high u) xs in
    then_same (code_unit a b c d) _ _ (λ u. ap₂ (λ p q. cond (is_high_surrogate u) p (cond (is_low_surrogate u) None (prepend (encode_utf8 u) q))) (high u) rest)
content_line (after_high h) (s ∷ u ∷ a ∷ b ∷ c ∷ []) =
    then_none (λ l. cond (is_low_surrogate l) (prepend (encode_utf8 (surrogate_pair h l)) (content plain [])) None) (code_unit a b c 10) ((s == ascii.backslash) && (u == ascii.lower_u)) (unit_line a b c)
content_line (after_high h) (s ∷ u ∷ a ∷ b ∷ c ∷ d ∷ xs) =
    ap (λ q. cond ((s == ascii.backslash) && (u == ascii.lower_u)) (option_and_then (λ l. cond (is_low_surrogate l) (prepend (encode_utf8 (surrogate_pair h l)) q) None) (code_unit a b c d)) None) (content_line plain xs)
content_line w t = refl

-- ---- numbers and literals

ends_line : (t : List ℕ) → ends_word (ended t) ≡ ends_word t
ends_line [] = refl
ends_line (x ∷ xs) = refl

abbrev lined : Option (List ℕ) → Option (List ℕ)
lined o = option_map ended o

minus_by : (b : Bool) (x : ℕ) (xs : List ℕ) → cond b (ended xs) (x ∷ ended xs) ≡ ended (cond b xs (x ∷ xs))
minus_by true x xs = refl
minus_by false x xs = refl

minus_line : (t : List ℕ) → after_minus (ended t) ≡ ended (after_minus t)
minus_line [] = refl
minus_line (x ∷ xs) = minus_by (x == ascii.minus) x xs

sign_line : (t : List ℕ) → after_sign (ended t) ≡ ended (after_sign t)
sign_line [] = refl
sign_line (x ∷ xs) = minus_by ((x == ascii.minus) || (x == ascii.plus)) x xs

prefix_line : (t : List ℕ) → prefix_len is_ascii_digit (ended t) ≡ prefix_len is_ascii_digit t
prefix_line [] = refl
prefix_line (x ∷ xs) = ap (λ n. cond (is_ascii_digit x) (1 + n) 0) (prefix_line xs)

drop_line : (t : List ℕ) → drop (prefix_len is_ascii_digit t) (ended t) ≡ ended (drop (prefix_len is_ascii_digit t) t)
drop_line [] = refl
drop_line (x ∷ xs) = by (is_ascii_digit x) (drop_line xs)
  where
    by : (b : Bool) → drop (prefix_len is_ascii_digit xs) (ended xs) ≡ ended (drop (prefix_len is_ascii_digit xs) xs)
        → drop (cond b (1 + prefix_len is_ascii_digit xs) 0) (x ∷ ended xs) ≡ ended (drop (cond b (1 + prefix_len is_ascii_digit xs) 0) (x ∷ xs))
    by true e = let n = prefix_len is_ascii_digit xs in ap (λ k. drop k (x ∷ ended xs)) (one-add n) ∙ e ∙ ap (λ k. ended (drop k (x ∷ xs))) (sym (one-add n))
    by false e = refl

digits_line : (t : List ℕ) → after_digits (ended t) ≡ lined (after_digits t)
digits_line t = ap (λ n. cond (n == 0) None (Some (drop n (ended t)))) (prefix_line t) ∙ by (prefix_len is_ascii_digit t == 0)
  where
    by : (b : Bool) → cond b None (Some (drop (prefix_len is_ascii_digit t) (ended t))) ≡ lined (cond b None (Some (drop (prefix_len is_ascii_digit t) t)))
    by true = refl
    by false = ap Some (drop_line t)

either_line : (b : Bool) (o p : Option (List ℕ)) → cond b (lined o) (lined p) ≡ lined (cond b o p)
either_line true o p = refl
either_line false o p = refl

whole_line : (t : List ℕ) → after_whole (ended t) ≡ lined (after_whole t)
whole_line [] = refl
whole_line (x ∷ xs) = ap (cond (x == ascii.zero) (Some (ended xs))) (digits_line (x ∷ xs)) ∙ either_line (x == ascii.zero) (Some xs) (after_digits (x ∷ xs))

fraction_line : (t : List ℕ) → after_fraction (ended t) ≡ lined (after_fraction t)
fraction_line [] = refl
fraction_line (x ∷ xs) = ap (λ o. cond (x == ascii.dot) o (Some (x ∷ ended xs))) (digits_line xs) ∙ either_line (x == ascii.dot) (after_digits xs) (Some (x ∷ xs))

exponent_line : (t : List ℕ) → after_exponent (ended t) ≡ lined (after_exponent t)
exponent_line [] = refl
exponent_line (x ∷ xs) =
    let marked = (x == ascii.lower_e) || (x == ascii.upper_e) in
    ap (λ o. cond marked o (Some (x ∷ ended xs))) (ap after_digits (sign_line xs) ∙ digits_line (after_sign xs)) ∙ either_line marked (after_digits (after_sign xs)) (Some (x ∷ xs))

then_line : (f : List ℕ → Option (List ℕ)) → ((t : List ℕ) → f (ended t) ≡ lined (f t)) → (o : Option (List ℕ)) → option_and_then f (lined o) ≡ lined (option_and_then f o)
then_line f each None = refl
then_line f each (Some t) = each t

number_line : (t : List ℕ) → after_number (ended t) ≡ lined (after_number t)
unfolding after_number
number_line t =
    ap (λ r. option_and_then after_exponent (option_and_then after_fraction (after_whole r))) (minus_line t)
    ∙ ap (λ o. option_and_then after_exponent (option_and_then after_fraction o)) (whole_line (after_minus t))
    ∙ ap (option_and_then after_exponent) (then_line after_fraction fraction_line (after_whole (after_minus t)))
    ∙ then_line after_exponent exponent_line (option_and_then after_fraction (after_whole (after_minus t)))

before_line : (t : List ℕ) (o : Option (List ℕ)) → number_before (ended t) (lined o) ≡ number_before t o
before_line t None = refl
before_line t (Some rest) =
    let few : length t - length rest ≤ length t = omega arith in
    let count : length (ended t) - length (ended rest) ≡ length t - length rest = omega (arith, length-append t (10 ∷ []), length-append rest (10 ∷ [])) in
    ap₂ (λ b n. cond b (number (take n (ended t))) bad) (ends_line rest) count ∙ ap (λ s. cond (ends_word rest) (number s) bad) (take-append-le (length t - length rest) t (10 ∷ []) few)

true_line : (x : ℕ) (xs : List ℕ) → literal ascii.true_text (boolean true) (x ∷ ended xs) ≡ literal ascii.true_text (boolean true) (x ∷ xs)
true_line x (a ∷ b ∷ c ∷ xs) = ap (λ e. cond (starts_with nat_eq (x ∷ a ∷ b ∷ c ∷ xs) ascii.true_text && e) (boolean true) bad) (ends_line xs)
true_line x xs = refl

false_line : (x : ℕ) (xs : List ℕ) → literal ascii.false_text (boolean false) (x ∷ ended xs) ≡ literal ascii.false_text (boolean false) (x ∷ xs)
false_line x (a ∷ b ∷ c ∷ d ∷ xs) = ap (λ e. cond (starts_with nat_eq (x ∷ a ∷ b ∷ c ∷ d ∷ xs) ascii.false_text && e) (boolean false) bad) (ends_line xs)
false_line x xs = refl

null_line : (x : ℕ) (xs : List ℕ) → literal ascii.null_text null (x ∷ ended xs) ≡ literal ascii.null_text null (x ∷ xs)
null_line x (a ∷ b ∷ c ∷ xs) = ap (λ e. cond (starts_with nat_eq (x ∷ a ∷ b ∷ c ∷ xs) ascii.null_text && e) null bad) (ends_line xs)
null_line x xs = refl

word_line : (x : ℕ) (xs : List ℕ) → word (x ∷ ended xs) ≡ word (x ∷ xs)
unfolding word
word_line x xs =
    let numbers : number_before (x ∷ ended xs) (after_number (x ∷ ended xs)) ≡ number_before (x ∷ xs) (after_number (x ∷ xs)) = ap (number_before (x ∷ ended xs)) (number_line (x ∷ xs)) ∙ before_line (x ∷ xs) (after_number (x ∷ xs)) in
    ap₂ (λ t f. cond (x == ascii.lower_t) t (cond (x == ascii.lower_f) f (cond (x == ascii.lower_n) (literal ascii.null_text null (x ∷ ended xs)) (number_before (x ∷ ended xs) (after_number (x ∷ ended xs)))))) (true_line x xs) (false_line x xs)
    ∙ ap₂ (λ n k. cond (x == ascii.lower_t) (literal ascii.true_text (boolean true) (x ∷ xs)) (cond (x == ascii.lower_f) (literal ascii.false_text (boolean false) (x ∷ xs)) (cond (x == ascii.lower_n) n k))) (null_line x xs) numbers

-- ---- texts

byte_line : (m : Mode) (c : Class) (x : ℕ) (xs : List ℕ) (k : Mode → List Lexeme) → lex_byte m c x (ended xs) k ≡ lex_byte m c x xs k
byte_line between quote x xs k = ap (λ o. token (string_token o) ∷ k in_string) (content_line plain xs)
byte_line between other x xs k = ap (λ w. token w ∷ k in_word) (word_line x xs)
byte_line in_word quote x xs k = refl
byte_line in_string quote x xs k = refl
byte_line m c x xs k = refl

lex_line : (m : Mode) (t : List ℕ) → lex m (ended t) ≡ lex m t
unfolding lex
lex_line between [] = refl
lex_line m (x ∷ xs) =
    let onward : (next : Mode) → lex next (ended xs) ≡ lex next xs = λ next. lex_line next xs in
    let same : ◌≡◌ {A = Mode → List Lexeme} (λ next. lex next (ended xs)) (λ next. lex next xs) = λ i next. onward next i in
    ap (lex_byte m (class x) x (ended xs)) same ∙ byte_line m (class x) x xs (λ next. lex next xs)
lex_line m [] = refl

tokens_line : (t : List ℕ) → tokens (t ++ 10 ∷ []) ≡ tokens t
tokens_line t = ap (punctuate fresh) (lex_line between t)

pub read_line : (t : List ℕ) → read (t ++ 10 ∷ []) ≡ read t
read_line t = ap (λ ts. option_and_then of_json (option_and_then (λ p. json.if_last p.0 p.1) (json.value max_depth ts))) (tokens_line t)

-- nor of its keys
pub single_line : (t : List ℕ) → HasSingleKeys t → HasSingleKeys (t ++ 10 ∷ [])
single_line t h = (h.0, ap (λ ts. option_and_then (λ p. json.if_last p.0 p.1) (json.value max_depth ts)) (tokens_line t) ∙ h.1, h.2)
