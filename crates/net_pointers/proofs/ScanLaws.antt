-- Each token of a text is found where it begins.
use Rattle.std.{proofs.Common.{◌≡◌, ◌≢◌, ◌⊎◌, inl, inr, ◌<◌, ◌≤◌, ◌+◌, ◌==◌, ◌||◌, ℕ, zero, suc, Bool, true, false, not, cond, List, [], ◌∷◌, ◌++◌, length, drop, get_or, nat_lt, Some, None, option_and_then, drop-cons, refl, sym, ap, ◌∙◌, subst, arith}, specs.Prelude.{⊤}, proofs.Math.Seq.{drop-nil}, proofs.Math.ListN.{drop_of_length-le}, specs.Char.{is_ascii_digit}, specs.List.{prefix_len}, proofs.lemmas.Bool.{true≢false, false≢true, eqb-true, ltb-true}, proofs.lemmas.List.{append_assoc, append-nil, length-append}}
use Rattle.json.{specs.Token.{Token, begin_object, end_object, begin_array, end_array, key, string, boolean, null, bad}, specs.Text.{content, plain}, specs.Ascii.{true_text, false_text, null_text}, specs.Word.{word, after_digits, after_minus, after_whole, after_fraction, after_exponent, after_number, number_before, literal}, specs.Lex.{Lexeme, token, comma, colon, Class, quote, backslash, operator, space, other, class, operator_lexeme, string_token, Mode, between, in_word, in_string, in_escape, lex_byte, lex, Place, fresh, after_value, after_comma, after_key, begins_colon, may_begin, may_close, if_allowed, place_token, punctuate, tokens}}
use Rattle.net_pointers.{specs.Offsets.{is_mark}, specs.Scans.{is_bracket, begins_token, mode_after}}

-- ---- by the byte

decide : {P : Type 0} (b : Bool) → (b ≡ true → P) → (b ≡ false → P) → P
decide true f g = f refl
decide false f g = g refl

record IsPlain (x : ℕ) : Type 0 where
  quoted : (x == 34) ≡ false
  escapes : (x == 92) ≡ false
  mark : is_mark x ≡ false
  bracket : is_bracket x ≡ false
  is : class x ≡ other

module _ (P : ℕ → Type 0) where
  at : (x c : ℕ) → P c → ((x == c) ≡ false → P x) → P x
  at x c there elsewhere = decide (x == c) (λ e. subst P (sym (eqb-true x c e)) there) elsewhere

by_byte : (P : ℕ → Type 0) → P 34 → P 92 → P 123 → P 125 → P 91 → P 93 → P 58 → P 44 → P 32 → P 9 → P 10 → P 13 → ((x : ℕ) → IsPlain x → P x) → (x : ℕ) → P x
by_byte P q b oo co oa ca cn cm sp tb lf cr plain_byte x =
    at P x 34 q (λ e34. at P x 92 b (λ e92. at P x 123 oo (λ e123. at P x 125 co (λ e125. at P x 91 oa (λ e91. at P x 93 ca (λ e93.
    at P x 58 cn (λ e58. at P x 44 cm (λ e44. at P x 32 sp (λ e32. at P x 9 tb (λ e9. at P x 10 lf (λ e10. at P x 13 cr (λ e13.
    plain_byte x (record {
      quoted = e34;
      escapes = e92;
      mark = λ i. e32 i || e9 i || e10 i || e13 i || e44 i || e58 i;
      bracket = λ i. e91 i || e93 i || e123 i || e125 i;
      is = λ i. cond (e34 i) quote (cond (e92 i) backslash (cond (e123 i || e125 i || e91 i || e93 i || e58 i || e44 i) operator (cond (e32 i || e9 i || e10 i || e13 i) space other)));
    })))))))))))))

-- ---- one byte of a text

abbrev begun : Mode → Class → ℕ → List ℕ → List Lexeme
begun between quote x xs = token (string_token (content plain xs)) ∷ []
begun between backslash x xs = token bad ∷ []
begun between operator x xs = operator_lexeme x ∷ []
begun between other x xs = token (word (x ∷ xs)) ∷ []
begun in_word operator x xs = operator_lexeme x ∷ []
begun m c x xs = []

abbrev after_class : Mode → Class → Mode
after_class between quote = in_string
after_class in_string quote = between
after_class in_string backslash = in_escape
after_class in_string c = in_string
after_class in_escape c = in_string
after_class m operator = between
after_class m space = between
after_class m c = in_word

step : (m : Mode) (c : Class) (x : ℕ) (xs : List ℕ) (k : Mode → List Lexeme) → lex_byte m c x xs k ≡ begun m c x xs ++ k (after_class m c)
step between quote x xs k = refl
step in_word quote x xs k = refl
step in_string quote x xs k = refl
step m c x xs k = refl

after_is : (m : Mode) (x : ℕ) → mode_after m x ≡ after_class m (class x)
after_is between = by_byte (λ x. mode_after between x ≡ after_class between (class x)) refl refl refl refl refl refl refl refl refl refl refl refl
    (λ x p. (λ i. cond (p.quoted i) in_string (cond (p.mark i || p.bracket i) between in_word)) ∙ sym (ap (after_class between) p.is))
after_is in_word = by_byte (λ x. mode_after in_word x ≡ after_class in_word (class x)) refl refl refl refl refl refl refl refl refl refl refl refl
    (λ x p. (λ i. cond (p.mark i || p.bracket i) between in_word) ∙ sym (ap (after_class in_word) p.is))
after_is in_string = by_byte (λ x. mode_after in_string x ≡ after_class in_string (class x)) refl refl refl refl refl refl refl refl refl refl refl refl
    (λ x p. (λ i. cond (p.quoted i) between (cond (p.escapes i) in_escape in_string)) ∙ sym (ap (after_class in_string) p.is))
after_is in_escape = λ x. refl

lexed_on : (m : Mode) (x : ℕ) (xs : List ℕ) → lex m (x ∷ xs) ≡ begun m (class x) x xs ++ lex (mode_after m x) xs
unfolding lex
lexed_on m x xs = step m (class x) x xs (λ n. lex n xs) ∙ ap (λ n. begun m (class x) x xs ++ lex n xs) (sym (after_is m x))

-- how many tokens are among the lexemes
abbrev token_count : List Lexeme → ℕ
token_count [] = 0
token_count (token t ∷ ls) = token_count ls + 1
token_count (comma ∷ ls) = token_count ls
token_count (colon ∷ ls) = token_count ls

count_all : (ls ks : List Lexeme) → token_count (ls ++ ks) ≡ token_count ls + token_count ks
count_all [] ks = omega arith
count_all (token t ∷ ls) ks = let rest = count_all ls ks in omega arith
count_all (comma ∷ ls) ks = count_all ls ks
count_all (colon ∷ ls) ks = count_all ls ks

none_begun : (m : Mode) (x : ℕ) (xs : List ℕ) → begins_token m x ≡ false → token_count (begun m (class x) x xs) ≡ 0
none_begun between x xs = by_byte (λ y. begins_token between y ≡ false → token_count (begun between (class y) y xs) ≡ 0)
    (λ h. absurd (true≢false h)) (λ h. absurd (true≢false h)) (λ h. absurd (true≢false h)) (λ h. absurd (true≢false h)) (λ h. absurd (true≢false h)) (λ h. absurd (true≢false h))
    (λ h. refl) (λ h. refl) (λ h. refl) (λ h. refl) (λ h. refl) (λ h. refl) (λ y p h. absurd (true≢false (sym (ap not p.mark) ∙ h))) x
none_begun in_word x xs = by_byte (λ y. begins_token in_word y ≡ false → token_count (begun in_word (class y) y xs) ≡ 0)
    (λ h. refl) (λ h. refl) (λ h. absurd (true≢false h)) (λ h. absurd (true≢false h)) (λ h. absurd (true≢false h)) (λ h. absurd (true≢false h))
    (λ h. refl) (λ h. refl) (λ h. refl) (λ h. refl) (λ h. refl) (λ h. refl) (λ y p h. ap (λ c. token_count (begun in_word c y xs)) p.is) x
none_begun in_string x xs = λ h. refl
none_begun in_escape x xs = λ h. refl

-- ---- a word of JSON begins with a character of ASCII

no_number : (x c : ℕ) → 128 ≤ x → c < 128 → (x == c) ≡ false
no_number x c far near = decide (x == c) (λ e. let same = eqb-true x c e in absurd (omega arith)) (λ e. e)

far_digit : (x : ℕ) → 128 ≤ x → is_ascii_digit x ≡ false
far_digit x far = grind arith

no_digits : (x : ℕ) (xs : List ℕ) → 128 ≤ x → after_digits (x ∷ xs) ≡ None
no_digits x xs far = λ i. cond (prefix_of i == 0) None (Some (drop (prefix_len is_ascii_digit (x ∷ xs)) (x ∷ xs)))
  where
    prefix_of : prefix_len is_ascii_digit (x ∷ xs) ≡ 0
    prefix_of = λ i. cond (far_digit x far i) (1 + prefix_len is_ascii_digit xs) 0

far_word : (x : ℕ) (xs : List ℕ) → 128 ≤ x → word (x ∷ xs) ≡ bad
unfolding word after_number
far_word x xs far =
    let t = x ∷ xs in
    let minus : after_minus t ≡ t = λ i. cond (no_number x 45 far (omega arith) i) xs t in
    let whole : after_whole t ≡ None = (λ i. cond (no_number x 48 far (omega arith) i) (Some xs) (after_digits t)) ∙ no_digits x xs far in
    let none : after_number t ≡ None = ap (λ r. option_and_then after_exponent (option_and_then after_fraction r)) (ap after_whole minus ∙ whole) in
    (λ i. cond (no_number x 116 far (omega arith) i) (literal true_text (boolean true) t) (cond (no_number x 102 far (omega arith) i) (literal false_text (boolean false) t)
    (cond (no_number x 110 far (omega arith) i) (literal null_text null t) (number_before t (after_number t))))) ∙ ap (number_before t) none

plain_word : (x : ℕ) (xs : List ℕ) → (x < 128) ⊎ (word (x ∷ xs) ≡ bad)
plain_word x xs = decide (nat_lt x 128) (λ e. inl (ltb-true x 128 e)) (λ e. inr (far_word x xs (grind arith)))

-- a token begins with the byte, whatever stands before it
record Begins (m : Mode) (x : ℕ) (xs : List ℕ) : Type 0 where
  first : Token
  one : begun m (class x) x xs ≡ token first ∷ []
  same : begun m (class x) x xs ≡ begun between (class x) x xs
  after : after_class m (class x) ≡ after_class between (class x)
  mark : is_mark x ≡ false
  ascii : (x < 128) ⊎ (first ≡ bad)

begins : (m : Mode) (x : ℕ) (xs : List ℕ) → begins_token m x ≡ true → Begins m x xs
begins between x xs = by_byte (λ y. begins_token between y ≡ true → Begins between y xs)
    (λ h. it refl refl (omega arith)) (λ h. it refl refl (omega arith)) (λ h. it refl refl (omega arith)) (λ h. it refl refl (omega arith)) (λ h. it refl refl (omega arith)) (λ h. it refl refl (omega arith)) (λ h. absurd (false≢true h)) (λ h. absurd (false≢true h))
    (λ h. absurd (false≢true h)) (λ h. absurd (false≢true h)) (λ h. absurd (false≢true h)) (λ h. absurd (false≢true h))
    (λ y p h. record { first = word (y ∷ xs); one = ap (λ c. begun between c y xs) p.is; same = refl; after = refl; mark = p.mark; ascii = plain_word y xs }) x
  where
    it : {y : ℕ} {t : Token} → begun between (class y) y xs ≡ token t ∷ [] → is_mark y ≡ false → y < 128 → Begins between y xs
    it {y} {t} e m a = record { first = t; one = e; same = refl; after = refl; mark = m; ascii = inl a }
begins in_word x xs = by_byte (λ y. begins_token in_word y ≡ true → Begins in_word y xs)
    (λ h. absurd (false≢true h)) (λ h. absurd (false≢true h))
    (λ h. record { first = begin_object; one = refl; same = refl; after = refl; mark = refl; ascii = inl (omega arith) })
    (λ h. record { first = end_object; one = refl; same = refl; after = refl; mark = refl; ascii = inl (omega arith) })
    (λ h. record { first = begin_array; one = refl; same = refl; after = refl; mark = refl; ascii = inl (omega arith) })
    (λ h. record { first = end_array; one = refl; same = refl; after = refl; mark = refl; ascii = inl (omega arith) })
    (λ h. absurd (false≢true h)) (λ h. absurd (false≢true h)) (λ h. absurd (false≢true h)) (λ h. absurd (false≢true h)) (λ h. absurd (false≢true h)) (λ h. absurd (false≢true h))
    (λ y p h. absurd (false≢true (sym p.bracket ∙ h))) x
begins in_string x xs = λ h. absurd (false≢true h)
begins in_escape x xs = λ h. absurd (false≢true h)

-- ---- the tokens of what was passed

-- the first token of a list
abbrev first_or : Token → List Token → Token
first_or t [] = t
first_or t (u ∷ us) = u

abbrev AreSome : List Token → Type 0
AreSome [] = ⊥
AreSome (u ∷ us) = ⊤

-- after some lexemes the tokens go on with those of the others, or the text was found to be no JSON before
abbrev Cut : List Token → ℕ → List Lexeme → Type 0
Cut ts n after =
    ((pre : List Token) × (p : Place) × (ts ≡ pre ++ punctuate p after) × (length pre ≡ n))
    ⊎ ((pre : List Token) × (ts ≡ pre ++ (bad ∷ [])) × (length pre ≤ n))

broken : (ts : List Token) (n : ℕ) (after : List Lexeme) → ts ≡ bad ∷ [] → Cut ts n after
broken ts n after e = inr ([], e, omega arith)

one_more : (t : Token) (ts : List Token) (n : ℕ) (after : List Lexeme) → Cut ts n after → Cut (t ∷ ts) (n + 1) after
one_more t ts n after (inl (pre, p, e, long)) = inl (t ∷ pre, p, ap (λ us. t ∷ us) e, omega arith)
one_more t ts n after (inr (pre, e, long)) = inr (t ∷ pre, ap (λ us. t ∷ us) e, omega arith)

-- a token may stand there, or not
abbrev Placed : List Token → (Place → List Token) → Type 0
Placed ts k = (ts ≡ bad ∷ []) ⊎ ((u : Token) × (next : Place) × (ts ≡ u ∷ k next))

if_it_may : (b : Bool) (u : Token) (k : Place → List Token) (next : Place) → Placed (if_allowed b u k next) k
if_it_may true u k next = inr (u, next, refl)
if_it_may false u k next = inl refl

placed : (p : Place) (t : Token) (b : Bool) (k : Place → List Token) → Placed (place_token p t b k) k
placed p begin_object b k = if_it_may (may_begin p) begin_object k fresh
placed p end_object b k = if_it_may (may_close p) end_object k after_value
placed p begin_array b k = if_it_may (may_begin p) begin_array k fresh
placed p end_array b k = if_it_may (may_close p) end_array k after_value
placed p (string s) true k = if_it_may (may_begin p) (key s) k after_key
placed p (key s) b k = inl refl
placed p bad b k = inl refl
placed p t b k = if_it_may (may_begin p) t k after_value

punctuate_token : (p : Place) (t : Token) (ls : List Lexeme) → punctuate p (token t ∷ ls) ≡ place_token p t (begins_colon ls) (λ next. punctuate next ls)
unfolding punctuate
punctuate_token fresh t ls = refl
punctuate_token p t ls = refl

cut : (p : Place) (before after : List Lexeme) → Cut (punctuate p (before ++ after)) (token_count before) after
unfolding punctuate
cut p [] after = inl ([], p, refl, refl)
cut p (token t ∷ ls) after = by (λ next. cut next ls after) (placed p t (begins_colon (ls ++ after)) (λ next. punctuate next (ls ++ after)))
  where
    by : ((next : Place) → Cut (punctuate next (ls ++ after)) (token_count ls) after) → Placed (place_token p t (begins_colon (ls ++ after)) (λ next. punctuate next (ls ++ after))) (λ next. punctuate next (ls ++ after)) → Cut (punctuate p (token t ∷ (ls ++ after))) (token_count ls + 1) after
    by more (inl e) = broken _ _ after (punctuate_token p t (ls ++ after) ∙ e)
    by more (inr (u, next, e)) = subst (λ ts. Cut ts (token_count ls + 1) after) (sym (punctuate_token p t (ls ++ after) ∙ e)) (one_more u _ _ after (more next))
cut after_value (comma ∷ ls) after = cut after_comma ls after
cut after_key (colon ∷ ls) after = cut fresh ls after
cut p (l ∷ ls) after = broken _ _ after refl

none_left : {P : Type 0} (u : Token) (us : List Token) → [] ≡ u ∷ us → P
none_left u us e = absurd (subst AreSome (sym e) tt)

past_bad : (pre : List Token) (n : ℕ) (u : Token) (us : List Token) → length pre ≤ n → drop n (pre ++ (bad ∷ [])) ≡ u ∷ us → bad ≡ u
past_bad [] zero u us le e = ap (first_or bad) e
past_bad [] (suc n) u us le e = none_left u us (sym (drop-nil n) ∙ e)
past_bad (t ∷ pre) zero u us le e = absurd (omega arith)
past_bad (t ∷ pre) (suc n) u us le e = past_bad pre n u us (omega arith) e

past_all : (pre ts : List Token) (n : ℕ) → length pre ≡ n → drop n (pre ++ ts) ≡ ts
past_all [] ts zero e = refl
past_all (t ∷ pre) ts (suc n) e = past_all pre ts n (omega arith)
past_all pre ts n e = absurd (omega arith)

-- ---- a token of its own

goes_on : (b : Bool) (v : Token) (k : Place → List Token) (next : Place) (u : Token) (us : List Token) → if_allowed b v k next ≡ u ∷ us → u ≢ bad → v ∷ k next ≡ u ∷ us
goes_on true v k next u us e sound = e
goes_on false v k next u us e sound = absurd (sound (sym (ap (first_or bad) e)))

broken_off : {ts : List Token} (u : Token) (us : List Token) → bad ∷ [] ≡ u ∷ us → u ≢ bad → ts ≡ u ∷ us
broken_off u us e sound = absurd (sound (sym (ap (first_or bad) e)))

alone : (p : Place) (t : Token) (b : Bool) (k : Place → List Token) (u : Token) (us : List Token) → place_token p t b k ≡ u ∷ us → u ≢ bad → place_token fresh t b k ≡ u ∷ us
alone p begin_object b k u us e sound = goes_on (may_begin p) begin_object k fresh u us e sound
alone p end_object b k u us e sound = goes_on (may_close p) end_object k after_value u us e sound
alone p begin_array b k u us e sound = goes_on (may_begin p) begin_array k fresh u us e sound
alone p end_array b k u us e sound = goes_on (may_close p) end_array k after_value u us e sound
alone p (string s) true k u us e sound = goes_on (may_begin p) (key s) k after_key u us e sound
alone p (key s) b k u us e sound = broken_off u us e sound
alone p bad b k u us e sound = broken_off u us e sound
alone p t b k u us e sound = goes_on (may_begin p) t k after_value u us e sound

from_token : (p : Place) (t : Token) (ls : List Lexeme) (u : Token) (us : List Token) → punctuate p (token t ∷ ls) ≡ u ∷ us → u ≢ bad → punctuate fresh (token t ∷ ls) ≡ u ∷ us
from_token p t ls u us e sound = punctuate_token fresh t ls ∙ alone p t (begins_colon ls) _ u us (sym (punctuate_token p t ls) ∙ e) sound

-- ---- along the text

-- before the offset so many tokens begin, and what stands there is read in the mode
pub IsPassed : List ℕ → Mode → ℕ → ℕ → Type 0
IsPassed text m offset n =
    (before : List Lexeme) × (lex between text ≡ before ++ lex m (drop offset text)) × (token_count before ≡ n)

pub nothing_passed : (text : List ℕ) → IsPassed text between 0 0
unfolding IsPassed
nothing_passed text = ([], refl, refl)

next_byte : (text : List ℕ) (offset : ℕ) → offset < length text → drop offset text ≡ get_or text offset 0 ∷ drop (offset + 1) text
next_byte text offset within =
    let one : suc offset ≡ offset + 1 = omega arith in
    drop-cons text offset 0 within ∙ ap (λ n. get_or text offset 0 ∷ drop n text) one

passed_on : (text : List ℕ) (m : Mode) (offset n : ℕ) (x : ℕ) (xs : List ℕ) → IsPassed text m offset n → drop offset text ≡ x ∷ xs → drop (offset + 1) text ≡ xs → IsPassed text (mode_after m x) (offset + 1) (n + token_count (begun m (class x) x xs))
unfolding IsPassed
passed_on text m offset n x xs (before, e, count) here next = (
  before ++ begun m (class x) x xs,
  e ∙ ap (λ ys. before ++ lex m ys) here ∙ ap (λ ls. before ++ ls) (lexed_on m x xs) ∙ sym (append_assoc before (begun m (class x) x xs) (lex (mode_after m x) xs))
      ∙ ap (λ ys. (before ++ begun m (class x) x xs) ++ lex (mode_after m x) ys) (sym next),
  count_all before (begun m (class x) x xs) ∙ ap (λ k. k + token_count (begun m (class x) x xs)) count,
)

sound_token : (p : Place) (t : Token) (ls : List Lexeme) (u : Token) (us : List Token) → punctuate p (token t ∷ ls) ≡ u ∷ us → u ≢ bad → t ≢ bad
sound_token p t ls u us e sound faulty =
    sound (sym (ap (first_or bad) (sym (ap (λ s. place_token p s (begins_colon ls) (λ next. punctuate next ls)) faulty) ∙ sym (punctuate_token p t ls) ∙ e)))

abbrev ReadsSame : ℕ → List ℕ → Mode → Token → Type 0
ReadsSame x xs m t = (R : List Lexeme) × (lex m (x ∷ xs) ≡ token t ∷ R) × (lex between (x ∷ xs) ≡ token t ∷ R)

reads_same : (m : Mode) (x : ℕ) (xs : List ℕ) (b : Begins m x xs) → ReadsSame x xs m b.first
reads_same m x xs b = (
  lex (mode_after m x) xs,
  lexed_on m x xs ∙ ap (λ ls. ls ++ lex (mode_after m x) xs) b.one,
  lexed_on between x xs ∙ ap (λ ls. ls ++ lex (mode_after between x) xs) (sym b.same ∙ b.one)
      ∙ ap (λ n. token b.first ∷ lex n xs) (after_is between x ∙ sym b.after ∙ sym (after_is m x)),
)

-- the byte that stands at an offset, and what stands behind it
pub passed_over : (text : List ℕ) (m : Mode) (offset n : ℕ) → IsPassed text m offset n → offset < length text → begins_token m (get_or text offset 0) ≡ false → IsPassed text (mode_after m (get_or text offset 0)) (offset + 1) n
passed_over text m offset n passed within none =
    let x = get_or text offset 0 in
    let xs = drop (offset + 1) text in
    let same : n + token_count (begun m (class x) x xs) ≡ n = let zero_more = none_begun m x xs none in omega arith in
    subst (λ k. IsPassed text (mode_after m x) (offset + 1) k) same (passed_on text m offset n x xs passed (next_byte text offset within) refl)

pub passed_token : (text : List ℕ) (m : Mode) (offset n : ℕ) → IsPassed text m offset n → offset < length text → begins_token m (get_or text offset 0) ≡ true → IsPassed text (mode_after m (get_or text offset 0)) (offset + 1) (n + 1)
passed_token text m offset n passed within one =
    let x = get_or text offset 0 in
    let xs = drop (offset + 1) text in
    let b = begins m x xs one in
    let same : n + token_count (begun m (class x) x xs) ≡ n + 1 = let one_more = ap token_count b.one in omega arith in
    subst (λ k. IsPassed text (mode_after m x) (offset + 1) k) same (passed_on text m offset n x xs passed (next_byte text offset within) refl)

pub no_mark : (m : Mode) (x : ℕ) → begins_token m x ≡ true → is_mark x ≡ false
no_mark m x one = (begins m x [] one).mark

found_here : (text : List ℕ) (m : Mode) (offset n x : ℕ) (xs : List ℕ) (u : Token) (us : List Token) → IsPassed text m offset n → drop offset text ≡ x ∷ xs → begins_token m x ≡ true → drop n (tokens text) ≡ u ∷ us → u ≢ bad → (x < 128) × (tokens (drop offset text) ≡ u ∷ us)
unfolding IsPassed
found_here text m offset n x xs u us (before, e, count) here begun_here left sound =
    let b = begins m x xs begun_here in
    let r = reads_same m x xs b in
    let all : tokens text ≡ punctuate fresh (before ++ (token b.first ∷ r.0)) = ap (punctuate fresh) (e ∙ ap (λ ls. before ++ ls) (ap (lex m) here ∙ r.1)) in
    let own : tokens (drop offset text) ≡ punctuate fresh (token b.first ∷ r.0) = ap (punctuate fresh) (ap (lex between) here ∙ r.2) in
    let is = by b.first r.0 (cut fresh before (token b.first ∷ r.0)) (sym (ap (drop n) all) ∙ left) in
    (near b.first is.0 b.ascii, own ∙ is.1)
  where
    near : (t : Token) → t ≢ bad → (x < 128) ⊎ (t ≡ bad) → x < 128
    near t good (inl less) = less
    near t good (inr faulty) = absurd (good faulty)

    by : (t : Token) (R : List Lexeme) → Cut (punctuate fresh (before ++ (token t ∷ R))) (token_count before) (token t ∷ R) → drop n (punctuate fresh (before ++ (token t ∷ R))) ≡ u ∷ us → (t ≢ bad) × (punctuate fresh (token t ∷ R) ≡ u ∷ us)
    by t R (inl (pre, p, is, long)) rest =
        let there : punctuate p (token t ∷ R) ≡ u ∷ us = sym (past_all pre (punctuate p (token t ∷ R)) n (long ∙ count)) ∙ sym (ap (drop n) is) ∙ rest in
        (sound_token p t R u us there sound, from_token p t R u us there sound)
    by t R (inr (pre, is, le)) rest = absurd (sound (sym (past_bad pre n u us (omega arith) (sym (ap (drop n) is) ∙ rest))))

pub found : (text : List ℕ) (m : Mode) (offset n : ℕ) (u : Token) (us : List Token) → IsPassed text m offset n → offset < length text → begins_token m (get_or text offset 0) ≡ true → drop n (tokens text) ≡ u ∷ us → u ≢ bad
    → (get_or text offset 0 < 128) × (u ∷ us ≡ tokens (drop offset text))
found text m offset n u us passed within one left sound =
    let is = found_here text m offset n _ _ u us passed (next_byte text offset within) one left sound in
    (is.0, sym is.1)

lex_end : (m : Mode) → lex m [] ≡ []
unfolding lex
lex_end m = refl

pub not_there : {P : Type 0} (text : List ℕ) (m : Mode) (offset n k : ℕ) (u : Token) (us : List Token) → IsPassed text m offset n → drop offset text ≡ [] → n ≤ k → drop k (tokens text) ≡ u ∷ us → u ≢ bad → P
unfolding IsPassed punctuate
not_there {P = P} text m offset n k u us (before, e, count) end le left sound =
    by (cut fresh before []) (sym (ap (drop k) all) ∙ left)
  where
    all : tokens text ≡ punctuate fresh (before ++ [])
    all = ap (punctuate fresh) (e ∙ ap (λ ls. before ++ ls) (ap (lex m) end ∙ lex_end m))

    over : (pre : List Token) → length pre ≤ k → drop k (pre ++ []) ≡ u ∷ us → ⊥
    over pre short rest = none_left u us (sym (drop_of_length-le pre short) ∙ sym (ap (drop k) (append-nil pre)) ∙ rest)

    by : Cut (punctuate fresh (before ++ [])) (token_count before) [] → drop k (punctuate fresh (before ++ [])) ≡ u ∷ us → P
    by (inl (pre, fresh, is, long)) rest = absurd (over pre (omega arith) (sym (ap (drop k) is) ∙ rest))
    by (inl (pre, after_value, is, long)) rest = absurd (over pre (omega arith) (sym (ap (drop k) is) ∙ rest))
    by (inl (pre, p, is, long)) rest = absurd (sound (sym (past_bad pre k u us (omega arith) (sym (ap (drop k) is) ∙ rest))))
    by (inr (pre, is, short)) rest = absurd (sound (sym (past_bad pre k u us (omega arith) (sym (ap (drop k) is) ∙ rest))))

-- ---- how many tokens a text has

one_at_most : (m : Mode) (c : Class) (x : ℕ) (xs : List ℕ) → length (begun m c x xs) ≤ 1
one_at_most between quote x xs = omega arith
one_at_most in_word quote x xs = omega arith
one_at_most m c x xs = omega arith

lexemes_short : (m : Mode) (xs : List ℕ) → length (lex m xs) ≤ length xs
lexemes_short m [] = let none = ap length (lex_end m) in omega arith
lexemes_short m (x ∷ xs) =
    let all = ap length (lexed_on m x xs) in
    let sum = length-append (begun m (class x) x xs) (lex (mode_after m x) xs) in
    let one = one_at_most m (class x) x xs in
    let rest = lexemes_short (mode_after m x) xs in
    omega arith

one_longer : (ts : List Token) (k : Place → List Token) (n : ℕ) → Placed ts k → ((p : Place) → length (k p) ≤ n) → length ts ≤ n + 1
one_longer ts k n (inl e) rest = let one = ap length e in omega arith
one_longer ts k n (inr (u, next, e)) rest = let more = ap length e in let r = rest next in omega arith

punctuated_short : (p : Place) (ls : List Lexeme) → length (punctuate p ls) ≤ length ls + 1
unfolding punctuate
punctuated_short fresh [] = omega arith
punctuated_short p [] = omega arith
punctuated_short p (token t ∷ ls) =
    let is = ap length (punctuate_token p t ls) in
    let short = one_longer _ (λ next. punctuate next ls) (length ls + 1) (placed p t (begins_colon ls) (λ next. punctuate next ls)) (λ next. punctuated_short next ls) in
    omega arith
punctuated_short after_value (comma ∷ ls) = let rest = punctuated_short after_comma ls in omega arith
punctuated_short after_key (colon ∷ ls) = let rest = punctuated_short fresh ls in omega arith
punctuated_short p (l ∷ ls) = omega arith

pub tokens_short : (text : List ℕ) → length (tokens text) ≤ length text + 1
tokens_short text =
    let p = punctuated_short fresh (lex between text) in
    let l = lexemes_short between text in
    omega arith
