-- What stands at the front of a text: spaces, strings and numbers.
use Rattle.std.{proofs.Common.{◌≡◌, ℕ, suc, zero, ◌+◌, ◌-◌, ◌*◌, ◌<◌, ◌≤◌, Bool, true, false, not, cond, ◌&&◌, ◌==◌, nat_lt, List, [], ◌∷◌, ◌++◌, length, take, drop, get_or, Some, ◌⊎◌, inl, inr, refl, sym, ap, ap₂, ◌∙◌, subst, arith, length-append, add-zero, zero-add}, proofs.lemmas.Bool.{and_parts, or_cases, not-true, eqb-true, ne_eqb, leb-true, ltb-true, le-ltb}, proofs.lemmas.List.{take_all, drop_all, take-append-drop}, proofs.lemmas.Str.{IsUtf8-from_ascii, digit_value_digit}, proofs.lemmas.Fmt.{IsAscii-from_digits}, proofs.Math.Seq.{take-append_seam}, specs.List.{list_all, prefix_len}, specs.Char.{is_ascii_digit, digit_value}, specs.Str.{IsAscii, IsUtf8}, specs.Str.Parse.{AllDigits, digits_value_after}}
use Rattle.json.{specs.Token.{string, number, boolean, null, bad}, specs.Text.{content, plain}, specs.Word.{is_operator, is_space, ends_word, after_number, word}, specs.Lex.{Lexeme, token, Mode, between, in_string, operator, space, other, lex_byte, lex, begins_colon}, specs.Print.{IsNumber}, proofs.Printed.Numbers.{lex-number, in_word-ended}}
use Rattle.plain_json.{specs.declared.bytes.TheConstants.{PLAIN}, specs.Plain.{is_plain, IsEnd, DigitsFollow, IsNumberAt}}

-- the first element, and the others as a pattern of a slice has them
pub parted : (l : List ℕ) → 1 ≤ length l → l ≡ get_or l 0 0 ∷ take (length l - 1) (drop 1 l)
parted [] some = absurd (omega arith)
parted (x ∷ xs) some = ap (λ l. x ∷ l) (sym (take_all (length (x ∷ xs) - 1) xs (omega arith)))

pub empty : (l : List ℕ) → length l < 1 → l ≡ []
empty [] none = refl
empty (x ∷ xs) none = absurd (omega arith)

-- ---- spaces

or_last : (P : ℕ → Type 0) (x c : ℕ) (b : Bool) → P c → (b ≡ true → P x) → (b ≡ true) ⊎ ((x == c) ≡ true) → P x
or_last P x c b p f (inl e) = f e
or_last P x c b p f (inr e) = subst P (sym (eqb-true x c e)) p

lex_space : (x : ℕ) (xs : List ℕ) → is_space x ≡ true → lex between (x ∷ xs) ≡ lex between xs
unfolding lex
lex_space x xs h =
    let P : ℕ → Type 0 = λ y. lex between (y ∷ xs) ≡ lex between xs in
    or_last P x 13 _ refl (λ i. or_last P x 10 _ refl (λ j. or_last P x 9 _ refl (λ k. subst P (sym (eqb-true x 32 k)) refl) (or_cases _ _ j)) (or_cases _ _ i)) (or_cases _ _ h)

pub past_space : (t : List ℕ) (x : ℕ) (xs : List ℕ) → t ≡ x ∷ xs → is_space x ≡ true → lex between xs ≡ lex between t
past_space t x xs is h = sym (lex_space x xs h) ∙ ap (lex between) (sym is)

-- ---- strings

pub record PlainByte (x : ℕ) : Type 0 where
  pub no_quote : (x == 34) ≡ false
  pub no_escape : (x == 92) ≡ false
  pub no_control : nat_lt x 32 ≡ false
  pub ascii : x < 128

-- the table tells which bytes stand for themselves
mark : Bool → ℕ
mark true = 1
mark false = 0

marked : (b : Bool) → (mark b == 1) ≡ b
unfolding mark
marked true = refl
marked false = refl

are_marks : ℕ → List ℕ → Bool
are_marks i [] = true
are_marks i (t ∷ ts) = (t == mark (is_plain i)) && are_marks (suc i) ts

computed : are_marks 0 PLAIN ≡ true
unfolding are_marks mark
computed = refl

mark_at : (ts : List ℕ) (i k : ℕ) → are_marks i ts ≡ true → k < length ts → (get_or ts k 0 == 1) ≡ is_plain (i + k)
unfolding are_marks
mark_at [] i k h within = absurd (omega arith)
mark_at (t ∷ ts) i zero h within =
    let here : t ≡ mark (is_plain i) = eqb-true t (mark (is_plain i)) (and_parts (t == mark (is_plain i)) (are_marks (suc i) ts) h).0 in
    ap (λ n. n == 1) here ∙ marked (is_plain i) ∙ ap is_plain (sym (add-zero i))
mark_at (t ∷ ts) i (suc k) h within =
    let same : suc i + k ≡ i + suc k = omega arith in
    mark_at ts (suc i) k (and_parts (t == mark (is_plain i)) (are_marks (suc i) ts) h).1 (omega arith) ∙ ap is_plain same

pub plain_mark : (x : ℕ) → x < 256 → (get_or PLAIN x 0 == 1) ≡ is_plain x
plain_mark x within = mark_at PLAIN 0 x computed within ∙ ap is_plain (zero-add x)

pub plain_byte : (x : ℕ) → is_plain x ≡ true → PlainByte x
plain_byte x h =
    let abc = and_parts _ _ h in
    let ab = and_parts _ _ abc.0 in
    let a = and_parts _ _ ab.0 in
    record {
      no_quote = not-true (x == 34) ab.1;
      no_escape = not-true (x == 92) abc.1;
      no_control = le-ltb x 32 (leb-true 32 x a.0);
      ascii = ltb-true x 128 a.1;
    }

pub plain_ascii : (s : List ℕ) → list_all is_plain s ≡ true → IsAscii s
plain_ascii (x ∷ xs) h zero = (plain_byte x (and_parts _ _ h).0).ascii
plain_ascii (x ∷ xs) h (suc i) = plain_ascii xs (and_parts _ _ h).1 i
plain_ascii [] h x = omega arith

pub plain_utf8 : (s : List ℕ) → list_all is_plain s ≡ true → IsUtf8 s
plain_utf8 s h = IsUtf8-from_ascii s (plain_ascii s h)

content_plain : (s r : List ℕ) → list_all is_plain s ≡ true → content plain (s ++ 34 ∷ r) ≡ Some s
unfolding content
content_plain [] r h = refl
content_plain (x ∷ xs) r h =
    let both = and_parts (is_plain x) (list_all is_plain xs) h in
    let p = plain_byte x both.0 in
    rw (p.no_quote, p.no_escape, p.no_control, content_plain xs r both.1) refl

inside : (o s : Bool) (x : ℕ) (xs : List ℕ) (k : Mode → List Lexeme) → lex_byte in_string (cond o operator (cond s space other)) x xs k ≡ k in_string
inside true s x xs k = refl
inside false true x xs k = refl
inside false false x xs k = refl

lex_plain : (s r : List ℕ) → list_all is_plain s ≡ true → lex in_string (s ++ 34 ∷ r) ≡ lex between r
unfolding lex
lex_plain [] r h = refl
lex_plain (x ∷ xs) r h =
    let both = and_parts (is_plain x) (list_all is_plain xs) h in
    let p = plain_byte x both.0 in
    rw (p.no_quote, p.no_escape) (inside (is_operator x) (is_space x) x (xs ++ 34 ∷ r) (λ m. lex m (xs ++ 34 ∷ r)) ∙ lex_plain xs r both.1)

lex_quoted : (s r : List ℕ) → list_all is_plain s ≡ true → lex between (34 ∷ (s ++ 34 ∷ r)) ≡ token (string s) ∷ lex between r
unfolding lex
lex_quoted s r h = rw (content_plain s r h, lex_plain s r h) refl

-- a string that ends before its closing quote
pub string_at : (text rest : List ℕ) (len : ℕ) (r : List ℕ) → text ≡ 34 ∷ rest → list_all is_plain (take len rest) ≡ true → drop len rest ≡ 34 ∷ r
    → lex between text ≡ token (string (take len rest)) ∷ lex between r
string_at text rest len r quote h close =
    let closed : rest ≡ take len rest ++ 34 ∷ r = sym (take-append-drop len rest) ∙ ap (λ l. take len rest ++ l) close in
    ap (lex between) (quote ∙ ap (λ l. 34 ∷ l) closed) ∙ lex_quoted (take len rest) r h

-- ---- numbers

digit_range : (x : ℕ) → is_ascii_digit x ≡ true → (48 ≤ x) × (x ≤ 57)
digit_range x h = let both = and_parts _ _ h in (leb-true 48 x both.0, leb-true x 57 both.1)

digit_below : (x : ℕ) → is_ascii_digit x ≡ true → digit_value x < 10
digit_below x h = omega (arith, digit_value_digit x (digit_range x h), (digit_range x h).1)

all_digits : (s : List ℕ) → list_all is_ascii_digit s ≡ true → AllDigits 10 s
all_digits [] h = tt
all_digits (x ∷ xs) h = let both = and_parts (is_ascii_digit x) _ h in (digit_below x both.0, all_digits xs both.1)

all_prefix : (s : List ℕ) → list_all is_ascii_digit s ≡ true → prefix_len is_ascii_digit s ≡ length s
all_prefix [] h = refl
all_prefix (x ∷ xs) h = let both = and_parts (is_ascii_digit x) _ h in rw (both.0, all_prefix xs both.1) (omega arith)

-- digits that don't begin with a zero are a number of JSON
is_number : (x : ℕ) (t : List ℕ) → is_ascii_digit x ≡ true → (x == 48) ≡ false → list_all is_ascii_digit t ≡ true → IsNumber (x ∷ t)
unfolding after_number
is_number x t d nonzero h =
    let no_minus : (x == 45) ≡ false = ne_eqb x 45 (λ e. omega (arith, (digit_range x d).0)) in
    let next : 1 + length t ≡ suc (length t) = omega arith in
    let some : (suc (length t) == 0) ≡ false = ne_eqb (suc (length t)) 0 (λ e. omega (arith, e)) in
    rw (no_minus, nonzero, d, all_prefix t h, next, some, drop_all (length t) t (omega arith)) refl

pub goes_on_digit : (n first : ℕ) (text : List ℕ) (x : ℕ) (xs : List ℕ) (m : ℕ) (r : List ℕ) → text ≡ x ∷ xs → is_ascii_digit x ≡ true
    → n ≡ 10 * first + digit_value x → DigitsFollow n xs m r → DigitsFollow first text m r
goes_on_digit n first text x xs m r begin d is (s, all, value, rest) =
    let next : first * 10 + digit_value x ≡ n = omega (arith, is) in
    (x ∷ s, rw (d, all) refl, ap (λ k. digits_value_after 10 k s) next ∙ value, begin ∙ ap (λ l. x ∷ l) rest)

-- a number that is no zero
pub number_at : (text : List ℕ) (x : ℕ) (xs : List ℕ) (n : ℕ) (r : List ℕ) → text ≡ x ∷ xs → is_ascii_digit x ≡ true → (x ≡ 48 → ⊥)
    → DigitsFollow (digit_value x) xs n r → ends_word r ≡ true → IsNumberAt text n r
number_at text x xs n r begin d nonzero (s, all, value, rest) ended =
    let numeral = all_digits (x ∷ s) (rw (d, all) refl) in
    let is = begin ∙ ap (λ l. x ∷ l) rest in
    let none : 0 + digit_value x ≡ digit_value x = omega arith in
    (x ∷ s, (omega arith, numeral), ap (λ k. digits_value_after 10 k s) none ∙ value, is, ap (lex between) is ∙ lex-number (x ∷ s) r (is_number x s d (ne_eqb x 48 nonzero) all) ended)

-- a zero
pub zero_at : (text xs : List ℕ) → text ≡ 48 ∷ xs → ends_word xs ≡ true → IsNumberAt text 0 xs
unfolding after_number
zero_at text xs is ended =
    let d : digit_value 48 < 10 = digit_below 48 refl in
    (48 ∷ [], (omega arith, (d, tt)), refl, is, ap (lex between) is ∙ lex-number (48 ∷ []) xs refl ended)

-- the digits are what stands before the rest
pub digits_before : (text : List ℕ) (n : ℕ) (r : List ℕ) (h : IsNumberAt text n r) → take (length text - length r) text ≡ h.0
digits_before text n r (s, numeral, value, is, lexed) =
    let size : length text - length r ≡ length s = omega (arith, ap length is, length-append s r) in
    ap₂ take size is ∙ take-append_seam s r

pub digits_utf8 : (text : List ℕ) (n : ℕ) (r : List ℕ) → IsNumberAt text n r → IsUtf8 (take (length text - length r) text)
digits_utf8 text n r h = rw (digits_before text n r h) (IsUtf8-from_ascii h.0 (IsAscii-from_digits h.0 h.1.1))

-- ---- words

pub null_at : (r : List ℕ) → ends_word r ≡ true → lex between (110 ∷ 117 ∷ 108 ∷ 108 ∷ r) ≡ token null ∷ lex between r
unfolding lex word
null_at r ended = ap₂ (λ e l. token (cond e null bad) ∷ l) ended (in_word-ended r ended)

pub true_at : (r : List ℕ) → ends_word r ≡ true → lex between (116 ∷ 114 ∷ 117 ∷ 101 ∷ r) ≡ token (boolean true) ∷ lex between r
unfolding lex word
true_at r ended = ap₂ (λ e l. token (cond e (boolean true) bad) ∷ l) ended (in_word-ended r ended)

pub false_at : (r : List ℕ) → ends_word r ≡ true → lex between (102 ∷ 97 ∷ 108 ∷ 115 ∷ 101 ∷ r) ≡ token (boolean false) ∷ lex between r
unfolding lex word
false_at r ended = ap₂ (λ e l. token (cond e (boolean false) bad) ∷ l) ended (in_word-ended r ended)

-- behind these no colon follows
pub no_colon : (text : List ℕ) (x : ℕ) (xs : List ℕ) → text ≡ x ∷ xs → IsEnd x → begins_colon (lex between text) ≡ false
unfolding lex
no_colon text x xs is (inl e) = rw (is, e) refl
no_colon text x xs is (inr (inl e)) = rw (is, e) refl
no_colon text x xs is (inr (inr e)) = rw (is, e) refl

pub no_colon_at_end : (text : List ℕ) → text ≡ [] → begins_colon (lex between text) ≡ false
unfolding lex
no_colon_at_end text is = rw is refl
