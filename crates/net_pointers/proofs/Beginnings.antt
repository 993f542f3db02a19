-- What is found where so many tokens are left.
use Rattle.std.{proofs.Common.{◌≡◌, ◌≢◌, ◌<◌, ◌∷◌, ℕ, List, [], Option, Some, None, option_and_then, length, refl, sym, ap, ◌∙◌}, specs.Prelude.{Result, Ok, Err, IfOk, IfSome, IsSome, IsSomeAnd}}
use Rattle.json.{specs.Json.{Json, Members, object, if_last}, specs.Lex.{tokens}, specs.Strict.{keys}, specs.Token.{Token}, proofs.Found.{Some_inj, not_found}}
use Rattle.net_pointers.{specs.PartTokens.{from_path, from_key}, specs.Doubles.{part_at, member_at}, specs.Offsets.{AreTokensFrom, PartStandsAt, KeyStandsAt}, specs.Scans.{Ends, AreLeft}, proofs.Ends.{path_ends, path_key_ends}, proofs.Readings.{member_within}, proofs.Ways.{path_way, path_key_way, sound_start, key_is_sound}}
use Rattle.net_plan.specs.Texts.{IsTree}

-- what is found of the tokens before so many
abbrev pub IsBefore : List ℕ → ℕ → Option ℕ → Type 0
IsBefore text left found =
    (u : Token) (us : List Token) → Ends (tokens text) (u ∷ us) → length (u ∷ us) ≡ left → u ≢ Token.bad
    → IsSomeAnd found (λ offset. AreTokensFrom text offset (u ∷ us))

-- what stands there, of tokens that are the text's last
abbrev Stand : List ℕ → Option (List Token) → ℕ → Type 0
Stand text o offset = (ts : List Token) × (o ≡ Some ts) × AreTokensFrom text offset ts

stands : (text : List ℕ) (o : Option (List Token)) (left : ℕ) (found : Option ℕ) → ((ts : List Token) → o ≡ Some ts → Ends (tokens text) ts) → AreLeft o (Some left) → IsBefore text left found → IsSomeAnd found (λ offset. Stand text o offset)
stands text o left found ends (t, us, is, sound, long) before =
    by found (before t us (ends (t ∷ us) is) (sym long) sound)
  where
    by : (f : Option ℕ) → IsSomeAnd f (λ offset. AreTokensFrom text offset (t ∷ us)) → IsSomeAnd f (λ offset. Stand text o offset)
    by (Some offset) there = (t ∷ us, is, there)
    by None there = there

weaker : (P : ℕ → Type 0) (o : Option ℕ) → IsSomeAnd o P → IfSome o P × IsSome o
weaker P (Some n) h = (h, refl)
weaker P None h = absurd h

pub last : (o : Option (Json × List Token)) (j : Json) → option_and_then (λ p. if_last p.0 p.1) o ≡ Some j → o ≡ Some (j, [])
last (Some (i, [])) j e = ap (λ x. Some (x, [])) (Some_inj i j e)
last o j e = not_found j e

found_there : {E : Type 0} (text : List ℕ) (o : Option (List Token)) (left : ℕ) (r : Result (Option ℕ) E) → ((ts : List Token) → o ≡ Some ts → Ends (tokens text) ts) → AreLeft o (Some left) → IfOk r (λ f. IsBefore text left f)
    → IfOk r (λ f. IfSome f (λ offset. Stand text o offset) × IsSome f)
found_there text o left (Ok f) ends is before = weaker (λ offset. Stand text o offset) f (stands text o left f ends is before)
found_there text o left (Err e) ends is before = tt

-- a part
pub part_found : {E : Type 0} (text path : List ℕ) (left : ℕ) (r : Result (Option ℕ) E) → AreLeft (from_path path (tokens text)) (Some left) → IfOk r (λ f. IsBefore text left f) → IfOk r (λ f. IfSome f (λ offset. PartStandsAt text path offset) × IsSome f)
part_found text path left r is before = found_there text (from_path path (tokens text)) left r (λ ts e. path_ends path (tokens text) ts e) is before

pub no_part : (text path : List ℕ) → AreLeft (from_path path (tokens text)) None → (tree part : Json) → IsTree text tree → part_at path tree ≡ Some part → ⊥
no_part text path none tree part whole at =
    let way = path_way path (tokens text) tree part ([], last _ tree whole) at in
    let start = sound_start 127 way.0 way.2.0 part way.2.1 in
    none start.0 start.1 (way.1 ∙ ap Some start.2) start.3

-- a key
pub key_found : {E : Type 0} (text path : List ℕ) (m left : ℕ) (r : Result (Option ℕ) E) → AreLeft (option_and_then (from_key m) (from_path path (tokens text))) (Some left) → IfOk r (λ f. IsBefore text left f)
    → IfOk r (λ f. IfSome f (λ offset. KeyStandsAt text path m offset) × IsSome f)
key_found text path m left r is before = found_there text _ left r (λ ts e. path_key_ends path m (tokens text) ts e) is before

pub no_key : (text path : List ℕ) (m : ℕ) → AreLeft (option_and_then (from_key m) (from_path path (tokens text))) None → (tree e : Json) (ms : Members) → IsTree text tree → part_at path tree ≡ Some (object ms) → member_at m ms ≡ Some e → ⊥
no_key text path m none tree e ms whole at there =
    let way = path_key_way path m (tokens text) tree ms e ([], last _ tree whole) at there in
    none (Token.key way.1) way.0 way.2 (key_is_sound way.1)

pub no_key_within : (text path : List ℕ) (m : ℕ) → AreLeft (option_and_then (from_key m) (from_path path (tokens text))) None → (tree : Json) (ms : Members) → IsTree text tree → part_at path tree ≡ Some (object ms) → m < length (keys ms) → ⊥
no_key_within text path m none tree ms whole at within =
    let e = member_within m ms within in
    no_key text path m none tree e.0 ms whole at e.1
