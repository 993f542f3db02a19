-- A text has no more tokens than can be counted.
use Rattle.std.proofs.Common.{◌≡◌, ◌<◌, ℕ, List, length, Some, option_and_then, arith}
use Rattle.json.{specs.Lex.{tokens}, specs.Token.{Token}}
use Rattle.net_pointers.{specs.PartTokens.{from_path, from_key}, proofs.ScanLaws.{tokens_short}, proofs.Ends.{path_ends, path_key_ends, end_is}}

pub tokens_fit : (text : List ℕ) → length text < 9223372036854775808 → length (tokens text) < 18446744073709551616
tokens_fit text fits = let short = tokens_short text in omega arith

pub part_fits : (text path : List ℕ) (us : List Token) → length text < 9223372036854775808 → from_path path (tokens text) ≡ Some us → length us < 18446744073709551616
part_fits text path us fits e =
    let less = (end_is (tokens text) us (path_ends path (tokens text) us e)).0 in
    let short = tokens_short text in
    omega arith

pub key_fits : (text path : List ℕ) (m : ℕ) (us : List Token) → length text < 9223372036854775808 → option_and_then (from_key m) (from_path path (tokens text)) ≡ Some us → length us < 18446744073709551616
key_fits text path m us fits e =
    let less = (end_is (tokens text) us (path_key_ends path m (tokens text) us e)).0 in
    let short = tokens_short text in
    omega arith
