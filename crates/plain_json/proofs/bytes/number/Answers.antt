use Rattle.std.{proofs.Common.{◌≡◌, true, sym, ◌∙◌, subst, rules}, specs.Char.{is_ascii_digit}}
use Rattle.plain_json.{specs.Plain.{DigitsFollow}, proofs.Plain.{number_at}}
use Rattle.plain_json.proofs.bytes.number.Goals as goal

pub returns : goal.returns
returns c =
    let x = c.in_ok-byte.byte in
    let xs = c.in_ok-byte.rest.now in
    let n = c.in_ok-number.number in
    let r = c.in_ok-number.rest.now in
    let digit : is_ascii_digit x ≡ true = sym c.is_digit.ensures ∙ c.if-not-is_digit.false in
    number_at c.args.bytes.now x xs n r c.in_ok-byte.ensures digit c.if-byte-eq48.false (subst (λ d. DigitsFollow d xs n r) c.digit_of.ensures.0 c.in_ok-number.ensures) (search rules)
