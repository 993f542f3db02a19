use Rattle.std.{proofs.Common.{◌≡◌, ◌+◌, ◌*◌, true, sym, ap, ◌∙◌}, specs.Char.{is_ascii_digit}}
use Rattle.plain_json.proofs.Plain.{goes_on_digit}
use Rattle.plain_json.proofs.bytes.more_digits.Goals as goal

pub digits-preserved : goal.digits-preserved
digits-preserved c n r more =
    let l = c.digits in
    let x = c.in-Some.byte in
    let digit : is_ascii_digit x ≡ true = sym c.is_digit.ensures ∙ c.if-not-is_digit.false in
    let next = 10 * l.number + c.digit_of.result in
    l.invariant n r (goes_on_digit next l.number l.rest.now x c.in-Some.tail.now n r c.in-Some.ensures digit (ap (λ d. 10 * l.number + d) c.digit_of.ensures.0) more)
