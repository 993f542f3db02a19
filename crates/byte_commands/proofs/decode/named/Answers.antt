use Rattle.std.{proofs.Common.{ℕ, List, map, string_bytes, sym, subst}, specs.Prelude.{Some}}
use Rattle.bus_captures.specs.Values.{entry_value}
use Rattle.byte_commands.{specs.Decoding.{IsDecodedSo}, proofs.Decoded.{decoded_so}}
use Rattle.byte_commands.proofs.decode.named.Goals as goal

pub returns-clause-answers : goal.returns-clause-answers
returns-clause-answers c =
    let capture = c.in_ok-capture.capture in
    let ended = c.answer_at.result.status in
    subst (λ (text : List ℕ). IsDecodedSo (Some c.args.plan.now) c.args.bytes.now ended text) (sym c.answer_at.ensures.text)
    (decoded_so (Some c.args.plan.now) c.args.bytes.now (map entry_value capture.entries.items) capture.end (string_bytes c.in_ok-text.text) ended c.in_ok-capture.ensures c.in_ok-text.ensures c.answer_at.ensures.whole c.answer_at.ensures.broken)
