use Rattle.std.proofs.Common.{sym, subst}
use Rattle.plain_json.{specs.Plain.{IsNextNumber}, proofs.Tokens.{next_number}}
use Rattle.plain_json.proofs.reader.PlainReader.next_number.Goals as goal

pub returns : goal.returns
returns c =
    let n = c.in_ok-number.number in
    subst (IsNextNumber c.args.self.now n) (sym c.stand.ensures) (next_number c.args.self.now c.in_ok-begin.field-0.now n c.in_ok-number.rest.now c.in_ok-begin.ensures c.in_ok-number.ensures)
