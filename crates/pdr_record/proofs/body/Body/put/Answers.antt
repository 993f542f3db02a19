use Rattle.std.proofs.Common.{◌∙◌, ◌++◌, ap, drop, List, ℕ}
use Rattle.pdr_record.{specs.FieldLaws.{followed-bytes}, specs.Written.{fields_of}}
use Rattle.pdr_record.proofs.body.Body.put.Goals as goal

pub returns-in-State-clause-front : goal.returns-in-State-clause-front
returns-in-State-clause-front c =
    let rest = drop c.put_fields-in-State.result c.args.out.now in
    rw c.in-State.is (c.put_fields-in-State.ensures.front ∙ followed-bytes (fields_of c.fields-in-State.result) rest ∙ ap (λ (bs : List ℕ). bs ++ rest) c.fields-in-State.ensures)

pub returns-in-Association-clause-front : goal.returns-in-Association-clause-front
returns-in-Association-clause-front c =
    let rest = drop c.put_fields-in-Association.result c.args.out.now in
    rw c.in-Association.is (c.put_fields-in-Association.ensures.front ∙ followed-bytes (fields_of c.fields-in-Association.result) rest ∙ ap (λ (bs : List ℕ). bs ++ rest) c.fields-in-Association.ensures)
