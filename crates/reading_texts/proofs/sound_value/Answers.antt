use Rattle.std.proofs.Common.{rules}
use Rattle.json.specs.Value.{value_view}
use Rattle.net_pointers.specs.Asks.{sort_of}
use Rattle.reading_texts.{specs.TextErrors.{IsFaultOfValue}, proofs.TextErrors.{fault_told}}
use Rattle.reading_texts.proofs.sound_value.Goals as goal

pub returns-in-Ok-Some-clause-refused : goal.returns-in-Ok-Some-clause-refused
returns-in-Ok-Some-clause-refused c =
    let json = value_view c.in-Ok.value in
    let by : IsFaultOfValue (sort_of c.args.sort) c.args.text.now json c.in-Ok-Some.fault = rw c.in-Ok-Some.field-0-is at c.in-Ok-Some.ensures in
    fault_told (sort_of c.args.sort) c.args.text.now json c.in-Ok-Some.fault (search rules) c.in-Ok.ensures.tree c.in-Ok.ensures.ok by
