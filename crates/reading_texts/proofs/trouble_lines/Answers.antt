use Rattle.std.{proofs.Common.{string_bytes, sym, subst}, specs.Prelude.{IfOk}}
use Rattle.json.specs.Value.{value_view}
use Rattle.net_pointers.{specs.Asks.{sort_of}, specs.declared.order.Trouble.{Trouble}}
use Rattle.reading_texts.specs.TroubleLines.{AreLines}
use Rattle.reading_texts.proofs.trouble_lines.Goals as goal

pub returns-in-DoubledName : goal.returns-in-DoubledName
returns-in-DoubledName c =
    subst (λ (t : Trouble). IfOk c.doubled_name_lines.result (λ lines. AreLines (sort_of c.args.sort) c.args.text.now (value_view c.args.value.now) t (string_bytes lines))) (sym c.in-DoubledName.is) c.doubled_name_lines.ensures
