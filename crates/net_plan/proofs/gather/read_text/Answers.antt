use Rattle.std.proofs.Common.{◌≡◌, [], Some, ap, sym, ◌∙◌, rules}
use Rattle.json.{specs.Json.{object, value}, specs.Lex.{tokens}}
use Rattle.serde_json.specs.Read.{max_depth}
use Rattle.net_plan.proofs.gather.read_text.Goals as goal

pub returns-clause-read : goal.returns-clause-read
returns-clause-read g c =
    let read = c.in_ok-read_object.ensures.read in
    let ms = read.0 in
    let first : c.new-reader.result ≡ tokens c.args.text.now = search rules in
    let end : c.read_object.new.reader ≡ [] = search rules in
    let whole : value max_depth (tokens c.args.text.now) ≡ Some (object ms, []) = ap (value max_depth) (sym first) ∙ read.1 ∙ ap (λ ts. Some (object ms, ts)) end in
    (ms, whole, read.2)
