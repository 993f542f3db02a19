use Rattle.std.{proofs.Common.{◌≡◌, ◌<◌, ◌∙◌, ap, length, map, rules}, specs.Prelude.{string_bytes}, specs.List.{flat_map}, proofs.lemmas.Result.{IfOk-weaker}}
use Rattle.plan_differences.{specs.Facts.{fact_value}, specs.DifferenceLines.{difference_text}, proofs.Consequences.{none_told, some_told}}
use Rattle.plan_differences.proofs.told.facts_told.Goals as goal

pub returns-then-is_empty : goal.returns-then-is_empty
returns-then-is_empty c =
    let found = c.in_ok-found.found.items in
    let none : length found ≡ 0 = search rules in
    IfOk-weaker c.to_string.result _ _ (λ text is. none_told (map fact_value c.args.olds.now) (map fact_value c.args.news.now) found (string_bytes text) c.in_ok-found.ensures none is) c.to_string.ensures.ok

pub returns : goal.returns
returns c =
    let found = c.in_ok-found.found.items in
    let some : 0 < length found = search rules in
    let same : c.deref.result.now ≡ found = search rules in
    IfOk-weaker c.difference_lines.result _ _
    (λ text is. some_told (map fact_value c.args.olds.now) (map fact_value c.args.news.now) found (string_bytes text) c.in_ok-found.ensures some (is ∙ ap (flat_map difference_text) same))
    c.difference_lines.ensures
