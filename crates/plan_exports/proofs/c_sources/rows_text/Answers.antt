use Rattle.std.{proofs.Common.{ℕ, length, map, string_bytes, ap, sym, ◌∙◌}, proofs.lemmas.List.{length-map}}
use Rattle.plan_exports.{specs.CSources.{row_lines, rows_of_lines}, specs.PlannedRows.{row_facts}, proofs.Pieces.{said_so}}
use Rattle.plan_exports.proofs.c_sources.rows_text.Goals as goal

pub returns : goal.returns
returns c =
    let id = c.args.id.now in
    let rows = c.args.rows.now in
    let lines = c.deref.ensures ∙ c.in_ok-lines.ensures in
    said_so string_bytes _ _ _
    (ap (rows_of_lines id (length rows)) lines ∙ ap (λ (n : ℕ). rows_of_lines id n (row_lines c.args.plan.now (map row_facts rows))) (sym (length-map rows row_facts)))
    c.rows_of_lines.ensures
