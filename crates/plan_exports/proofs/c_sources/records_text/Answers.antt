use Rattle.std.{proofs.Common.{ℕ, length, string_bytes, ap, sym, ◌∙◌}, proofs.lemmas.List.{length-map}}
use Rattle.pdr_repository.specs.Records.{entries, entry_of}
use Rattle.plan_exports.{specs.CSources.{record_lines, records_of_lines}, proofs.Pieces.{said_so}}
use Rattle.plan_exports.proofs.c_sources.records_text.Goals as goal

pub returns : goal.returns
returns c =
    let id = c.args.id.now in
    let records = c.args.records.now in
    let lines = c.deref.ensures ∙ c.in_ok-lines.ensures in
    said_so string_bytes _ _ _
    (ap (records_of_lines id (length records)) lines ∙ ap (λ (n : ℕ). records_of_lines id n (record_lines 0 (entries records))) (sym (length-map records entry_of)))
    c.records_of_lines.ensures
