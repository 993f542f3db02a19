use Rattle.std.proofs.Common.{rules, ◌∙◌, ◌<◌, ◌≤◌, ◌++◌, ◌∷◌, [], ap, subst, append_assoc, length, map, string_bytes}
use Rattle.verify_commands.{specs.Parts.{IsRunSo}, specs.Runs.{AreRuns}, proofs.Judging.{all_each, each_more}}
use Rattle.verify_commands.proofs.runs.add_runs.Goals as goal

pub loop-index-preserved : goal.loop-index-preserved
loop-index-preserved g c =
    let Reads = g.F.FolderFiles.reads c.args.folder.now in
    let plan = c.args.plan.now in
    let names = c.in_ok-names.names.items in
    let more = c.loop-index.invariant.0 in
    let judged = c.in_ok-judge_run.field-0 in
    let so = subst (λ n. IsRunSo Reads plan n judged) c.deref-in-loop-index.ensures c.in_ok-judge_run.ensures.judged in
    let within : c.loop-index.index < length names = search rules in (
      more ++ judged ∷ [],
      c.in_ok-add.ensures ∙ (ap (λ xs. xs ++ judged ∷ []) c.loop-index.invariant.1 ∙ append_assoc c.args.told.now.items more (judged ∷ [])),
      each_more Reads plan names c.loop-index.index c.index.result.now more judged within c.index.ensures c.loop-index.invariant.2 so,
    )

pub returns-clause-added : goal.returns-clause-added
returns-clause-added g c =
    let Reads = g.F.FolderFiles.reads c.args.folder.now in
    let names = c.in_ok-names.names.items in
    let more = c.loop-index.invariant.0 in
    let past : length names ≤ c.loop-index.index = search rules in
    let runs = subst (λ files. AreRuns (map string_bytes files) (map string_bytes names)) c.deref.ensures.value c.in_ok-names.ensures in (
      map string_bytes c.in_ok-files.files.items,
      map string_bytes names,
      more,
      c.in_ok-files.ensures.listed,
      runs,
      c.loop-index.invariant.1,
      all_each Reads c.args.plan.now names c.loop-index.index more past c.loop-index.invariant.2,
    )
