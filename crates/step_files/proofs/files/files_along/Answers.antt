use Rattle.std.{proofs.Common.{◌≡◌, ◌+◌, ◌++◌, map, take, ap, sym, ◌∙◌, subst}, proofs.lemmas.List.{map-append}}
use Rattle.step_files.{specs.StepFiles.{AreFilesAlong, file_value}, proofs.Along.{files_up_to}}
use Rattle.step_files.proofs.files.files_along.Goals as goal

pub loop-index-preserved : goal.loop-index-preserved
loop-index-preserved c =
    let folder = c.args.folder.now in
    let before = c.args.before.now in
    let steps = c.args.steps.now in
    let k = c.loop-index.index in
    let files = c.loop-index.files.items in
    let own = c.in_ok-next.next.items in
    let whole : map file_value c.append.new.self.items ≡ map file_value files ++ map file_value own =
    ap (map file_value) c.in_ok-append.ensures.items ∙ map-append file_value files own in
    subst (AreFilesAlong folder c.args.count 1 before (take (k + 1) steps)) (sym whole)
    (files_up_to folder c.args.count before steps k (map file_value files) (map file_value own) c.loop-index.invariant c.in_ok-next.ensures)
