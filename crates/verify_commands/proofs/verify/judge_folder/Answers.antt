use Rattle.std.proofs.Common.{ap, subst}
use Rattle.verify_commands.{specs.Parts.{AddsBoard, IsJudged}, specs.Reports.{name_of}, proofs.Fitting.{fit_judged, fits_or_not, sure_of}, proofs.Judging.{all_judged, judged_as, one_added}}
use Rattle.verify_commands.specs.declared.parts.Part.TheVariants as part
use Rattle.verify_commands.proofs.verify.judge_folder.Goals as goal

pub certificate_beside-requires : goal.certificate_beside-requires
certificate_beside-requires g c = (c.in_ok-given.given.text.items, c.in_ok-given.ensures.held)

pub fit_of-requires : goal.fit_of-requires
fit_of-requires g c = sure_of (g.F.FolderFiles.reads c.args.folder.now) c.in_ok-given.given.plan c.in_ok-beside.beside c.in_ok-beside.ensures.beside

pub add_wanted-requires : goal.add_wanted-requires
add_wanted-requires g c = record {
  plan = (c.in_ok-given.given.text.items, c.in_ok-given.ensures.held);
  fit = fits_or_not (g.F.FolderFiles.reads c.args.folder.now) c.in_ok-given.given.plan c.in_ok-beside.beside c.in_ok-fit.fit c.in_ok-beside.ensures.beside c.in_ok-fit.ensures;
}

pub add_runs-requires : goal.add_runs-requires
add_runs-requires g c = record {
  plan = (c.in_ok-given.given.text.items, c.in_ok-given.ensures.held);
  fit = fits_or_not (g.F.FolderFiles.reads c.args.folder.now) c.in_ok-given.given.plan c.in_ok-beside.beside c.in_ok-fit.fit c.in_ok-beside.ensures.beside c.in_ok-fit.ensures;
}

pub returns-clause-judges : goal.returns-clause-judges
returns-clause-judges g c =
    let Reads = g.F.FolderFiles.reads c.args.folder.now in
    let Records = g.F.RecordFiles.holds c.args.folder.now in
    let strict = c.args.asked.now.is_strict in
    let text = c.in_ok-given.given.text.items in
    let plan = c.in_ok-given.given.plan in
    let So = IsJudged Reads Records strict text plan in
    let fits = fits_or_not Reads plan c.in_ok-beside.beside c.in_ok-fit.fit c.in_ok-beside.ensures.beside c.in_ok-fit.ensures in
    let check = c.in_ok-judge_fit.field-0 in
    let faults = c.in_ok-judge_faults.field-0 in
    let lint = c.in_ok-judge_lint.field-0 in
    let a = c.add_board.new.told.items in
    let b = c.add.new.told.items in
    let d = c.add-2.new.told.items in
    let e = c.add-3.new.told.items in
    let f = c.add_wanted.new.told.items in
    let first = subst (λ old. AddsBoard Reads Records text old a) c.new-told.ensures.items c.in_ok-add_board.ensures.added in
    let checked = one_added So _ a b check c.in_ok-add.ensures (ap name_of c.in_ok-judge_fit.ensures.part)
    (judged_as Reads Records strict text plan part.Check check c.in_ok-judge_fit.ensures.part (fit_judged Reads plan c.in_ok-fit.fit check.verdict fits c.in_ok-judge_fit.ensures.verdict)) in
    let listed = one_added So _ b d faults c.in_ok-add-2.ensures (ap name_of c.in_ok-judge_faults.ensures.part)
    (judged_as Reads Records strict text plan part.Faults faults c.in_ok-judge_faults.ensures.part c.in_ok-judge_faults.ensures.verdict) in
    let linted = one_added So _ d e lint c.in_ok-add-3.ensures (ap name_of c.in_ok-judge_lint.ensures.part)
    (judged_as Reads Records strict text plan part.Lint lint c.in_ok-judge_lint.ensures.part c.in_ok-judge_lint.ensures.verdict) in
    all_judged Reads Records strict text plan (g.F.FolderFiles.lists c.args.folder.now) a b d e f c.add_runs.new.told.items c.in_ok-given.ensures.held first checked listed linted
    c.in_ok-add_wanted.ensures.added c.in_ok-add_runs.ensures.added
