use Rattle.std.proofs.Common.{◌≡◌, ◌≢◌, ◌∙◌, inl, subst, string_bytes, sym}
use Rattle.verify_commands.{specs.Boards.{IsAnswerWith, IsMadeBy}, specs.Parts.{IsLikeBoard, IsUnlikeBoard}, proofs.Fitting.{says_also}}
use Rattle.verify_commands.proofs.boards.judge_board.Goals as goal

pub returns-in_ok-compare-in-Made-clause-verdict : goal.returns-in_ok-compare-in-Made-clause-verdict
returns-in_ok-compare-in-Made-clause-verdict g c =
    let Records = g.R.RecordFiles.holds c.args.records.now in
    let board = c.args.board.now in
    let text = c.args.given.now.text.items in
    let made = c.in-Made.made in
    let certified = string_bytes made.certificate in
    let plan = c.deref.result.now in
    let held = c.deref-in-Made.result.now in
    let answered = subst (IsAnswerWith Records board) c.in-Made.is c.in_ok-made.ensures in
    says_also c.in_ok-compare-in-Made.field-0.verdict (plan ≡ held) (IsLikeBoard Records board text) (plan ≢ held) (IsUnlikeBoard Records board text) ⊥
    (λ same. (certified, subst (λ t. IsMadeBy Records board t certified) (sym c.deref.ensures ∙ (same ∙ c.deref-in-Made.ensures.value)) answered.0))
    (λ other. inl (string_bytes made.plan, certified, answered.0, λ same. other (c.deref.ensures ∙ (same ∙ sym c.deref-in-Made.ensures.value))))
    c.in_ok-compare-in-Made.ensures.verdict
