-- What is answered for a board is answered to its text, and how lines are worded.
use Rattle.std.{proofs.Common.{◌≡◌, ◌≢◌, ℕ, List, ◌++◌, Some, Result, Ok, Err, subst}, specs.Prelude.{IfOk, codes}}
use Rattle.toml.specs.Data.{Data}
use Rattle.plan_values.specs.declared.plan.Plan.{Plan}
use Rattle.net_rules.{specs.declared.certify_error.CertifyError.{CertifyError}, specs.Certificates.{NamesObstacle, RulesOutCertificates}}
use Rattle.plan_texts.specs.Lines.{obstacle_text}
use Rattle.board.specs.declared.board.RecordFile.{RecordFile}
use Rattle.board_values.specs.Said.{IsTomlOf}
use Rattle.board_made.{specs.declared.answer.BoardAnswer.{BoardAnswer}, specs.declared.answer.BoardAnswer.TheVariants.{Made, NoPlan, Unread}, specs.Made.{IsUnreadLine, IsAnswerTo, IsAnswerFor}, specs.Reasons.{TellsObstacle, IsRuledOut, IsUnfound, IsWayLine}}
use Rattle.net_rules.specs.declared.certify_error.CertifyError.TheVariants as error

pub answered : (files : List RecordFile) (text : List ℕ) (board : Data) (answer : BoardAnswer) → IsTomlOf text board → IsAnswerFor files board answer
    → IsAnswerTo files text answer
answered files text board (Made made) toml fit = (record { board = board; toml = toml; fit = fit.0 }, fit.1)
answered files text board (NoPlan reason) toml told = record { board = board; toml = toml; reason = told }
answered files text board (Unread line) toml worded = worded

-- ---- lines

pub unfound_worded : {A E : Type 0} (bytes : A → List ℕ) (words : List ℕ) (r : Result A E)
    → IfOk r (λ t. bytes t ≡ codes "no plan: none was found: no " ++ (words ++ codes "\n")) → IfOk r (λ t. IsUnfound (bytes t))
unfound_worded bytes words (Ok t) written = (words, written)
unfound_worded bytes words (Err e) written = tt

pub unread_worded : {A E : Type 0} (bytes : A → List ℕ) (words : List ℕ) (r : Result A E) → IfOk r (λ t. bytes t ≡ codes "unreadable board: " ++ (words ++ codes "\n"))
    → IfOk r (λ t. IsUnreadLine (bytes t))
unread_worded bytes words (Ok t) written = (words, written)
unread_worded bytes words (Err e) written = tt

pub way_worded : {A E : Type 0} (bytes : A → List ℕ) (one other : List ℕ) (r : Result A E)
    → IfOk r (λ t. bytes t ≡ codes "no plan: no way over buses, bridges and given rows leads from " ++ (one ++ (codes " to " ++ (other ++ codes "\n"))))
    → IfOk r (λ t. IsWayLine (bytes t))
way_worded bytes one other (Ok t) written = (one, other, written)
way_worded bytes one other (Err e) written = tt

-- ---- obstacles

-- want of memory has no text
not_memory : (plan : Plan) (obstacle : CertifyError) (text : List ℕ) → obstacle_text plan obstacle ≡ Some text → obstacle ≢ error.OutOfMemory
not_memory plan obstacle text told is =
    let untold : obstacle_text plan error.OutOfMemory ≡ Some text = subst (λ o. obstacle_text plan o ≡ Some text) is told in
    cc

-- what rules certificates out of a plan of which something holds
pub ruled_out : (IsGiven : Plan → Type 0) (plan : Plan) (obstacle : CertifyError) (text : List ℕ) → IsGiven plan → NamesObstacle plan obstacle
    → RulesOutCertificates plan obstacle → TellsObstacle plan obstacle text → IsRuledOut IsGiven text
ruled_out IsGiven plan obstacle text given first none told = record {
  plan = plan;
  obstacle = obstacle;
  given = given;
  first = first;
  none = none (not_memory plan obstacle told.line told.worded);
  told = told;
}
