-- What the commands answer, in a line of its own: a JSON value, or a log of SARIF 2.1.0.
use Rattle.std.specs.Prelude.{◌≡◌, ℕ, List, [], ◌∷◌, ◌++◌, codes}
use Rattle.serde_json.{specs.Data.{Data, string}, specs.Written.{IsInOrder}}
use Rattle.json.{specs.Lex.{tokens}, specs.Print.{print}}
use Rattle.net_plan.specs.Finding.{Step}
use Rattle.command_answers.{specs.declared.status.Status.{Status}, specs.Statuses.{number_of}}
use Rattle.command_questions.{specs.declared.form.Form.{Form}, specs.declared.form.Form.TheVariants.{Json, Sarif}}
use Rattle.json_commands.{specs.Places.{IsPlaceTold}, specs.Values.{Has, number_data, one_data}}

-- The text is a line that has the value's members and items, each once and in order, without spaces between them.
abbrev pub IsLineOf : Data → List ℕ → Type 0
IsLineOf d text = (line : List ℕ) × IsInOrder line d × (line ≡ print (tokens line)) × (text ≡ line ++ 10 ∷ [])

-- the value is the result with this code and this place, in the form
abbrev pub IsItem : Form → (code : List ℕ) → (place d : Data) → Type 0
IsItem Json code place d = Has (codes "code") (string code) d × Has (codes "place") place d
IsItem Sarif code place d = Has (codes "ruleId") (string code) d × Has (codes "locations") (one_data place) d

-- the same, where the place is the one to which the pointer leads in the text of this name
abbrev pub IsItemAt : Form → (name text code : List ℕ) → List Step → Data → Type 0
IsItemAt form name text code pointer d =
    (place : Data) × IsPlaceTold form name text pointer place × IsItem form code place d

-- the value is a log of one run with this list of results
abbrev pub IsLog : (results d : Data) → Type 0
IsLog results d = (run : Data) × Has (codes "results") results run × Has (codes "runs") (one_data run) d

-- the value answers, in the form, with this list of results in a run that ends so
abbrev pub IsAnswer : Form → Status → (results d : Data) → Type 0
IsAnswer Json ended results d =
    Has (codes "status") (number_data (number_of ended)) d × Has (codes "results") results d
IsAnswer Sarif ended results d = IsLog results d
