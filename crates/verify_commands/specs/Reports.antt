-- What is told of parts that were judged.
use Rattle.std.{specs.Prelude.{ℕ, Bool, true, false, if◌then◌else◌, ◌==◌, List, ◌++◌, codes, length, string_bytes}, specs.Fmt.{decimal}, specs.List.{count_by, flat_map}}
use Rattle.verify_commands.{specs.declared.parts.Judged.{Judged}, specs.declared.parts.Part.{Part}, specs.declared.parts.Verdict.{Verdict}}
use Rattle.verify_commands.specs.declared.parts.Part.TheVariants as part
use Rattle.verify_commands.specs.declared.parts.Verdict.TheVariants as verdict

abbrev pub run_name : List ℕ → List ℕ
run_name name = codes "run " ++ name

-- the name of a part
abbrev pub name_of : Part → List ℕ
name_of part.Board = codes "board"
name_of part.Check = codes "check"
name_of part.Faults = codes "faults"
name_of part.Lint = codes "lint"
name_of part.Require = codes "require"
name_of (part.Run name) = run_name (string_bytes name)

-- the word for a verdict
abbrev pub word_of : Verdict → List ℕ
word_of verdict.Holds = codes "ok"
word_of verdict.Noted = codes "noted"
word_of verdict.Fails = codes "failed"

-- the line of a part, and those that say why it doesn't hold
abbrev pub part_text : Judged → List ℕ
part_text judged =
    name_of judged.part ++ (codes " " ++ (word_of judged.verdict ++ (codes "\n" ++ string_bytes judged.lines)))

abbrev pub parts_text : List Judged → List ℕ
parts_text told = flat_map part_text told

abbrev pub fails : Verdict → Bool
fails verdict.Holds = false
fails verdict.Noted = false
fails verdict.Fails = true

abbrev pub is_failed : Judged → Bool
is_failed judged = fails judged.verdict

-- how many parts fail
abbrev pub failed_count : List Judged → ℕ
failed_count told = count_by is_failed told

-- the line that counts the parts, and those that fail
abbrev pub last_line : (count failed : ℕ) → List ℕ
last_line count failed = if failed == 0
    then codes "verified " ++ (decimal count ++ codes "\n")
    else codes "failed " ++ (decimal failed ++ (codes " of " ++ (decimal count ++ codes "\n")))

-- all that is told
abbrev pub report_text : List Judged → List ℕ
report_text told = parts_text told ++ last_line (length told) (failed_count told)
