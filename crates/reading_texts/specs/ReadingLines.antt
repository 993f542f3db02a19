-- The lines that tell why a text doesn't read: their codes, and the places that they name.
use Rattle.std.{specs.Prelude.{◌≡◌, ◌+◌, ℕ, List, [], ◌∷◌, ◌++◌, take, count_by, codes, Option, Some, None}, specs.Fmt.{decimal}, specs.List.{flat_map}}
use Rattle.net_plan.{specs.Finding.{Step, key, index}, specs.declared.error.PlanError.{PlanError}}
use Rattle.net_pointers.specs.Positions.{is_line_feed, begins_character, last_line}
use Rattle.net_plan.specs.declared.error.PlanError.TheVariants as error

-- ---- why

-- the code of why a text gave nothing; `file` where the source failed
abbrev pub unread_code : PlanError → List ℕ
unread_code error.NotJson = codes "J01"
unread_code error.WrongKind = codes "J02"
unread_code error.MissingKey = codes "J03"
unread_code error.UnknownKey = codes "J04"
unread_code error.OutOfRange = codes "J05"
unread_code error.UnknownName = codes "J06"
unread_code error.BadHex = codes "J07"
unread_code error.OverLimit = codes "J08"
unread_code error.Doubled = codes "J09"
unread_code error.Device = codes "file"
unread_code error.OutOfMemory = codes "no memory"

-- the line that tells that a text of this role doesn't read
abbrev pub unread_line : List ℕ → PlanError → List ℕ
unread_line role cause = codes "unreadable " ++ (role ++ (codes ": " ++ (unread_code cause ++ codes "\n")))

-- ---- where

-- the line and the column of the byte at an offset, where that is known
abbrev pub position_text : List ℕ → Option ℕ → List ℕ
position_text text (Some offset) = codes "line " ++ (decimal (count_by is_line_feed (take offset text) + 1)
    ++ (codes ", column " ++ (decimal (count_by begins_character (last_line (take offset text)) + 1) ++ codes ": ")))
position_text text None = []

abbrev pub step_text : Step → List ℕ
step_text (key k) = codes "/" ++ k
step_text (index i) = codes "/" ++ decimal i

-- a JSON pointer; the one to the whole text is said in words
abbrev pub pointer_text : List Step → List ℕ
pointer_text [] = codes "the whole text"
pointer_text (s ∷ ss) = flat_map step_text (s ∷ ss)

-- the line and the column of the value that begins at an offset, and the pointer to it
abbrev pub place_text : List ℕ → ℕ → List Step → List ℕ
place_text text offset pointer = position_text text (Some offset) ++ pointer_text pointer

-- a line begins so, whatever words come behind that
abbrev pub Begins : List ℕ → List ℕ → Type 0
Begins place line = (words : List ℕ) × (line ≡ place ++ words)
