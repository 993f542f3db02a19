-- What the end of `require` says of the plan, the certificate and the text that it read, and of what it wrote.
use Rattle.std.{specs.Prelude.{◌≡◌, ◌≢◌, ◌⊎◌, ℕ, Bool, true, false, List, [], ◌++◌, codes, All, Result, Ok, Err, Vec}, specs.Fmt.{decimal}, specs.Str.{IsUtf8}}
use Rattle.plan_values.{specs.declared.plan.Plan.{Plan}, specs.declared.certificate.Certificate.{Certificate}}
use Rattle.net_plan.specs.declared.stream.TextFault.{TextFault}
use Rattle.net_reached.{specs.declared.reading.BadLine.{BadLine}, specs.declared.reading.WishError.TheVariants.{Unread}, specs.declared.wish.Wish.{Wish}, specs.Lines.{wish_lines}, specs.Reading.{AreWishesOf, IsWhyUnread}, specs.Wishes.{IsMet, AreUnmet}}
use Rattle.net_rules.specs.Rules.{Accepts}
use Rattle.command_answers.{specs.declared.status.Status.{Status}, specs.Answers.{IsFaultText}, specs.Statuses.{yes_line}}
use Rattle.net_plan.specs.declared.stream.TextFault.TheVariants as fault
use Rattle.command_answers.specs.declared.status.Status.TheVariants as status

-- ---- wishes that were read

-- the answer on wishes: it is `yes`, and the plan meets each of them, or it has the lines of those that it doesn't
-- meet, of which there are some
abbrev pub AnswersWishes : Plan → List Wish → Status → List ℕ → Type 0
AnswersWishes plan wishes status.Yes text = All (IsMet plan) wishes × (text ≡ yes_line)
AnswersWishes plan wishes status.Fault text =
    (unmet : List Wish) × AreUnmet plan wishes unmet × (unmet ≢ []) × (text ≡ wish_lines plan unmet)
AnswersWishes plan wishes status.Unreadable text = ⊥
AnswersWishes plan wishes status.NoMemory text = ⊥

-- ---- a text that can't be read

abbrev pub unread_wanted : List ℕ → List ℕ
unread_wanted code = codes "unreadable wanted: " ++ (code ++ codes "\n")

-- a name that no node has, or another thing that no line has
abbrev pub code_of_line : Bool → List ℕ
code_of_line true = codes "J06"
code_of_line false = codes "J05"

abbrev pub unread_line_text : BadLine → List ℕ
unread_line_text bad = unread_wanted (code_of_line bad.is_name)
    ++ (codes "line " ++ (decimal bad.line ++ (codes ", column " ++ (decimal bad.column ++ codes "\n"))))

-- the bytes are no text, or the lines tell the first line of the text that says no wish
abbrev pub IsUnreadWanted : Plan → List ℕ → List ℕ → Type 0
IsUnreadWanted plan wanted text = (¬ IsUtf8 wanted × (text ≡ unread_wanted (codes "J01")))
    ⊎ ((bad : BadLine) × IsWhyUnread plan wanted (Unread bad) × (text ≡ unread_line_text bad))

-- ---- the answer

-- the answer on an accepted plan and the text of what is wanted: on its wishes, or why it has none
abbrev pub IsRequiredOn : Plan → List ℕ → Status → List ℕ → Type 0
IsRequiredOn plan wanted ended text =
    ((wishes : List Wish) × AreWishesOf plan wanted wishes × AnswersWishes plan wishes ended text)
    ⊎ ((ended ≡ status.Unreadable) × IsUnreadWanted plan wanted text)

-- the same of a plan and a certificate, whose first fault is told where they are not accepted
abbrev pub RequiresOn : Plan → Certificate → List ℕ → Status → List ℕ → Type 0
RequiresOn plan certificate wanted ended text = (Accepts plan certificate × IsRequiredOn plan wanted ended text)
    ⊎ ((ended ≡ status.Fault) × IsFaultText plan certificate text)

-- what is told of a text that could not be read; want of memory is not told
abbrev pub IsWithoutWanted : TextFault → List ℕ → Type 0
IsWithoutWanted fault.TooLong text = text ≡ unread_wanted (codes "J08")
IsWithoutWanted fault.Device text = text ≡ unread_wanted (codes "file")
IsWithoutWanted fault.OutOfMemory text = ⊥

-- the same of a plan, a certificate and a text that was read, or why it was not
abbrev pub RequiresOf : {Z : Type 0} → Plan → Certificate → Result (Vec ℕ Z) TextFault → Status → List ℕ → Type 0
RequiresOf plan certificate (Ok wanted) ended text = RequiresOn plan certificate wanted.items ended text
RequiresOf plan certificate (Err why) ended text = (ended ≡ status.Unreadable) × IsWithoutWanted why text
