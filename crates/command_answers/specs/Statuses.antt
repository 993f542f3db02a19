-- How the runs of the program end.
use Rattle.std.specs.Prelude.{◌≡◌, ◌⊎◌, ℕ, List, codes, ⊤}
use Rattle.command_answers.{specs.declared.status.Status.{Status}, specs.declared.status.Status.TheVariants.{Yes, Fault, Unreadable, NoMemory}, specs.declared.refused.Refused.{Refused}, specs.declared.refused.Input.{Input}}
use Rattle.net_plan.specs.declared.error.PlanError.{PlanError}
use Rattle.reading_texts.specs.ReadingLines.{unread_line}
use Rattle.plan_values.specs.declared.plan.Plan.{Plan}
use Rattle.command_answers.specs.declared.refused.Input.TheVariants as input
use Rattle.net_plan.specs.declared.error.PlanError.TheVariants as error

-- the exit status
abbrev pub number_of : Status → ℕ
number_of Yes = 0
number_of Fault = 1
number_of Unreadable = 2
number_of NoMemory = 3

-- what the program calls a file
abbrev pub role_of : Input → List ℕ
role_of input.Plan = codes "plan"
role_of input.Certificate = codes "certificate"
role_of input.Events = codes "events"
role_of input.Lines = codes "lines"

-- how a run ends that gives no answer
abbrev pub status_of : Refused → Status
status_of Refused.NoMemory = NoMemory
status_of _ = Unreadable

-- the line that tells why there is no answer
abbrev pub refusal_text : Refused → List ℕ
refusal_text Refused.Usage = codes "usage\n"
refusal_text (Refused.Unreadable unread cause) = unread_line (role_of unread) cause
refusal_text Refused.UnknownNode = codes "unreadable node: J06\n"
refusal_text Refused.UnreadableHex = codes "unreadable hex: J07\n"
refusal_text Refused.TooMuch = codes "unreadable walk: G09\n"
refusal_text Refused.Unwritten = codes "unreadable output: file\n"
refusal_text Refused.NoMemory = codes "no memory\n"

-- Which refusal is reported: the refusal itself; or, of an input that can't be read, want of memory for the line.
abbrev pub IsReportedFor : (why reported : Refused) → Type 0
IsReportedFor (Refused.Unreadable unread cause) reported =
    (reported ≡ Refused.Unreadable unread cause) ⊎ (reported ≡ Refused.NoMemory)
IsReportedFor why reported = reported ≡ why

-- The cause of a refusal: of an input that can't be read, by its error, of a name that nothing has which is
-- asked for, of a text that is no hex, and of records with too many bytes. Want of memory needs none. No command is
-- refused for its usage, and that the output failed is told apart.
abbrev pub HasCause : (Input → PlanError → Type 0) → (unknown no_hex too_much : Type 0) → Refused → Type 0
HasCause IsUnread unknown no_hex too_much Refused.Usage = ⊥
HasCause IsUnread unknown no_hex too_much (Refused.Unreadable input cause) = IsUnread input cause
HasCause IsUnread unknown no_hex too_much Refused.UnknownNode = unknown
HasCause IsUnread unknown no_hex too_much Refused.UnreadableHex = no_hex
HasCause IsUnread unknown no_hex too_much Refused.TooMuch = too_much
HasCause IsUnread unknown no_hex too_much Refused.Unwritten = ⊥
HasCause IsUnread unknown no_hex too_much Refused.NoMemory = ⊤

-- why there is no answer, where reading an input ended in an error
abbrev pub refused_at : Input → PlanError → Refused
refused_at unread error.OutOfMemory = Refused.NoMemory
refused_at unread e = Refused.Unreadable unread e

-- the line that tells that a certificate fits its plan
abbrev pub yes_line : List ℕ
yes_line = codes "yes\n"

-- the line that tells that nothing looks wrong
abbrev pub clean_line : List ℕ
clean_line = codes "clean\n"
