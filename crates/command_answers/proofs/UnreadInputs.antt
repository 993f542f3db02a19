-- What is known of a source that gave no plan, or no certificate.
use Rattle.std.{proofs.Common.{◌≤◌, List, length, ℕ, Result, Ok, Err}, specs.Prelude.{IfErr}, specs.Io.KnownBytes.{Consumes, IsAtEnd}}
use Rattle.serde_json.specs.Data.{Data}
use Rattle.net_plan.specs.declared.error.ValueFault.{ValueFault}
use Rattle.net_pointers.specs.Asks.{Sort}
use Rattle.command_answers.{specs.declared.inputs.Unread.{Unread}, specs.declared.inputs.Unread.TheVariants.{NoMemory, Failed, TooLong, Text}, specs.Answers.{Stream}, specs.UnreadInputs.{IsUnreadAs, IsUnreadBy}}

-- by why its text is none
pub unread_by : {A T : Type 0} (s : Sort) (said : Data → Result A ValueFault) (R : Data → A → Type 0) (source : Stream) (bytes : List ℕ) (r : Result T Unread)
    → Consumes source.before.bytes source.after.bytes bytes → IsAtEnd source.after.bytes → length bytes ≤ 16777216 → IfErr r (IsUnreadAs s said R bytes) → IfErr r (IsUnreadBy s said R source)
unread_by s said R source bytes (Ok x) took end few h = tt
unread_by s said R source bytes (Err NoMemory) took end few h = tt
unread_by s said R source bytes (Err Failed) took end few h = absurd h
unread_by s said R source bytes (Err TooLong) took end few h = absurd h
unread_by s said R source bytes (Err (Text text fault)) took end few h = (bytes, took, end, few, h)
