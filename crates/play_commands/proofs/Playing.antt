-- What the end of a run says of an answer that was written as it was found.
use Rattle.std.{proofs.Common.{◌≡◌, ◌⊎◌, ℕ, List, Result, Ok, Err, inl, inr, refl, sym, ◌∙◌, subst}, specs.Prelude.{IfOk, IfErr}, specs.Io.KnownBytes.{Appends}}
use Rattle.net_tables.specs.TwoPlans.{Tables}
use Rattle.net_runs.specs.Walkers.{WalkedEvent}
use Rattle.plan_values.specs.declared.certificate.Certificate.{Certificate}
use Rattle.command_answers.{specs.declared.refused.Refused.{Refused}, specs.declared.status.Status.{Status}, specs.Answers.{Stream, BreaksOff, Refuses}, specs.Statuses.{status_of}, specs.Told.{IsUngivenFor}, proofs.Telling.{breaks_off_also}, proofs.Told.{refuses_so, of_memory}}
use Rattle.play_commands.specs.Simulating.{IsWalksText, PlaysBy, SimulatesBy, PlaysSo, EndsPlay, ConcludesPlay, RunsIn, IsTextIn}
use Rattle.command_answers.specs.declared.refused.Refused.TheVariants as refused
use Rattle.command_answers.specs.declared.status.Status.TheVariants as status

module _ (Runs : Status → Stream → Type 0) (IsFault IsText : List ℕ → Type 0) (IsUnread : Refused → Type 0) (nothing : Type 0) (output : Stream) where
  abbrev Plays : Result Status Refused → Type 0
  Plays result = PlaysSo Runs IsFault IsText IsUnread nothing result output

  -- the line of a fault that was written, or in which the output failed
  pub plays_fault : (text : List ℕ) (due : Status) (result : Result Status Refused) → due ≡ status.Fault → IsFault text → IsText text
      → IfOk result (λ s. (s ≡ due) × Appends output.before.bytes output.after.bytes text)
      → IfErr result (λ why. (why ≡ refused.Unwritten) × BreaksOff (λ told. told ≡ text) output) → Plays result
  plays_fault text due (Ok s) is fault told (same, written) broken = subst (λ s. Plays (Ok s)) (sym (same ∙ is)) (text, fault, written)
  plays_fault text due (Err why) is fault told given (unwritten, off) =
      subst (λ w. Plays (Err w)) (sym unwritten) (breaks_off_also (λ t. t ≡ text) IsText output (λ t same. subst IsText (sym same) told) off)

  -- memory ran out before anything was written
  pub plays_nothing : (why : Refused) → why ≡ refused.NoMemory → nothing → Plays (Err why)
  plays_nothing why is same = subst (λ w. Plays (Err w)) (sym is) (inl same)

  -- an input was not read
  pub plays_unread : (why : Refused) → (IsUnread refused.Unwritten → ⊥) → IsUnread why → nothing → Plays (Err why)
  plays_unread refused.Usage none unread same = (same, unread)
  plays_unread (refused.Unreadable input cause) none unread same = (same, unread)
  plays_unread refused.UnknownNode none unread same = (same, unread)
  plays_unread refused.UnreadableHex none unread same = (same, unread)
  plays_unread refused.TooMuch none unread same = (same, unread)
  plays_unread refused.Unwritten none unread same = absurd (none unread)
  plays_unread refused.NoMemory none unread same = inl same

  -- a run that broke off
  pub plays_part : (tables : Tables) (cert : Certificate) (events : List WalkedEvent) (why : Refused) → PlaysBy {T = Unit {0}} tables cert events (Err why) output
      → (SimulatesBy tables cert events status.NoMemory output → Runs status.NoMemory output) → ((text : List ℕ) → IsWalksText tables cert events text → IsText text)
      → Plays (Err why)
  plays_part tables cert events refused.Usage shown runs also = absurd shown
  plays_part tables cert events (refused.Unreadable input cause) shown runs also = absurd shown
  plays_part tables cert events refused.UnknownNode shown runs also = absurd shown
  plays_part tables cert events refused.UnreadableHex shown runs also = absurd shown
  plays_part tables cert events refused.TooMuch shown runs also = absurd shown
  plays_part tables cert events refused.Unwritten shown runs also = breaks_off_also (IsWalksText tables cert events) IsText output also shown
  plays_part tables cert events refused.NoMemory shown runs also = inr (runs shown)

  -- ---- the end of a run

  ends_itself : (s : Status) (errors : Stream) → Plays (Ok s) → EndsPlay Runs IsFault IsUnread s output errors
  ends_itself status.Yes errors plays = plays
  ends_itself status.Fault errors plays = plays
  ends_itself status.Unreadable errors plays = absurd plays
  ends_itself status.NoMemory errors plays = absurd plays

  never_unwritten : (s : Status) → Plays (Ok s) → s ≡ status.Unreadable → ⊥
  never_unwritten status.Yes plays is = absurd (cc)
  never_unwritten status.Fault plays is = absurd (cc)
  never_unwritten status.Unreadable plays is = plays
  never_unwritten status.NoMemory plays is = plays

  never_in_part : (s : Status) → Plays (Ok s) → s ≡ status.NoMemory → ⊥
  never_in_part status.Yes plays is = absurd (cc)
  never_in_part status.Fault plays is = absurd (cc)
  never_in_part status.Unreadable plays is = plays
  never_in_part status.NoMemory plays is = plays

  ungiven : (why : Refused) → Plays (Err why) → status_of why ≡ status.Unreadable → IsUngivenFor IsUnread output why
  ungiven refused.Usage plays is = inl plays.1
  ungiven (refused.Unreadable input cause) plays is = inl plays.1
  ungiven refused.UnknownNode plays is = inl plays.1
  ungiven refused.UnreadableHex plays is = inl plays.1
  ungiven refused.TooMuch plays is = inl plays.1
  ungiven refused.Unwritten plays is = inr (refl, plays.fails)
  ungiven refused.NoMemory plays is = absurd (cc)

  module _ (why : Refused) (ended : Status) (errors : Stream) (refuses : Refuses why ended errors) where
    ends_refused : Plays (Err why) → EndsPlay Runs IsFault IsUnread ended output errors
    ends_refused plays = refuses_so (λ s. EndsPlay Runs IsFault IsUnread s output errors) errors why (λ is line. (why, is, ungiven why plays is, line)) (λ line. line) ended refuses

  left_unwritten : (why : Refused) (ended : Status) (errors : Stream) → Refuses why ended errors → Plays (Err why) → ended ≡ status.Unreadable → nothing ⊎ BreaksOff IsText output
  left_unwritten refused.Usage ended errors refuses plays is = inl plays.0
  left_unwritten (refused.Unreadable input cause) ended errors refuses plays is = inl plays.0
  left_unwritten refused.UnknownNode ended errors refuses plays is = inl plays.0
  left_unwritten refused.UnreadableHex ended errors refuses plays is = inl plays.0
  left_unwritten refused.TooMuch ended errors refuses plays is = inl plays.0
  left_unwritten refused.Unwritten ended errors refuses plays is = inr plays
  left_unwritten refused.NoMemory ended errors refuses plays is =
      let memory : status.Unreadable ≡ status.NoMemory = sym is ∙ (of_memory refused.NoMemory ended errors refl refuses).0 in absurd (cc)

  left_in_part : (why : Refused) (ended : Status) → (why ≡ refused.Unwritten → ended ≡ status.Unreadable) → Plays (Err why) → ended ≡ status.NoMemory
      → nothing ⊎ Runs status.NoMemory output
  left_in_part refused.Usage ended broken plays is = inl plays.0
  left_in_part (refused.Unreadable input cause) ended broken plays is = inl plays.0
  left_in_part refused.UnknownNode ended broken plays is = inl plays.0
  left_in_part refused.UnreadableHex ended broken plays is = inl plays.0
  left_in_part refused.TooMuch ended broken plays is = inl plays.0
  left_in_part refused.Unwritten ended broken plays is =
      let unreadable : status.Unreadable ≡ status.NoMemory = sym (broken refl) ∙ is in absurd (cc)
  left_in_part refused.NoMemory ended broken plays is = plays

-- the end of a run, by how it was answered
pub concludes : (Runs : Status → Stream → Type 0) (IsFault IsText : List ℕ → Type 0) (IsUnread : Refused → Type 0) (nothing quiet : Type 0) (output errors : Stream)
    (answered : Result Status Refused) (ended : Status) → PlaysSo Runs IsFault IsText IsUnread nothing answered output → IfOk answered (λ s. ended ≡ s)
    → IfErr answered (λ why. Refuses why ended errors) → IfErr answered (λ why. why ≡ refused.Unwritten → ended ≡ status.Unreadable)
    → ((ended ≡ status.Yes) ⊎ (ended ≡ status.Fault) → quiet) → ConcludesPlay Runs IsFault IsText IsUnread ended output errors nothing quiet
concludes Runs IsFault IsText IsUnread nothing quiet output errors (Ok s) ended plays is refuses broken silent = record {
  simulates = subst (λ e. EndsPlay Runs IsFault IsUnread e output errors) (sym is) (ends_itself Runs IsFault IsText IsUnread nothing output s errors plays);
  silent = silent;
  unwritten = λ unread. absurd (never_unwritten Runs IsFault IsText IsUnread nothing output s plays (sym is ∙ unread));
  partly_runs = λ lacks. absurd (never_in_part Runs IsFault IsText IsUnread nothing output s plays (sym is ∙ lacks));
}
concludes Runs IsFault IsText IsUnread nothing quiet output errors (Err why) ended plays is refuses broken silent = record {
  simulates = ends_refused Runs IsFault IsText IsUnread nothing output why ended errors refuses plays;
  silent = silent;
  unwritten = left_unwritten Runs IsFault IsText IsUnread nothing output why ended errors refuses plays;
  partly_runs = left_in_part Runs IsFault IsText IsUnread nothing output why ended broken plays;
}

-- what was written may be said of more
module _ (Runs Runs' : Status → Stream → Type 0) (IsFault IsFault' IsText IsText' : List ℕ → Type 0) (IsUnread IsUnread' : Refused → Type 0) (nothing : Type 0) (output : Stream)
    (runs : (s : Status) → Runs s output → Runs' s output) (fault : (text : List ℕ) → IsFault text → IsFault' text) (told : (text : List ℕ) → IsText text → IsText' text)
    (unread : (why : Refused) → IsUnread why → IsUnread' why) where
  pub plays_also : (result : Result Status Refused) → PlaysSo Runs IsFault IsText IsUnread nothing result output → PlaysSo Runs' IsFault' IsText' IsUnread' nothing result output
  plays_also (Ok status.Yes) plays = runs status.Yes plays
  plays_also (Ok status.Fault) (text, is, written) = (text, fault text is, written)
  plays_also (Ok status.Unreadable) plays = plays
  plays_also (Ok status.NoMemory) plays = plays
  plays_also (Err refused.Usage) plays = (plays.0, unread refused.Usage plays.1)
  plays_also (Err (refused.Unreadable input cause)) plays = (plays.0, unread (refused.Unreadable input cause) plays.1)
  plays_also (Err refused.UnknownNode) plays = (plays.0, unread refused.UnknownNode plays.1)
  plays_also (Err refused.UnreadableHex) plays = (plays.0, unread refused.UnreadableHex plays.1)
  plays_also (Err refused.TooMuch) plays = (plays.0, unread refused.TooMuch plays.1)
  plays_also (Err refused.Unwritten) plays = breaks_off_also IsText IsText' output told plays
  plays_also (Err refused.NoMemory) (inl same) = inl same
  plays_also (Err refused.NoMemory) (inr part) = inr (runs status.NoMemory part)

-- so it is of what was played of accepted tables, whatever faults are told
pub plays_in : (tables : Tables) (cert : Certificate) (accepted : Tables × Certificate) (events : List WalkedEvent) (IsFault : List ℕ → Type 0) (nothing : Type 0) (output : Stream)
    (result : Result Status Refused) → accepted ≡ (tables, cert)
    → PlaysSo (RunsIn accepted.0 accepted.1 events) (λ text. ⊥) (IsTextIn accepted.0 accepted.1 events) (λ why. ⊥) nothing result output
    → PlaysSo (RunsIn tables cert events) IsFault (λ text. IsTextIn tables cert events text ⊎ IsFault text) (λ why. ⊥) nothing result output
plays_in tables cert accepted events IsFault nothing output result same plays =
    let P : Tables × Certificate → Type 0 = λ a. PlaysSo (RunsIn a.0 a.1 events) (λ text. ⊥) (IsTextIn a.0 a.1 events) (λ why. ⊥) nothing result output in
    plays_also (RunsIn tables cert events) (RunsIn tables cert events) (λ text. ⊥) IsFault (IsTextIn tables cert events) (λ text. IsTextIn tables cert events text ⊎ IsFault text)
    (λ why. ⊥) (λ why. ⊥) nothing output (λ s runs. runs) (λ text none. absurd none) (λ text told. inl told) (λ why none. none) result (subst P same plays)
