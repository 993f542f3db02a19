-- That inputs were not read is no failure of the output.
use Rattle.std.proofs.Common.{inl, inr}
use Rattle.command_answers.{specs.Answers.{Stream}, specs.declared.refused.Refused.TheVariants.{Unwritten}}
use Rattle.play_commands.{specs.Simulating.{AreUnreadAmong}, specs.MoveSimulating.{IsPlayUnread}}

pub unread_written : (plans certificates happenings : Stream) → AreUnreadAmong Unwritten plans certificates happenings → ⊥
unread_written plans certificates happenings (inl (inl none)) = none
unread_written plans certificates happenings (inl (inr (plan, gave, none))) = none
unread_written plans certificates happenings (inr (plan, certificate, given, none)) = none

pub move_unread_written : (befores afters certificates happenings : Stream) → IsPlayUnread Unwritten befores afters certificates happenings → ⊥
move_unread_written befores afters certificates happenings (inl (inl (inl none))) = none
move_unread_written befores afters certificates happenings (inl (inl (inr (before, gave, none)))) = none
move_unread_written befores afters certificates happenings (inl (inr (before, after, gave, gave_after, none))) = none
move_unread_written befores afters certificates happenings (inr (before, after, certificate, given, none)) = none
