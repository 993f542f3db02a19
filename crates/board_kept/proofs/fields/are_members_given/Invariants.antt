use Rattle.std.proofs.Common.{map}
use Rattle.toml.specs.View.{members_view, table_view}
use Rattle.record_fields.specs.Meanings.{named_of}
use Rattle.board_kept.specs.Fields.{AreMembersGiven}
use Rattle.board_kept.proofs.fields.are_members_given.Given as goal

abbrev pub invariant-loop-name : goal.invariant-loop-name
invariant-loop-name l = AreMembersGiven l.plan (map named_of l.fields) (members_view l.name-iterator)
    → AreMembersGiven l.plan (map named_of l.fields) (table_view l.table)
