use Rattle.std.proofs.Common.{List, ◌++◌, map, drop}
use Rattle.record_fields.{specs.Named.{Named}, specs.Meanings.{named_of}}
use Rattle.board_kept.specs.Fields.{AreNamed}
use Rattle.board_kept.proofs.fields.fields_of.Given as goal

abbrev pub invariant-loop-index : goal.invariant-loop-index
invariant-loop-index l = (rest : List Named) → AreNamed l.name (drop l.index (map named_of l.fields)) rest
    → AreNamed l.name (map named_of l.fields) (map named_of l.own.items ++ rest)
