-- The lexemes stay the same.
use Rattle.std.proofs.Common.{◌≡◌, length}
use Rattle.json.specs.Lex.{lex, between}
use Rattle.plain_json.proofs.bytes.after_more_spaces.Given as goal

abbrev pub invariant-spaces : goal.invariant-spaces
invariant-spaces l = lex between l.rest ≡ lex between l.bytes

abbrev pub decreases-spaces : goal.decreases-spaces
decreases-spaces l = length l.rest
