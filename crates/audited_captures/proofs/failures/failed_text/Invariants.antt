use Rattle.std.{proofs.Common.{◌≡◌, take}, specs.Prelude.{string_bytes}}
use Rattle.audited_captures.specs.Failures.{failed_text}
use Rattle.audited_captures.proofs.failures.failed_text.Given as goal

abbrev pub invariant-loop-code : goal.invariant-loop-code
invariant-loop-code l = string_bytes l.text ≡ failed_text l.words (take l.code-index l.failures)
