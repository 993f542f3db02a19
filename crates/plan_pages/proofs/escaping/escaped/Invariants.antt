use Rattle.std.{proofs.Common.{◌≡◌, string_bytes, encode_utf8_all}, specs.List.{flat_map}}
use Rattle.plan_pages.specs.Pages.{escaped_char}
use Rattle.plan_pages.proofs.escaping.escaped.Given as goal

abbrev pub invariant-loop-character : goal.invariant-loop-character
invariant-loop-character l = string_bytes l.written ≡ encode_utf8_all (flat_map escaped_char l.yielded)
