-- So many tokens begin before the offset.
use Rattle.std.proofs.Common.{◌≡◌, ◌+◌, ℕ}
use Rattle.net_pointers.{specs.Scans.{lexed}, proofs.ScanLaws.{IsPassed}}
use Rattle.net_pointers.proofs.scan.token_offset.Given as goal

abbrev pub invariant-loop-offset : goal.invariant-loop-offset
invariant-loop-offset l = (n : ℕ) × (n + l.left ≡ l.count) × IsPassed l.text (lexed l.mode) l.offset n
