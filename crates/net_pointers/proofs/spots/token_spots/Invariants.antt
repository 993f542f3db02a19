-- The tokens that begin before the offset have their spots.
use Rattle.std.proofs.Common.{◌≤◌, ◌+◌, length}
use Rattle.net_pointers.{specs.Scans.{lexed}, specs.Spots.{IsAt}, proofs.ScanLaws.{IsPassed}, proofs.SpotLaws.{HaveSpots}}
use Rattle.net_pointers.proofs.spots.token_spots.Given as goal

abbrev pub invariant-loop-offset : goal.invariant-loop-offset
invariant-loop-offset l = HaveSpots l.text l.spots.items × IsPassed l.text (lexed l.mode) l.offset (length l.spots.items)
    × IsAt l.text l.offset l.position × (l.position.line ≤ l.offset + 1) × (l.position.column ≤ l.offset + 1)
