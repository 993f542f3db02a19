use Rattle.std.{proofs.Common.{◌≡◌, ◌<◌, ◌+◌, ◌==◌, ◌||◌, not, true, length, map, drop, cond, ap, sym, ◌∙◌, arith}, specs.List.{position_or_len}, proofs.lemmas.List.{length-map}}
use Rattle.pdr_repository.specs.Records.{entry_of, entries}
use Rattle.audited_captures.{specs.RecordReadings.{is_meant_by}, proofs.RecordLaws.{left_of, place_here}}
use Rattle.audited_captures.proofs.record_readings.place_of.Goals as goal

pub returns-then-is_meant : goal.returns-then-is_meant
returns-then-is_meant c =
    let items = c.args.records.now in
    let i = c.loop-i.i in
    let item = c.index-records-i.result in
    let p = is_meant_by c.args.handle in
    let within : i < length items = omega (arith, c.loop-i-test.true) in
    let meant : p (entry_of item) ≡ true = ap (λ r. c.args.handle == 0 || r.0 == c.args.handle) c.index-records-i.is ∙ sym c.is_meant.ensures ∙ c.if-is_meant.true in
    let rest = entries (drop (i + 1) items) in
    let none : position_or_len p (entries (drop i items)) ≡ 0 =
    ap (position_or_len p) (left_of entry_of items i item within c.index-records-i.is) ∙ ap (λ b. cond (not b) (1 + position_or_len p rest) 0) meant in
    sym (place_here p (entries items) i (omega (arith, c.loop-i.invariant, none)) (omega (arith, within, length-map items entry_of)))
