use Rattle.std.{proofs.Common.{◌≡◌, length, map, subst, arith}, proofs.lemmas.List.{length-map}}
use Rattle.pdr_repository.specs.Records.{entry_of, entries}
use Rattle.audited_captures.{specs.Lines.{line_value}, specs.RecordLines.{AddsDifferences, is_unread, one_if, unread_count}, proofs.MatchLaws.{adds_both, suc_more}}
use Rattle.audited_captures.proofs.record_lines.add_unread.Goals as goal

pub loop-place-preserved : goal.loop-place-preserved
loop-place-preserved c =
    let verdicts = c.args.verdicts.now in
    let place = c.loop-place.place in
    adds_both (map line_value c.args.lines.now.items) (map line_value c.loop-place.lines.items) (map line_value c.add_unread_at.new.lines.items) (unread_count verdicts place)
    (one_if (is_unread verdicts place)) _ (suc_more (is_unread verdicts) place) c.loop-place.invariant c.in_ok-add_unread_at.ensures

pub returns : goal.returns
returns c =
    let past : c.loop-place.place ≡ length (entries c.args.records.now) = omega (arith, c.loop-place-test.false, c.loop-place.auto.place-end, length-map c.args.records.now entry_of) in
    subst (λ n. AddsDifferences (map line_value c.args.lines.now.items) (map line_value c.loop-place.lines.items) (unread_count c.args.verdicts.now n)) past c.loop-place.invariant
