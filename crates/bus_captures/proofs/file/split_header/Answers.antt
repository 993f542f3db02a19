use Rattle.std.proofs.Common.{◌≡◌, ◌++◌, ap, sym, ◌∙◌, append_assoc, take-append-drop, drop}
use Rattle.bus_captures.specs.Numbers.{number_bytes}
use Rattle.bus_captures.proofs.file.split_header.Goals as goal

pub returns-in-None : goal.returns-in-None
returns-in-None c =
    let ahead = c.split_at.result.0.now in
    let found = c.in-Some.ensures in
    let whole : c.args.bytes.now ≡ ahead ++ (number_bytes c.args.order c.in-Some.number ++ c.in-Some.body.now) =
    sym (take-append-drop 16 c.args.bytes.now) ∙ ap (λ xs. xs ++ drop 16 c.args.bytes.now) (sym c.split_at.ensures.front)
    ∙ ap (λ xs. ahead ++ xs) (sym c.split_at.ensures.back ∙ found.1) in (
      ahead,
      c.in-Some.body.now,
      c.split_at.ensures.front_len,
      found.0,
      whole ∙ sym (append_assoc ahead (number_bytes c.args.order c.in-Some.number) c.in-Some.body.now),
      sym c.in-None.ensures,
    )
