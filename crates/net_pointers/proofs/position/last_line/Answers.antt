use Rattle.std.proofs.Common.{rules, suc, ◌≡◌, ◌∷◌, ◌+◌, drop, drop-cons, slice_index_or, true, false, ap, sym, ◌∙◌, arith}
use Rattle.net_pointers.{specs.Positions.{is_line_feed, last_line}, proofs.Lines.{last_of, whole_left, line_feed, other_byte}, proofs.position.last_line.Goals.{then-byte-eq10, else-byte-eq10}}
use Rattle.net_pointers.proofs.position.last_line.Goals as goal

pub loop-index-init : goal.loop-index-init
loop-index-init c = (search rules, whole_left c.args.bytes.now)

pub loop-index-preserved : goal.loop-index-preserved
loop-index-preserved c =
    let bytes = c.args.bytes.now in
    let index = c.loop-index.index in
    let byte = slice_index_or bytes index 0 in
    let one : suc index ≡ index + 1 = omega arith in
    let next : drop index bytes ≡ byte ∷ drop (index + 1) bytes = drop-cons bytes index 0 c.loop-index-test.true ∙ ap (λ n. byte ∷ drop n bytes) one in
    let before : last_line bytes ≡ last_of (byte ∷ drop (index + 1) bytes) (drop c.loop-index.start bytes) = c.loop-index.invariant.1 ∙ ap (λ left. last_of left (drop c.loop-index.start bytes)) next in
    elim c.if-byte-eq10.branch [
      | then-byte-eq10 w ↦
          let is : is_line_feed byte ≡ true = search (rules, w.if-byte-eq10) in
          (search rules, before ∙ line_feed byte (drop (index + 1) bytes) (drop c.loop-index.start bytes) is ∙ ap (λ start. last_of (drop (index + 1) bytes) (drop start bytes)) (sym w.start-is))
      | else-byte-eq10 w ↦
          let not_it : is_line_feed byte ≡ false = search (rules, w.if-byte-eq10) in
          (search rules, before ∙ other_byte byte (drop (index + 1) bytes) (drop c.loop-index.start bytes) not_it ∙ ap (λ start. last_of (drop (index + 1) bytes) (drop start bytes)) (sym w.start-is))
    ]
