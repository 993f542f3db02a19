use Rattle.std.{proofs.Common.{rules, ◌≡◌, ◌+◌, drop, slice_index_or, true, false, ap, subst, ◌∙◌, arith}, proofs.Math.ListN.{drop_of_length-le}}
use Rattle.json.specs.Lex.{tokens}
use Rattle.net_pointers.{specs.Scans.{begins_token, mode_after, lexed}, proofs.ScanLaws.{IsPassed, nothing_passed, passed_over, passed_token, no_mark, found, not_there}, proofs.scan.token_offset.Goals.{then-begins_token+else-left-eq0, else-begins_token}}
use Rattle.net_pointers.proofs.scan.token_offset.Goals as goal

pub loop-offset-init : goal.loop-offset-init
loop-offset-init c = (0, grind arith, nothing_passed c.args.text.now)

pub returns-then-left-eq0 : goal.returns-then-left-eq0
returns-then-left-eq0 c = λ u us left sound.
    let inv = c.loop-offset.invariant in
    let m = lexed c.loop-offset.mode in
    let at = slice_index_or c.args.text.now c.loop-offset.offset 0 in
    let one : begins_token m at ≡ true = search rules in
    let all : inv.0 ≡ c.args.count = grind arith in
    let there = found c.args.text.now m c.loop-offset.offset inv.0 u us inv.2 c.loop-offset-test.true one (ap (λ n. drop n (tokens c.args.text.now)) all ∙ left) sound in
    (c.loop-offset-test.true, no_mark m at one, there.0, there.1)

pub loop-offset-preserved : goal.loop-offset-preserved
loop-offset-preserved c =
    let inv = c.loop-offset.invariant in
    let text = c.args.text.now in
    let offset = c.loop-offset.offset in
    let m = lexed c.loop-offset.mode in
    let at = slice_index_or text offset 0 in
    let next : mode_after m at ≡ lexed c.mode_after-mode.result = search rules in
    elim c.if-begins_token.branch [
      | then-begins_token+else-left-eq0 w ↦
          let one : begins_token m at ≡ true = search rules in
          (inv.0 + 1, grind arith, subst (λ n. IsPassed text n (offset + 1) (inv.0 + 1)) next (passed_token text m offset inv.0 inv.2 c.loop-offset-test.true one))
      | else-begins_token w ↦
          let none : begins_token m at ≡ false = search rules in
          (inv.0, grind arith, subst (λ n. IsPassed text n (offset + 1) inv.0) next (passed_over text m offset inv.0 inv.2 c.loop-offset-test.true none))
    ]

pub returns : goal.returns
returns c = λ u us left sound.
    let inv = c.loop-offset.invariant in
    not_there c.args.text.now (lexed c.loop-offset.mode) c.loop-offset.offset inv.0 c.args.count u us inv.2 (drop_of_length-le c.args.text.now (grind arith)) (grind arith) left sound
