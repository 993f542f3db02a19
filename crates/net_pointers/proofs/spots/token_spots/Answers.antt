use Rattle.std.{proofs.Common.{rules, ◌≡◌, ◌⊎◌, inl, inr, ◌<◌, ◌≤◌, ℕ, ◌∷◌, [], ◌+◌, ◌++◌, length, slice_index_or, true, false, refl, sym, ap, subst, ◌∙◌, arith}, proofs.lemmas.List.{length-append}, proofs.Math.ListN.{drop_of_length-le}}
use Rattle.json.specs.Lex.{between}
use Rattle.net_pointers.{specs.Scans.{begins_token, mode_after, lexed}, specs.declared.spots.Spot.{Spot}, proofs.ScanLaws.{IsPassed, nothing_passed, passed_over, passed_token, no_mark, found, not_there}, proofs.SpotLaws.{HaveSpots, none_yet, spot_pushed}, proofs.LastLines.{Moves, moved}, proofs.spots.token_spots.Goals.{then-begins_token+in_ok-push, else-begins_token}}
use Rattle.net_pointers.proofs.spots.token_spots.Goals as goal

cases : (m n : ℕ) → (m < n) ⊎ (n ≤ m)
cases m n = grind arith

by_cases : {A B P : Type 0} → A ⊎ B → (A → P) → (B → P) → P
by_cases (inl a) f g = f a
by_cases (inr b) f g = g b

pub loop-offset-init : goal.loop-offset-init
loop-offset-init c =
    let none = c.new-spots.ensures.items in (
      subst (HaveSpots c.args.text.now) (sym none) (none_yet c.args.text.now),
      subst (IsPassed c.args.text.now between 0) (sym (ap length none)) (nothing_passed c.args.text.now),
      (refl, refl),
      omega arith,
      omega arith,
    )

pub loop-offset-preserved : goal.loop-offset-preserved
loop-offset-preserved c =
    let inv = c.loop-offset.invariant in
    let text = c.args.text.now in
    let offset = c.loop-offset.offset in
    let m = lexed c.loop-offset.mode in
    let at = slice_index_or text offset 0 in
    let next : mode_after m at ≡ lexed c.mode_after-mode.result = search rules in
    let moves : Moves at c.loop-offset.position c.after_byte-position.result = record {
      feed = c.after_byte-position.ensures.feed;
      begun = c.after_byte-position.ensures.begun;
      within = c.after_byte-position.ensures.within;
    } in
    let place = moved text offset c.loop-offset.position c.after_byte-position.result c.loop-offset-test.true inv.2 moves in
    elim c.if-begins_token.branch [
      | then-begins_token+in_ok-push w ↦
          let one : begins_token m at ≡ true = search rules in
          let spots = c.loop-offset.spots.items in
          let spot : Spot = record { offset = offset; position = c.loop-offset.position } in
          let same : c.if-begins_token.spots.items ≡ spots ++ spot ∷ [] = ap (λ v. v.items) w.spots-is ∙ w.in_ok-push.ensures.items in
          let longer : length c.if-begins_token.spots.items ≡ length spots + 1 = let l = length-append spots (spot ∷ []) in let e = ap length same in omega (arith, l, e) in (
            subst (HaveSpots text) (sym same) (spot_pushed text spots spot inv.0 (λ u us left sound.
                (let there = found text m offset (length spots) u us inv.1 c.loop-offset-test.true one left sound in ((c.loop-offset-test.true, no_mark m at one, there.0, there.1), inv.2)))),
            subst (λ n. IsPassed text n (offset + 1) (length c.if-begins_token.spots.items)) next (subst (IsPassed text (mode_after m at) (offset + 1)) (sym longer) (passed_token text m offset (length spots) inv.1 c.loop-offset-test.true one)),
            place,
            omega (arith, c.after_byte-position.ensures.least_line, inv.3),
            omega (arith, c.after_byte-position.ensures.least_column, inv.4),
          )
      | else-begins_token w ↦
          let none : begins_token m at ≡ false = search rules in
          let same = ap (λ v. v.items) w.spots-is in (
            subst (HaveSpots text) (sym same) inv.0,
            subst (λ n. IsPassed text n (offset + 1) (length c.if-begins_token.spots.items)) next (subst (IsPassed text (mode_after m at) (offset + 1)) (sym (ap length same)) (passed_over text m offset (length c.loop-offset.spots.items) inv.1 c.loop-offset-test.true none)),
            place,
            omega (arith, c.after_byte-position.ensures.least_line, inv.3),
            omega (arith, c.after_byte-position.ensures.least_column, inv.4),
          )
    ]

pub returns : goal.returns
returns c = λ k u us left sound.
    let inv = c.loop-offset.invariant in
    let text = c.args.text.now in
    by_cases (cases k (length c.loop-offset.spots.items)) (λ less. inv.0 k u us less left sound)
    (λ past. not_there text (lexed c.loop-offset.mode) c.loop-offset.offset (length c.loop-offset.spots.items) k u us inv.1 (drop_of_length-le text c.loop-offset-test.false) past left sound)
