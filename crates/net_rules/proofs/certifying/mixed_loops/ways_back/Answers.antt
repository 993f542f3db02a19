use Rattle.std.{proofs.Common.{◌≡◌, ℕ, ◌+◌, ◌<◌, ◌∷◌, [], ◌++◌, List, Bool, Some, length, arith, subst, sym, ◌∙◌, ap, refl, false, true}, specs.Prelude.{slice_get}, proofs.lemmas.List.{length_push}, proofs.lemmas.Option.{slice_get-get_or}}
use Rattle.net_rules.{specs.Moves.{Leads}, specs.LongestWays.{MovesByEither}, specs.MixedLoops.{AreMarked, is_marked}, proofs.LoopLaws.{IsOneBack, first_ways, ways_next, ways_pushed, returned, not_back_yet, never_back_either}, proofs.certifying.mixed_loops.ways_back.Goals.{In_ok-marks}}
use Rattle.net_rules.proofs.certifying.mixed_loops.ways_back.Goals as goal

pub loop-moves-init : goal.loop-moves-init
loop-moves-init c =
    let Move = MovesByEither c.args.old.now c.args.new.now in
    let marks = c.in_ok-one_marked.field-0 in
    let is = c.in_ok-push.ensures.items ∙ ap (λ xs. xs ++ marks ∷ []) c.new-layers.ensures.items in
    rw is (record {
      long = refl;
      ways = first_ways Move c.args.start marks c.in_ok-one_marked.ensures;
      none = λ k some none. absurd (omega arith);
    })

-- the places that so many moves lead back from, with one more
next_marks : (c : In_ok-marks) → AreMarked (λ n. Leads (MovesByEither c.args.old.now c.args.new.now) n (c.loop-moves.moves + 1) c.args.start) c.in_ok-marks.marks.items
next_marks c =
    let Move = MovesByEither c.args.old.now c.args.new.now in
    let layers = c.loop-moves.layers.items in
    let moves = c.loop-moves.moves in
    let marks = c.index.result.now in
    let within : moves < length layers = omega (arith, c.loop-moves.invariant.long) in
    let at : slice_get layers moves ≡ Some marks = slice_get-get_or layers moves marks within ∙ ap Some (sym c.index.ensures) in
    let P : List Bool → Type 0 = λ list. AreMarked (IsOneBack Move list) c.in_ok-marks.marks.items in
    ways_next Move c.args.start layers moves marks c.in_ok-marks.marks.items c.loop-moves.invariant.ways at (subst P c.deref.ensures.value c.in_ok-marks.ensures.marked)

pub returns-then-is_back : goal.returns-then-is_back
returns-then-is_back c =
    let Move = MovesByEither c.args.old.now c.args.new.now in
    let marks = c.in_ok-marks.marks in
    let mark : is_marked marks.items c.args.start ≡ true = ap (λ list. is_marked list c.args.start) (sym c.deref-in-loop-moves.ensures.value) ∙ (sym c.is_marked-is_back.ensures ∙ c.if-is_back.true) in
    let before = c.loop-moves.invariant in
    rw c.in_ok-push-2.ensures.items (returned Move c.args.start c.loop-moves.moves c.loop-moves.layers.items marks before.long before.ways before.none (next_marks ((goal.at.returns-then-is_back c).In_ok-marks)) mark)

pub loop-moves-preserved : goal.loop-moves-preserved
loop-moves-preserved c =
    let Move = MovesByEither c.args.old.now c.args.new.now in
    let layers = c.loop-moves.layers.items in
    let moves = c.loop-moves.moves in
    let marks = c.in_ok-marks.marks in
    let unmarked : is_marked marks.items c.args.start ≡ false = ap (λ list. is_marked list c.args.start) (sym c.deref-in-loop-moves.ensures.value) ∙ (sym c.is_marked-is_back.ensures ∙ c.if-is_back.false) in
    let before = c.loop-moves.invariant in
    let next = next_marks ((goal.at.loop-moves-preserved c).In_ok-marks) in
    let P : ℕ → Type 0 = λ k. AreMarked (λ n. Leads Move n k c.args.start) marks.items in
    rw c.in_ok-push-2.ensures.items (record {
      long = omega (arith, length_push layers marks, before.long);
      ways = ways_pushed Move c.args.start layers marks before.ways (subst P (sym before.long) next);
      none = not_back_yet Move c.args.start moves marks.items before.none next unmarked;
    })

pub returns : goal.returns
returns c = never_back_either c.args.old.now c.args.new.now c.requires.tables c.args.start (λ k some le. c.loop-moves.invariant.none k some (omega (arith, le, c.loop-moves-test.false)))
