use Rattle.std.{proofs.Common.{◌≡◌, ℕ, ◌+◌, List, [], ◌∷◌, ◌++◌, length, Option, subst, sym, inl, inr, arith}, proofs.lemmas.List.{length_push}}
use Rattle.net_rules.{specs.Circles.{MovesBy, EndsAfter, AreKnown, AreMovesToEnds}, proofs.KnownEnds.{written_whole}}
use Rattle.net_tables.proofs.Elements.{in_push}
use Rattle.net_rules.proofs.certifying.walks.moves_to_ends.Goals as goal

pub loop-index-preserved : goal.loop-index-preserved
loop-index-preserved c =
    let table = c.args.table.now in
    let counts = c.loop-index.counts.items in
    let count = c.in-Some.count in
    let index = c.loop-index.index in
    let known = c.loop-index.known.items in
    let new = c.note_moves.new.known in
    let L : List (Option ℕ) → Type 0 = λ old. length new ≡ length old in
    let long : length new ≡ length known = subst L c.deref_mut.ensures.value c.note_moves.ensures.long in
    let K : List (Option ℕ) → Type 0 = AreKnown (MovesBy table) in
    let more : AreMovesToEnds (MovesBy table) (index + 1) (counts ++ count ∷ []) = (
      omega (arith, length_push counts count, c.loop-index.invariant.counts.0),
      λ n k is. elim (in_push counts count n k is) [
        | inl old ↦ c.loop-index.invariant.counts.1 n k old
        | inr (at, same) ↦ (
            let here : n ≡ index = omega (arith, at, c.loop-index.invariant.counts.0) in
            subst (λ l. EndsAfter (MovesBy table) n l) same (subst (λ m. EndsAfter (MovesBy table) m count) (sym here) c.in-Some.ensures))
      ],
    ) in
    record {
      known = subst K (sym (written_whole c.loop-index.known.len new known long c.loop-index.known.ok.0)) c.note_moves.ensures.known;
      counts = rw c.in_ok-push.ensures.items more;
    }
