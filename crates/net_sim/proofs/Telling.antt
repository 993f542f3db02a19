-- A walker's records are told.
use Rattle.std.{proofs.Common.{◌≡◌, ℕ, ◌<◌, length, Some, None, refl, sym, ◌∙◌, arith}, proofs.lemmas.Option.{none-some}}
use Rattle.net_tables.specs.TwoPlans.{Tables}
use Rattle.net_runs.specs.Walkers.{WalkerValue, WalkedState, TellWalk, ToldWalk, WalkRefused, WalkRefusal, Also, N08, N09, N10, N11, N12, N13, IsWalkRefused, walk_refusal_number, Standing, standing_of}
use Rattle.net_sim.{specs.WalkedStanding.{NetworkValue, StandsForWalked, WalkedPlays}, proofs.Walking.{walk_refused}}

module _ (tables : Tables) (v : NetworkValue) (number : ℕ) where
  pub tells_none : ((w : WalkedState) → StandsForWalked v w → w.walker number ≡ None) → WalkedPlays tables v (TellWalk number) (WalkRefused N11) v
  tells_none none = walk_refused tables v (TellWalk number) N11 (λ w s. (none w s, before w))
    where
      before : (w : WalkedState) (other : WalkRefusal) → walk_refusal_number other < 11 → ¬ IsWalkRefused tables.plan w (TellWalk number) other
      before w (Also why) less is = is
      before w N08 less is = is
      before w N09 less is = is
      before w N10 less is = is
      before w N11 less is = absurd (omega (arith, less))
      before w N12 less is = is
      before w N13 less is = is

  may_tell : (w : WalkedState) (x : WalkerValue) → w.walker number ≡ Some x → (why : WalkRefusal) → ¬ IsWalkRefused tables.plan w (TellWalk number) why
  may_tell w x there (Also why) is = is
  may_tell w x there N08 is = is
  may_tell w x there N09 is = is
  may_tell w x there N10 is = is
  may_tell w x there N11 is = none-some x (sym is ∙ there)
  may_tell w x there N12 is = is
  may_tell w x there N13 is = is

  pub tells : (j : ℕ) (x : WalkerValue) (records : ℕ) (standing : Standing) → j ≡ number → ((w : WalkedState) → StandsForWalked v w → w.walker number ≡ Some x)
      → records ≡ length x.walk.records → standing ≡ standing_of x → WalkedPlays tables v (TellWalk number) (ToldWalk j records standing) v
  tells j x records standing is there many stands w s = (w, (may_tell w x (there w s), (is, x, there w s, many, stands, refl)), s)
