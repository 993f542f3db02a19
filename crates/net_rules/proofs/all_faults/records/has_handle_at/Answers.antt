use Rattle.std.{proofs.Common.{◌<◌, length, refl, arith, below_more}, proofs.lemmas.Option.{slice_get_within}}
use Rattle.net_rules.proofs.all_faults.records.has_handle_at.Goals as goal

pub returns-then-is_handle_at : goal.returns-then-is_handle_at
returns-then-is_handle_at c =
    let found = c.is_handle_at.ensures.0 c.if-is_handle_at.true in
    (λ _. (c.loop-index.index, found.0, found.1, found.2, found.3), λ _. refl)

pub loop-index-preserved : goal.loop-index-preserved
loop-index-preserved c = below_more _ _ c.loop-index.invariant (λ found. cc (c.is_handle_at.ensures.1 found, c.if-is_handle_at.false))

pub returns : goal.returns
returns c = (
  λ h. absurd (cc h),
  λ (k, r, at, given, is). absurd (
      let within : k < length c.args.records.now = slice_get_within c.args.records.now k r at in
      c.loop-index.invariant k (omega arith) (r, at, given, is)
      ),
)
