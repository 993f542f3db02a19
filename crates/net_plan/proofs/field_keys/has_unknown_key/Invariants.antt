-- The members that are left decide.
use Rattle.std.{proofs.Common.{◌≡◌, not, drop}, specs.List.{list_any}, specs.Str.{bytes_eq}}
use Rattle.net_plan.specs.declared.shape.Field.{out-Field}
use Rattle.net_plan.proofs.field_keys.has_unknown_key.Given as goal

abbrev pub invariant-loop-member : goal.invariant-loop-member
invariant-loop-member l = list_any (λ m. not (list_any (λ f. bytes_eq m.0.now (out-Field f).key.now) l.fields)) (drop l.member-index l.member-items)
    ≡ list_any (λ m. not (list_any (λ f. bytes_eq m.0.now (out-Field f).key.now) l.fields)) l.member-items
