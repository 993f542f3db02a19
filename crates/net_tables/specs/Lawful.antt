-- What runs need of a network's tables, whichever rows each node goes by.
use Rattle.std.specs.Prelude.{◌≡◌, ◌≢◌, ◌⊎◌, ℕ, ◌<◌, Bool}
use Rattle.mctp_transport.specs.PacketValues.{IsAssignable}
use Rattle.plan_values.specs.declared.certificate.Certificate.{Certificate}
use Rattle.net_tables.{specs.Routing.{Holds, NamesFor, IsBridge}, specs.TwoPlans.{Tables, rows_by, HasRowAlways}, specs.Ranks.{rank}}

-- What is held can be held, by one node alone. Along the rows that nodes go by, before they have switched and from then
-- on, the rank falls, and what is held elsewhere is led on.
pub record IsLawful (tables : Tables) (cert : Certificate) : Type 0 where
  pub eids : (n e : ℕ) → Holds tables.plan n e → IsAssignable e
  pub alone : (n m e : ℕ) → Holds tables.plan n e → Holds tables.plan m e → m ≡ n
  pub falls : (switched : Bool) (n e m : ℕ) → ¬ Holds tables.plan n e
      → NamesFor (rows_by tables.plan tables.after switched n) e m → rank cert m e < rank cert n e
  -- a row leads what is held elsewhere to its holder, or to a bridge that always has a row for it
  pub led : (switched : Bool) (n e m : ℕ) → NamesFor (rows_by tables.plan tables.after switched n) e m
      → (holder : ℕ) → Holds tables.plan holder e → holder ≢ n
      → Holds tables.plan m e ⊎ (IsBridge tables.plan m × HasRowAlways tables m e)
