-- Searches for one thing that are searches for another.
use Rattle.std.proofs.Common.{ℕ, Option, Some, None}
use Rattle.mctp_transport.specs.declared.address.Eid.{Eid}
use Rattle.net_explained.specs.Searches.{IsLeastEid}

pub least_alike : (P Q : ℕ → Type 0) (found : Option Eid) → ((e : ℕ) → P e → Q e) → ((e : ℕ) → Q e → P e) → IsLeastEid P found → IsLeastEid Q found
least_alike P Q None to from none = λ e q. none e (from e q)
least_alike P Q (Some eid) to from (here, least) = (to eid.value here, λ e less q. least e less (from e q))
