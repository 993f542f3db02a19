-- The members of a table, one after another, and the values of a list.
use Rattle.std.proofs.Common.{◌≡◌, ℕ, List, ◌∷◌, String, Global, string_bytes, sym, subst}
use Rattle.toml.{specs.View.{view, members_view}, specs.declared.value.Value.{Value}}
use Rattle.plan_values.specs.declared.plan.Plan.{Plan}
use Rattle.record_fields.specs.Named.{Named}
use Rattle.board_values.specs.Said.{AreKeys}
use Rattle.board_kept.specs.Fields.{IsMemberGiven, AreMembersGiven}

pub next_member : (plan : Plan) (fields : List Named) (k : String Global) (v : Value) (name : List ℕ) (entries rest : List (String Global × Value))
    → entries ≡ (k, v) ∷ rest → name ≡ string_bytes k → IsMemberGiven plan fields name (view v)
    → AreMembersGiven plan fields (members_view rest) → AreMembersGiven plan fields (members_view entries)
next_member plan fields k v name entries rest same named given others =
    subst (λ es. AreMembersGiven plan fields (members_view es)) (sym same)
    (subst (λ n. IsMemberGiven plan fields n (view v)) named given, others)

pub next_key : (IsKey : List ℕ → Type 0) (k : String Global) (v : Value) (name : List ℕ) (entries rest : List (String Global × Value))
    → entries ≡ (k, v) ∷ rest → name ≡ string_bytes k → IsKey name → AreKeys IsKey (members_view rest) → AreKeys IsKey (members_view entries)
next_key IsKey k v name entries rest same named here others =
    subst (λ es. AreKeys IsKey (members_view es)) (sym same) (subst IsKey named here, others)
