-- One index more, and one that is behind the end.
use Rattle.std.{proofs.Common.{◌≡◌, ℕ, ◌+◌, ◌<◌, List, Bool, false, Option, Some, None, IsTrue, IfSome, option_and_then, slice_get, string_bytes, refl, sym, subst, ◌∙◌, inl, inr, arith, codes}, proofs.lemmas.Bool.{cases_lt, cases_Bool, false≢true}, proofs.lemmas.Option.{none-some}}
use Rattle.mctp_transport.specs.declared.address.Eid.{Eid}
use Rattle.toml.specs.Data.{Data, as_str}
use Rattle.plan_values.{specs.declared.plan.Plan.{Plan}, specs.declared.nodes.Node.{Node}, specs.declared.nodes.Row.{Row}}
use Rattle.board_values.{specs.Said.{SaysText, item_at}, proofs.Beyond.{item_beyond}}
use Rattle.board_kept.{specs.Fields.{NamesHolder}, specs.Kept.{IsRowKeptAt, IsNameAt}}

pub one_more : (P : ℕ → Type 0) (i : ℕ) → ((k : ℕ) → k < i → P k) → P i → (k : ℕ) → k < i + 1 → P k
one_more P i before here k within = elim (cases_lt k i) [
  | inl less ↦ before k less
  | inr more ↦ (let same : i ≡ k = omega (arith, more, within) in subst P same here)
]

-- what a test denies is not so
pub denied : {P : Type 0} (answer : Bool) → (P → IsTrue answer) → answer ≡ false → ¬ P
denied answer says is_not p = false≢true (sym is_not ∙ says p)

-- a text that stands in a list stands among its first items, or there are more
pub among_first : (d : Data) (key text : List ℕ) (most : ℕ) (are_more : Bool)
    → ((i : ℕ) → i < most → ¬ SaysText (item_at key i d) text) → (are_more ≡ false → item_at key most d ≡ None)
    → (i : ℕ) → SaysText (item_at key i d) text → IsTrue are_more
among_first d key text most are_more before none i says = elim (cases_Bool are_more) [
  | inl is_so ↦ is_so
  | inr is_not ↦ absurd (elim (cases_lt i most) [
    | inl less ↦ before i less says
    | inr more ↦
        (let gone : item_at key i d ≡ None = item_beyond d key most i (none is_not) (omega (arith, more)) in
        let lost : option_and_then as_str None ≡ Some text = subst (λ o. SaysText o text) gone says in
        none-some text lost)
  ])
]

-- each row that stands in a list is kept, where the first are and no more stand there
pub all_rows_kept : (plan : Plan) (rows : List Row) (d : Data) (most : ℕ) → ((i : ℕ) → i < most → IsRowKeptAt plan rows d i)
    → item_at (codes "rows") most d ≡ None → (i : ℕ) → IsRowKeptAt plan rows d i
all_rows_kept plan rows d most before none i = elim (cases_lt i most) [
  | inl less ↦ before i less
  | inr more ↦ inl (item_beyond d (codes "rows") most i none (omega (arith, more)))
]

-- so it is of names
pub all_names_kept : (plan : Plan) (d : Data) (most : ℕ) → ((i : ℕ) → i < most → IsNameAt plan d i)
    → item_at (codes "reaches") most d ≡ None → (i : ℕ) → IsNameAt plan d i
all_names_kept plan d most before none i = elim (cases_lt i most) [
  | inl less ↦ before i less
  | inr more ↦ inl (item_beyond d (codes "reaches") most i none (omega (arith, more)))
]

-- the node at an index, if it has the name
pub named_at : (plan : Plan) (name : List ℕ) (n : ℕ) (node : Node) (found : Option Eid) → slice_get plan.nodes.items n ≡ Some node
    → IfSome found (λ eid. (string_bytes node.name.text ≡ name) × (eid ≡ node.eid)) → IfSome found (λ eid. NamesHolder plan name eid.value)
named_at plan name n node None at is = tt
named_at plan name n node (Some eid) at (named, same) = (n, node, at, named, subst (λ e. node.eid.value ≡ e.value) (sym same) refl)
