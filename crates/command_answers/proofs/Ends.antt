-- What words name as the ends of a way.
use Rattle.std.{proofs.Common.{rules, ◌≡◌, ◌≢◌, ◌<◌, ◌≤◌, ℕ, true, List, [], ◌∷◌, length, Option, Some, None, option_map, Err, inl, inr, sym, arith, string_bytes}, specs.Prelude.{MatchOption}, specs.Char.{is_ascii_digit}, specs.List.{list_all}, specs.Str.Parse.{digits_value, ParsesUnsigned}, proofs.lemmas.Option.{none-some}, proofs.lemmas.Str.Parse.{IsNumeralModel, numerals_by_value, parse_digits}}
use Rattle.mctp_transport.specs.declared.address.Eid.{Eid}
use Rattle.net_tables.specs.Routing.{eid_number, node_at, eid_of}
use Rattle.net_rules.specs.Names.{name_of}
use Rattle.plan_values.{specs.declared.nodes.Node.{Node}, specs.declared.plan.Plan.{Plan}}
use Rattle.command_answers.specs.Naming.{IsFirstNamed, IsEidWord, IsDestination, NameTheEnds}

pub no_sender : (plan : Plan) (from to : List ℕ) → ((n : ℕ) → name_of plan n ≢ Some from) → ¬ NameTheEnds from to plan
no_sender plan from to none ((n, first), named) = none n first.named

pub no_destination : (plan : Plan) (from to : List ℕ) → ((e : ℕ) → ¬ IsDestination plan to e) → ¬ NameTheEnds from to plan
no_destination plan from to none (sender, (e, is)) = none e is

-- a node with a name has an endpoint ID
unnamed : (found : Option Node) (word : List ℕ) → option_map (λ (node : Node). node.eid.value) found ≡ None
    → option_map (λ (node : Node). string_bytes node.name.text) found ≡ Some word → ⊥
unnamed None word none named = none-some word named
unnamed (Some node) word none named = none-some node.eid.value (sym none)

pub by_name : (plan : Plan) (word : List ℕ) (place : ℕ) (result : Option Eid) → IsFirstNamed plan word place
    → eid_number result ≡ eid_of plan place
    → MatchOption result ((e : ℕ) → ¬ IsDestination plan word e) (λ (eid : Eid). IsDestination plan word eid.value)
by_name plan word place None first held = absurd (unnamed (node_at plan place) word (sym held) first.named)
by_name plan word place (Some eid) first held = inl (place, first, sym held)

pub by_number : (plan : Plan) (word : List ℕ) (result : Option Eid) → ((n : ℕ) → name_of plan n ≢ Some word)
    → MatchOption result ((e : ℕ) → ¬ IsEidWord word e) (λ (eid : Eid). IsEidWord word eid.value)
    → MatchOption result ((e : ℕ) → ¬ IsDestination plan word e) (λ (eid : Eid). IsDestination plan word eid.value)
by_number plan word None none unspelled = λ e is. elim is [
  | inl (n, first, holds) ↦ none n first.named
  | inr (other, number) ↦ unspelled e number
]
by_number plan word (Some eid) none is = inr (λ found. none found.0 found.1.named, is)

-- ---- numbers

own : IsNumeralModel (λ ds. list_all is_ascii_digit ds ≡ true) (digits_value 10)
own = numerals_by_value _ (search rules)

-- digits whose number isn't 0 are some
some_digits : (word : List ℕ) → 8 ≤ digits_value 10 word → 0 < length word
some_digits [] least = absurd (omega (arith, least))
some_digits (c ∷ cs) least = omega arith

-- digits that are no number of one byte are no endpoint ID
pub no_number : {E : Type 0} (word : List ℕ) (error : E) → ParsesUnsigned 8 10 word (Err error) → list_all is_ascii_digit word ≡ true
    → (e : ℕ) → ¬ IsEidWord word e
no_number word error parsed digits e (all, is, assignable) =
    parse_digits own 8 word (Err error) parsed digits (
      some_digits word (omega (arith, is, assignable.0)),
      omega (arith, is, assignable.1),
    )
