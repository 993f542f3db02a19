-- The parts of a value, as they are passed.
use Rattle.std.proofs.Common.{◌≡◌, ◌-◌, ◌+◌, ◌<◌, ℕ, suc, List, Some, option_and_then, sym, ap, ◌∙◌, arith}
use Rattle.json.{specs.Json.{skip_value}, specs.Token.{Token}}
use Rattle.net_pointers.specs.PartTokens.{past_items, past_key, past_members}

pub item_passed : (n k : ℕ) (ts us : List Token) → k < n → skip_value 127 ts ≡ Some us → past_items (n - (k + 1)) us ≡ past_items (n - k) ts
item_passed n k ts us below e =
    let more : n - k ≡ suc (n - (k + 1)) = omega arith in
    sym (ap (λ m. past_items m ts) more ∙ ap (option_and_then (past_items (n - (k + 1)))) e)

pub member_passed : (n k : ℕ) (ts vs us : List Token) → k < n → past_key ts ≡ Some vs → skip_value 127 vs ≡ Some us → past_members (n - (k + 1)) us ≡ past_members (n - k) ts
member_passed n k ts vs us below named e =
    let more : n - k ≡ suc (n - (k + 1)) = omega arith in
    sym (ap (λ m. past_members m ts) more ∙ ap (λ o. option_and_then (past_members (n - (k + 1))) (option_and_then (skip_value 127) o)) named ∙ ap (option_and_then (past_members (n - (k + 1)))) e)
