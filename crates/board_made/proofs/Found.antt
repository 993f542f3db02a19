-- What is found among numbers, by their values.
use Rattle.std.{proofs.Common.{◌≡◌, ◌∙◌, Bool, true, false, List, [], ◌∷◌, Option, Some, None, map, option_map, Bor, refl, ap}, specs.List.{find}, specs.Prelude.{if◌then◌else◌}}
use Rattle.board_made.{specs.declared.numbers.Number.{Number}, specs.Numbers.{NumberValue, number_value}}

found_in : (test : NumberValue → Bool) (numbers : List Number) → option_map number_value (find (λ m. test (number_value m)) numbers) ≡ find test (map number_value numbers)
found_in test [] = refl
found_in test (n ∷ numbers) =
    let F : Bool → Type 0 = λ b. option_map number_value (if b then Some n else find (λ m. test (number_value m)) numbers) ≡ (if b then Some (number_value n) else find test (map number_value numbers)) in
    elim (test (number_value n)) as (λ b. F b) [
      | true ↦ refl
      | false ↦ found_in test numbers
    ]

of_value : (r : Option (Bor Number)) → option_map (λ n. number_value n.now) r ≡ option_map number_value (option_map (λ n. n.now) r)
of_value None = refl
of_value (Some n) = refl

pub value_found : (test : NumberValue → Bool) (numbers : List Number) (r : Option (Bor Number)) → option_map (λ n. n.now) r ≡ find (λ m. test (number_value m)) numbers
    → option_map (λ n. number_value n.now) r ≡ find test (map number_value numbers)
value_found test numbers r is = of_value r ∙ (ap (option_map number_value) is ∙ found_in test numbers)
