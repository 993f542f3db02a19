-- The numbers that a key is made of.
use Rattle.std.specs.Prelude.{ℕ, List, [], ◌∷◌, Option, Some, None}
use Rattle.net_rules.specs.Faults.{order_of_number}
use Rattle.net_explained.specs.declared.order.Key.{Key}

abbrev pub numbers_of : Key → List ℕ
numbers_of key =
    key.rule ∷ key.kind ∷ key.first ∷ order_of_number key.second ∷ order_of_number key.third ∷ []

-- none where there is no key
abbrev pub numbers_given : Option Key → List ℕ
numbers_given (Some key) = numbers_of key
numbers_given None = []
