-- One instance ID is given, and what is out after it was given or taken back is determined.
use Rattle.std.proofs.Common.{◌≡◌, ℕ, ◌+◌, ◌%◌, ◌<◌, ◌==◌, ◌||◌, Option, Some, None, sym, ap, ◌∙◌, arith}
use Rattle.pldm_message.{specs.InstanceIds.{IdSet, IsNextFree, Gives, TakesBack, first_place, steps_to}, proofs.Turns.{there_again}}

same_ids : (a b : IdSet) → ((i : ℕ) → a.out i ≡ b.out i) → a.last ≡ b.last → a ≡ b
same_ids a b out last = λ j. record { out = λ i. out i j; last = last j }

place_small : (o : Option ℕ) → first_place o < 32
place_small None = omega arith
place_small (Some last) = omega arith

next_one : (ids : IdSet) (id other : ℕ) → IsNextFree ids id → IsNextFree ids other → id ≡ other
next_one ids id other x y =
    let place = first_place ids.last in
    let less = x.first other y.free in
    let more = y.first id x.free in
    let same : steps_to place id ≡ steps_to place other = omega (arith, less, more) in
    sym (there_again place id (place_small ids.last) x.free.0) ∙ ap (λ s. (place + s) % 32) same ∙ there_again place other (place_small ids.last) y.free.0

pub gives_one : (ids : IdSet) (id other : ℕ) (a b : IdSet) → Gives ids id a → Gives ids other b → (id ≡ other) × (a ≡ b)
gives_one ids id other a b x y =
    let same = next_one ids id other x.next y.next in
    (same, same_ids a b (λ i. x.out i ∙ ap (λ k. (i == k) || ids.out i) same ∙ sym (y.out i)) (x.last ∙ ap Some same ∙ sym y.last))

pub takes_back_one : (ids : IdSet) (id : ℕ) (a b : IdSet) → TakesBack ids id a → TakesBack ids id b → a ≡ b
takes_back_one ids id a b x y = same_ids a b (λ i. x.out i ∙ sym (y.out i)) (x.last ∙ sym y.last)
