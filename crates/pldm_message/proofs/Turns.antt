-- Going round the 32 instance IDs.
use Rattle.std.{proofs.Common.{◌≡◌, ℕ, zero, suc, ◌+◌, ◌%◌, ◌<◌, inl, inr, true, false, refl, sym, ◌∙◌, subst, arith, get_or, replicate}, proofs.lemmas.Bool.{cases_lt}}
use Rattle.pldm_message.specs.InstanceIds.{IdSet, IsNextFree, AreAllOut, first_place, steps_to}

-- at first no ID is out
pub all_false : (n i : ℕ) → get_or (replicate n false) i false ≡ false
all_false zero i = refl
all_false (suc n) zero = refl
all_false (suc n) (suc i) = all_false n i

-- so many steps from a place there is the ID
pub there_again : (place id : ℕ) → place < 32 → id < 32 → (place + steps_to place id) % 32 ≡ id
there_again place id hp hi = omega arith

-- an ID is so many steps away
away : (place k : ℕ) → place < 32 → k < 32 → steps_to place ((place + k) % 32) ≡ k
away place k hp hk = omega arith

-- an ID within so many steps is out, where all of these are
within : (ids : IdSet) (place step id : ℕ) → place < 32 → id < 32 → steps_to place id < step → ((k : ℕ) → k < step → ids.out ((place + k) % 32) ≡ true) → ids.out id ≡ true
within ids place step id hp hi lt seen = let P : ℕ → Type 0 = λ j. ids.out j ≡ true in subst P (there_again place id hp hi) (seen (steps_to place id) lt)

pub all_out : (ids : IdSet) (place : ℕ) → place < 32 → ((k : ℕ) → k < 32 → ids.out ((place + k) % 32) ≡ true) → AreAllOut ids
all_out ids place hp seen id hi = within ids place 32 id hp hi (omega arith) seen

pub next_after : (ids : IdSet) (place step : ℕ) → place ≡ first_place ids.last → place < 32 → step < 32 → ((k : ℕ) → k < step → ids.out ((place + k) % 32) ≡ true)
    → ids.out ((place + step) % 32) ≡ false → IsNextFree ids ((place + step) % 32)
next_after ids place step e hp hs seen free = record {
  free = (omega arith, free);
  first = λ other f. rw (← e, away place step hp hs)
      (elim (cases_lt (steps_to place other) step) [
        | inl sooner ↦ let out = within ids place step other hp f.0 sooner seen in let no_bool : true ≡ false = sym out ∙ f.1 in absurd (cc)
        | inr later ↦ later
      ]);
}
