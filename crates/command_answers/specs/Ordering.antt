-- Records in the order of a certificate's places.
use Rattle.std.specs.Prelude.{◌≡◌, ◌==◌, ◌<◌, ℕ, List, Option, None, length, position, slice_index_or}

-- at each place that the list has stands the index of the first record that is given it
abbrev pub AreFirstAt : List ℕ → List (Option ℕ) → Type 0
AreFirstAt places by_place =
    (place : ℕ) → place < length by_place
    → slice_index_or by_place place None ≡ position (λ given. given == place) places
