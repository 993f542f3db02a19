-- The runs of a folder, by the names of their files.
use Rattle.std.specs.Prelude.{◌≡◌, ◌≢◌, ◌⊎◌, ℕ, List, [], ◌∷◌, ◌++◌, codes, All, AllPairs, Contains}

-- a file of this name is one of the run: its events, or its lines
abbrev pub IsFileOf : (name file : List ℕ) → Type 0
IsFileOf name file = (file ≡ name ++ codes ".json") ⊎ (file ≡ name ++ codes ".txt")

-- one of the files is
abbrev pub HasFileOf : (files : List (List ℕ)) (name : List ℕ) → Type 0
HasFileOf files name = (file : List ℕ) × Contains files file × IsFileOf name file

-- Each name is that of a run of which there is a file, and each such run is there.
pub record AreStems (files names : List (List ℕ)) : Type 0 where
  pub sound : All (HasFileOf files) names
  pub complete : (name : List ℕ) → HasFileOf files name → Contains names name

-- the new list is the old one, with the name of the run at its end of which the file is, if it is of one
abbrev pub AddsStem : (file : List ℕ) (old new : List (List ℕ)) → Type 0
AddsStem file old new = ((name : List ℕ) × IsFileOf name file × (new ≡ old ++ name ∷ []))
    ⊎ (((name : List ℕ) → ¬ IsFileOf name file) × (new ≡ old))

-- Each of the names is there, once, and no other is.
pub record AreNames (names given : List (List ℕ)) : Type 0 where
  pub sound : All (Contains names) given
  pub complete : All (Contains given) names
  pub once : AllPairs (λ a b. a ≢ b) given

-- the new list is the old one, with the name at its end where it wasn't there
abbrev pub AddsOnce : (name : List ℕ) (old new : List (List ℕ)) → Type 0
AddsOnce name old new = (Contains old name × (new ≡ old)) ⊎ ((¬ Contains old name) × (new ≡ old ++ name ∷ []))

-- The runs are those of which there are files, each once.
pub record AreRuns (files runs : List (List ℕ)) : Type 0 where
  pub stems : AreStems files runs
  pub once : AllPairs (λ a b. a ≢ b) runs
