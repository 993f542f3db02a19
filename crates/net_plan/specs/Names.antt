-- Names in lists of JSON values, and their indices.
use Rattle.std.{specs.Prelude.{ℕ, suc, codes, ◌&&◌, List, [], ◌∷◌, ◌++◌, Bool, true, not, if◌then◌else◌, Option, Some, None, option_map}, specs.Str.{bytes_eq}}
use Rattle.serde_json.{specs.Data.{Data, string, array, Items, no_items, item}, specs.Find.{get}}
use Rattle.net_plan.specs.Json.{is_among}

-- the index of the first such name, or the length of the list where there is none
abbrev pub index_among : List (List ℕ) → List ℕ → ℕ
index_among [] s = 0
index_among (n ∷ ns) s = if bytes_eq s n then 0 else suc (index_among ns s)

-- the index of the first such name
abbrev pub index_of : List (List ℕ) → List ℕ → Option ℕ
index_of [] s = None
index_of (n ∷ ns) s = if bytes_eq s n then Some 0 else option_map suc (index_of ns s)

-- each name is new after those that were seen
abbrev pub are_new : List (List ℕ) → List (List ℕ) → Bool
are_new seen [] = true
are_new seen (n ∷ ns) = not (is_among seen n) && are_new (seen ++ n ∷ []) ns

-- no name stands twice
abbrev pub names_differ : List (List ℕ) → Bool
names_differ ns = are_new [] ns

-- a text; none where the value is no text
abbrev pub text_of : Data → List ℕ
text_of (string s) = s
text_of _ = []

abbrev pub text_found : Option Data → List ℕ
text_found (Some d) = text_of d
text_found None = []

-- the text at the key of an object
abbrev pub text_at : List ℕ → Data → List ℕ
text_at key d = text_found (get key d)

-- the texts at the key of each object of a list
abbrev pub each_text_at : List ℕ → Items → List (List ℕ)
each_text_at key no_items = []
each_text_at key (item d ds) = text_at key d ∷ each_text_at key ds

abbrev pub texts_at : List ℕ → Data → List (List ℕ)
texts_at key (array ds) = each_text_at key ds
texts_at key _ = []

-- the names of the objects of a list, where there is one
abbrev pub names_in : Option Data → List (List ℕ)
names_in (Some d) = texts_at (codes "name") d
names_in None = []

-- the names in the list at a key
abbrev pub names_at : List ℕ → Data → List (List ℕ)
names_at key d = names_in (get key d)
