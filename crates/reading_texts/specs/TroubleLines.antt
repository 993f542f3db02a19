-- Where the lines say that a text is wrong, and the nearest name. Their other words are free.
use Rattle.std.{specs.Prelude.{◌≡◌, ◌+◌, ⊤, ℕ, zero, suc, codes, get_or, List, [], ◌∷◌, ◌++◌, Option, Some, None, MatchOption}, specs.Fmt.{decimal}}
use Rattle.json.{specs.Json.{Json, object, Members, no_members, member}, specs.Strict.{keys}}
use Rattle.serde_json.specs.Data.{Data}
use Rattle.net_plan.{specs.Finding.{Located, key, index, Step, names_of, located}, specs.Grammar.{Grammar, plain, Known}, specs.Names.{text_found}, specs.Trees.{data_of}, specs.declared.shape.Named.{Named}, specs.declared.shape.Named.TheVariants.{Nodes}}
use Rattle.net_pointers.{specs.Asks.{Sort, asks_of, list_key, name_key}, specs.Doubles.{part_after}, specs.Nearest.{IsNearest}, specs.Offsets.{LeadsTo, LeadsToKey}, specs.Pointers.{value_at}, specs.TextTroubles.{IsJsonOf, IsToldOfText}, specs.declared.doubled.DoubledKey.{DoubledKey}, specs.declared.doubled.TwoIndices.{TwoIndices}, specs.declared.order.Trouble.{Trouble}, specs.declared.order.Trouble.TheVariants.{Value, DoubledName, UnknownName, Overlap as OverlapOf, DoubledKey as DoubledKeyOf}, specs.declared.ranges.Overlap.{Overlap}, specs.declared.syntax.JsonFault.{JsonFault}, specs.declared.syntax.JsonFault.TheVariants.{NotUtf8, Unreadable}, specs.declared.texts.TextTrouble.{TextTrouble}, specs.declared.texts.TextTrouble.TheVariants.{TooLong, NotJson, Wrong}}
use Rattle.reading_texts.specs.ReadingLines.{position_text, pointer_text, place_text, Begins}
use Rattle.net_plan.specs.declared.shape.Word.TheVariants as word

-- ---- no JSON

-- the lines begin with the line and the column of the fault's offset
abbrev pub AreJsonLines : List ℕ → JsonFault → List ℕ → Type 0
AreJsonLines text (NotUtf8 offset) lines = Begins (position_text text (Some offset)) lines
AreJsonLines text (Unreadable offset wanted) lines = Begins (position_text text (Some offset)) lines

-- ---- a value that is wrong in itself

-- the line begins with the place of the value to which a pointer leads
abbrev pub IsValueTold : List ℕ → List Step → List ℕ → Type 0
IsValueTold text pointer line =
    (offset : ℕ) × LeadsTo text pointer offset × Begins (place_text text offset pointer) line

-- ---- a name that nothing has

-- whose name may stand there
abbrev pub named_there : Grammar → Named
named_there (plain (word.Named names)) = names
named_there _ = Nodes

-- the name that is nearest, where one is close
abbrev pub nearest_line : List (List ℕ) → Option ℕ → List ℕ
nearest_line names (Some i) = codes "The nearest name is " ++ (get_or names i [] ++ codes ".\n")
nearest_line names None = codes "No name is close to it.\n"

-- The lines tell of a name in the data that is none of those that are known: first where it stands, then the nearest of
-- them, where one is close.
pub record IsUnknownNameTold (text : List ℕ) (d : Data) (known : Known) (l : Located) (lines : List ℕ) : Type 0 where
  pub line : List ℕ
  pub nearest : Option ℕ
  pub more : List ℕ
  pub at : IsValueTold text l.pointer line
  pub is_nearest : IsNearest (names_of (named_there l.grammar) known) (text_found (value_at l.pointer d)) nearest
  pub written : lines ≡ line ++ (nearest_line (names_of (named_there l.grammar) known) nearest ++ more)

-- ---- what stands twice

-- the offset is that to which the pointer leads; there is none where it leads to no value
abbrev pub IsOffsetOf : List ℕ → Data → List Step → Option ℕ → Type 0
IsOffsetOf text d pointer o = MatchOption o (value_at pointer d ≡ None) (LeadsTo text pointer)

-- two parts, each behind its line and column, where they are told
abbrev pub two_lines : List ℕ → (first second : Option ℕ) → (one other : List ℕ) → List ℕ
two_lines text first second one other =
    position_text text first ++ (one ++ (position_text text second ++ other))

-- The lines tell where two things stand: behind the line and column of each its pointer.
abbrev pub AreTwoTold : List ℕ → (first second : Option ℕ) → (one other lines : List ℕ) → Type 0
AreTwoTold text first second one other lines = (here there : List ℕ) × Begins one here × Begins other there
    × (lines ≡ two_lines text first second here there)

-- to a value at a key of an item of the list at a key
abbrev pub entry_pointer : List ℕ → ℕ → List ℕ → List Step
entry_pointer list i k = key list ∷ (index i ∷ (key k ∷ []))

-- the lines tell where a name stands at two items of a list
abbrev pub IsDoubledNameTold : List ℕ → Data → List ℕ → List ℕ → TwoIndices → List ℕ → Type 0
IsDoubledNameTold text d list k indices lines =
    let one = entry_pointer list indices.first k in
    let other = entry_pointer list indices.second k in
    (first second : Option ℕ) × IsOffsetOf text d one first × IsOffsetOf text d other second
    × AreTwoTold text first second (pointer_text one) (pointer_text other) lines

-- the key of the member at an index
abbrev pub key_at : ℕ → Members → List ℕ
key_at i no_members = []
key_at zero (member k j ms) = k
key_at (suc i) (member k j ms) = key_at i ms

-- the step to a part of a tree by its index: the key of a member, or the index of an item
abbrev pub part_step : ℕ → Json → List ℕ
part_step i (object ms) = codes "/" ++ key_at i ms
part_step i _ = codes "/" ++ decimal i

-- the steps of a path of such indices, as those of a JSON pointer
abbrev pub path_text : List ℕ → Option Json → List ℕ
path_text [] j = []
path_text (i ∷ is) None = []
path_text (i ∷ is) (Some j) = part_step i j ++ path_text is (part_after i j)

-- the object to which a path leads; the whole text is said in words
abbrev pub object_text : List ℕ → Json → List ℕ
object_text [] j = codes "the whole text"
object_text (i ∷ is) j = path_text (i ∷ is) (Some j)

abbrev pub keys_in : Option Json → List (List ℕ)
keys_in (Some (object ms)) = keys ms
keys_in _ = []

-- the lines tell where both keys stand of an object that has a key twice
abbrev pub IsDoubledKeyTold : List ℕ → Json → DoubledKey → List ℕ → Type 0
IsDoubledKeyTold text j k lines = (first second : ℕ)
    × LeadsToKey text k.path.items k.members.first first × LeadsToKey text k.path.items k.members.second second
    × AreTwoTold text (Some first) (Some second) (object_text k.path.items j) (object_text k.path.items j) lines

-- to a range of ranks
abbrev pub range_pointer : ℕ → ℕ → List Step
range_pointer entry range =
    key (codes "ranks") ∷ (index entry ∷ (key (codes "ranges") ∷ (index range ∷ [])))

-- the lines tell where two ranges of a node stand, one behind the other
abbrev pub IsOverlapTold : List ℕ → Overlap → List ℕ → Type 0
IsOverlapTold text o lines =
    let one = range_pointer o.entry o.range in
    let other = range_pointer o.entry (o.range + 1) in
    (first second : ℕ) × LeadsTo text one first × LeadsTo text other second
    × AreTwoTold text (Some first) (Some second) (pointer_text one) (pointer_text other) lines

-- ---- a text

-- the lines tell where the value that a tree is has this fault
abbrev pub AreLines : Sort → List ℕ → Json → Trouble → List ℕ → Type 0
AreLines s text j (Value found) lines = IsValueTold text (located found).pointer lines
AreLines s text j (DoubledName list indices) lines =
    IsDoubledNameTold text (data_of j) (list_key list) (name_key list) indices lines
AreLines s text j (OverlapOf overlap) lines = IsOverlapTold text overlap lines
AreLines s text j (DoubledKeyOf doubled) lines = IsDoubledKeyTold text j doubled lines
AreLines s text j (UnknownName found) lines =
    IsUnknownNameTold text (data_of j) (asks_of s (data_of j)).known (located found) lines

-- the lines tell where a text has this fault; of one that is too long nothing is said of the words
abbrev pub AreTroubleLines : Sort → List ℕ → TextTrouble → List ℕ → Type 0
AreTroubleLines s text (TooLong count) lines = ⊤
AreTroubleLines s text (NotJson fault) lines = AreJsonLines text fault lines
AreTroubleLines s text (Wrong trouble) lines = IsJsonOf text (λ j. AreLines s text j trouble lines)

-- the lines tell what is wrong with a text of a sort, and where
abbrev pub IsTextTold : Sort → List ℕ → List ℕ → Type 0
IsTextTold s text lines = (trouble : TextTrouble) × IsToldOfText s text trouble × AreTroubleLines s text trouble lines
