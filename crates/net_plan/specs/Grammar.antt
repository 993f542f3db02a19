-- What may stand where in a text.
use Rattle.std.{specs.Prelude.{ℕ, List, [], ◌∷◌, map, Option, option_map}, specs.Borrow.{Bor}}
use Rattle.net_plan.{specs.declared.shape.KnownNames.{KnownNames}, specs.declared.shape.Rule.{Rule}, specs.declared.shape.Word.{Word}, specs.declared.shape.Shape.{Shape, fold-Shape}, specs.declared.shape.Shape.TheOpen.{Shape-F}, specs.declared.shape.Field.{Field, Field-F, fold-Field}}

mutual
  -- what may stand at one place of a text
  pub data Grammar : Type 0 where
    plain : Word → Grammar
    -- one of these words
    one_of : List (List ℕ) → Grammar
    -- a list of at most so many items; of any length where there is no bound
    a_list : Option ℕ → Grammar → Grammar
    -- `null`, or that
    an_optional : Grammar → Grammar
    -- an object with exactly these keys, which keeps a rule
    an_object : Rule → Fields → Grammar
    -- an object that has this key, with that at it; where the text there is one of these words, what the word asks
    a_choice : List ℕ → Grammar → Fields → Grammar

  -- the keys of an object in the order of tests, and what may stand at them; of a choice the words, and what they ask
  pub data Fields : Type 0 where
    no_fields : Fields
    field : List ℕ → Grammar → Fields → Fields

abbrev pub keys_of : Fields → List (List ℕ)
keys_of no_fields = []
keys_of (field key g fs) = key ∷ keys_of fs

-- the keys of the object that may stand there; of a choice the key that decides, and none where no object may
abbrev pub fields_of : Grammar → Fields
fields_of (plain w) = no_fields
fields_of (one_of words) = no_fields
fields_of (a_list most g) = no_fields
fields_of (an_optional g) = fields_of g
fields_of (an_object rule fs) = fs
fields_of (a_choice key g cs) = field key g no_fields

-- the names of buses, and of nodes
pub record Known : Type 0 where
  pub buses : List (List ℕ)
  pub nodes : List (List ℕ)

-- ---- as the program holds them

abbrev pub fields_from : List (List ℕ × Grammar) → Fields
fields_from [] = no_fields
fields_from (f ∷ fs) = field f.0 f.1 (fields_from fs)

abbrev pub step : Shape-F Grammar (List ℕ × Grammar) → Grammar
step (Shape-F.Plain w) = plain w
step (Shape-F.OneOf words) = one_of (map (λ word. word.now) words.now)
step (Shape-F.List most item) = a_list most item.now
step (Shape-F.Optional other) = an_optional other.now
step (Shape-F.Object rule fields) = an_object rule (fields_from fields.now)
step (Shape-F.Choice at choices) = a_choice at.now.0 at.now.1 (fields_from choices.now)

abbrev pub field_step : Field-F Grammar (List ℕ × Grammar) → List ℕ × Grammar
field_step f = (f.key.now, f.shape)

abbrev pub grammar : Shape → Grammar
grammar = fold-Shape Grammar (List ℕ × Grammar) step field_step

abbrev pub field_view : Field → List ℕ × Grammar
field_view = fold-Field Grammar (List ℕ × Grammar) step field_step

abbrev pub fields_view : List Field → Fields
fields_view fs = fields_from (map field_view fs)

abbrev pub known_view : KnownNames → Known
known_view k = record { buses = map (λ name. name.now) k.buses.items; nodes = map (λ name. name.now) k.nodes.items }

abbrev pub known_seen : Option (Bor KnownNames) → Option Known
known_seen o = option_map (λ k. known_view k.now) o
