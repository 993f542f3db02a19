-- JSON pointers (RFC 6901) as lists of steps: where they lead, and that a value there has a fault.
use Rattle.std.specs.Prelude.{◌≡◌, ◌⊎◌, ℕ, List, [], ◌∷◌, Option, Some, None, option_and_then}
use Rattle.serde_json.{specs.Data.{Data}, specs.Find.{get, at}}
use Rattle.net_plan.{specs.Finding.{Step, key, index, Located, own_fault}, specs.Grammar.{Grammar, plain, one_of, a_list, an_optional, an_object, a_choice, Fields, no_fields, field, fields_of, Known}}

-- the value that one step leads to
abbrev pub value_after : Step → Data → Option Data
value_after (key k) d = get k d
value_after (index i) d = at i d

-- the value that a pointer leads to
abbrev pub value_at : List Step → Data → Option Data
value_at [] d = Some d
value_at (s ∷ ss) d = option_and_then (value_at ss) (value_after s d)

-- one of the fields is this one
abbrev pub HasField : List ℕ → Grammar → Fields → Type 0
HasField k t no_fields = ⊥
HasField k t (field l g fs) = ((k ≡ l) × (t ≡ g)) ⊎ HasField k t fs

-- what each item of the list is that may stand there; nothing where no list may
abbrev pub item_of : Grammar → Option Grammar
item_of (plain w) = None
item_of (one_of words) = None
item_of (a_list most g) = Some g
item_of (an_optional g) = item_of g
item_of (an_object rule fs) = None
item_of (a_choice k g cs) = None

-- what may stand where one step leads
abbrev pub IsPart : Step → Grammar → Grammar → Type 0
IsPart (key k) g t = HasField k t (fields_of g)
IsPart (index i) g t = item_of g ≡ Some t

abbrev mutual
  -- where a word decides: what one of the words asks of the value
  pub IsAskedByWord : Grammar → Grammar → Type 0
  IsAskedByWord (plain w) t = ⊥
  IsAskedByWord (one_of words) t = ⊥
  IsAskedByWord (a_list most g) t = ⊥
  IsAskedByWord (an_optional g) t = IsAskedByWord g t
  IsAskedByWord (an_object rule fs) t = ⊥
  IsAskedByWord (a_choice k g cs) t = IsAskedByOne cs t

  pub IsAskedByOne : Fields → Grammar → Type 0
  IsAskedByOne no_fields t = ⊥
  IsAskedByOne (field w g cs) t = ((g ≡ t) ⊎ IsAskedByWord g t) ⊎ IsAskedByOne cs t

-- what is asked of the value there
abbrev pub IsAsked : Grammar → Grammar → Type 0
IsAsked g t = (g ≡ t) ⊎ IsAskedByWord g t

-- what may stand where a pointer leads
abbrev pub MayStandAt : List Step → Grammar → Grammar → Type 0
MayStandAt [] g t = IsAsked g t
MayStandAt (s ∷ ss) g t = (v u : Grammar) × IsAsked g v × IsPart s v u × MayStandAt ss u t

-- In a value of this grammar the pointer leads to a value that has the fault in itself, among the names that are known,
-- and what is said of it may stand there.
pub record HasFaultAt (known : Option Known) (g : Grammar) (d : Data) (l : Located) : Type 0 where
  pub stands : Data
  pub leads : value_at l.pointer d ≡ Some stands
  pub expected : MayStandAt l.pointer g l.grammar
  pub faulty : own_fault known l.grammar stands ≡ Some l.fault
