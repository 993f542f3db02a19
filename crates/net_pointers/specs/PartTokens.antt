-- Where the parts of a value stand in its tokens.
use Rattle.std.specs.Prelude.{ℕ, zero, suc, List, [], ◌∷◌, Option, Some, None, option_and_then}
use Rattle.json.{specs.Json.{skip_value}, specs.Token.{Token}}

-- the tokens after so many items
abbrev pub past_items : ℕ → List Token → Option (List Token)
past_items zero ts = Some ts
past_items (suc n) ts = option_and_then (past_items n) (skip_value 127 ts)

-- the tokens after a key
abbrev pub past_key : List Token → Option (List Token)
past_key (Token.key k ∷ ts) = Some ts
past_key _ = None

-- the tokens after so many members
abbrev pub past_members : ℕ → List Token → Option (List Token)
past_members zero ts = Some ts
past_members (suc n) ts = option_and_then (past_members n) (option_and_then (skip_value 127) (past_key ts))

-- the tokens of an object from the key of a member on, by the member's index from 0
abbrev pub from_key : ℕ → List Token → Option (List Token)
from_key i (Token.begin_object ∷ ts) = past_members i ts
from_key _ _ = None

-- the tokens from the item of a list on, or from the value of a member of an object
abbrev pub from_part : ℕ → List Token → Option (List Token)
from_part i (Token.begin_array ∷ ts) = past_items i ts
from_part i (Token.begin_object ∷ ts) = option_and_then past_key (past_members i ts)
from_part _ _ = None

-- the tokens from the part on to which a path of such indices leads
abbrev pub from_path : List ℕ → List Token → Option (List Token)
from_path [] ts = Some ts
from_path (i ∷ is) ts = option_and_then (from_path is) (from_part i ts)
