-- Behind the end of a list nothing stands.
use Rattle.std.proofs.Common.{◌≡◌, ℕ, zero, suc, ◌≤◌, List, Option, Some, None, option_and_then, refl, arith}
use Rattle.toml.specs.Data.{Data, string, integer, float, boolean, datetime, array, table, Items, no_items, item, at, get_item, get}
use Rattle.board_values.specs.Said.{item_at}

no_item_beyond : (ds : Items) (i j : ℕ) → get_item i ds ≡ None → i ≤ j → get_item j ds ≡ None
no_item_beyond no_items i j none h = refl
no_item_beyond (item d ds) zero j none h = absurd (cc none)
no_item_beyond (item d ds) (suc i) zero none h = absurd (omega (arith, h))
no_item_beyond (item d ds) (suc i) (suc j) none h = no_item_beyond ds i j none (omega (arith, h))

pub at_beyond : (d : Data) (i j : ℕ) → at i d ≡ None → i ≤ j → at j d ≡ None
at_beyond (string s) i j none h = refl
at_beyond (integer z) i j none h = refl
at_beyond (float x) i j none h = refl
at_beyond (boolean b) i j none h = refl
at_beyond (datetime t) i j none h = refl
at_beyond (array ds) i j none h = no_item_beyond ds i j none h
at_beyond (table ms) i j none h = refl

found_beyond : (list : Option Data) (i j : ℕ) → option_and_then (at i) list ≡ None → i ≤ j → option_and_then (at j) list ≡ None
found_beyond None i j none h = refl
found_beyond (Some d) i j none h = at_beyond d i j none h

pub item_beyond : (d : Data) (key : List ℕ) (i j : ℕ) → item_at key i d ≡ None → i ≤ j → item_at key j d ≡ None
item_beyond d key i j none h = found_beyond (get key d) i j none h
