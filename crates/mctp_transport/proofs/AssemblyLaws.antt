-- The slots of an assembler.
use Rattle.std.{proofs.Common.{◌≡◌, ℕ, zero, suc, ◌<◌, ◌+◌, Bool, true, false, List, [], ◌∷◌, length, get_or, slice_set, slice_get, Option, Some, None, position, not, cond, refl, sym, ap, ◌∙◌, arith, subst, take, drop, ◌≤◌, ◌*◌, ◌-◌, IfSome}, specs.List.{prefix_len}, proofs.lemmas.Option.{slice_get_read, same_Some, none-some}, proofs.lemmas.Nat.{row_fits}, proofs.lemmas.List.{length-take-le, length-drop, take-take}, specs.Prelude.{slice_range, ◌↔◌, is_some, count_by, fold, ◌++◌, All}, proofs.lemmas.List.Elements.{All-head, All-tail}}
use Rattle.mctp_transport.{specs.declared.assembler.open_message.OpenMessage.{OpenMessage}, specs.Parts.{part, rows}, proofs.Parts.{rows_length, rows_get}, specs.Packets.{key_value}, specs.Tables.{Partial, Table, TableStandsFor, is_at}, specs.TableChanges.{moved, started, carried, expired, next_partial, next_answer, answers_on, goes_on, extended, fault_of, fault_at}, specs.PacketValues.{PacketValue, KeyValue, key_of}, specs.Histories.{History, Arrived, TimeUp, after, IsOpen, IsKeyCount}, specs.Hearing.{Answer, Whole, Held, Dropped, HearsOnly}, specs.declared.drop_cause.DropCause.{DropCause}, specs.declared.assembler.Assembler.{Assembler}, specs.Assembly.{partial_of, Feeds, HoldsHistory, table_of, assembler_slots, assembler_limit, assembler_memory}, specs.Steps.{Takes}, proofs.Clearing.{found_key}, proofs.Standing.{moved_is, pick_true, found_open, expired_stands, nothing_stands, open_count}, proofs.Slots.{position-some}}

-- the index among the slots is the index in the table
prefix_rows : (test : Option Partial → Bool) (open_test : Option OpenMessage → Bool) (size : ℕ) (block : List ℕ) (i : ℕ) (os : List (Option OpenMessage))
    → ((o : Option OpenMessage) (bytes : List ℕ) → test (partial_of o bytes) ≡ open_test o) → prefix_len test (rows partial_of size block i os) ≡ prefix_len open_test os
prefix_rows test open_test size block i [] same = refl
prefix_rows test open_test size block i (o ∷ os) same =
    ap (λ b. cond b (1 + prefix_len test (rows partial_of size block (suc i) os)) 0) (same o (part size block i))
    ∙ ap (λ n. cond (open_test o) (1 + n) 0) (prefix_rows test open_test size block (suc i) os same)

pub position_rows : (test : Option Partial → Bool) (open_test : Option OpenMessage → Bool) (size : ℕ) (block : List ℕ) (os : List (Option OpenMessage))
    → ((o : Option OpenMessage) (bytes : List ℕ) → test (partial_of o bytes) ≡ open_test o) → position test (rows partial_of size block 0 os) ≡ position open_test os
position_rows test open_test size block os same =
    rw (prefix_rows (λ x. not (test x)) (λ o. not (open_test o)) size block 0 os (λ o bytes. ap not (same o bytes)), rows_length partial_of size block 0 os) refl

count_rows_from : (test : Option Partial → Bool) (open_test : Option OpenMessage → Bool) (size : ℕ) (block : List ℕ) (i n : ℕ) (os : List (Option OpenMessage))
    → ((o : Option OpenMessage) (bytes : List ℕ) → test (partial_of o bytes) ≡ open_test o)
    → fold (λ a x. a + cond (test x) 1 0) n (rows partial_of size block i os) ≡ fold (λ a o. a + cond (open_test o) 1 0) n os
count_rows_from test open_test size block i n [] same = refl
count_rows_from test open_test size block i n (o ∷ os) same =
    ap (λ b. fold (λ a x. a + cond (test x) 1 0) (n + cond b 1 0) (rows partial_of size block (suc i) os)) (same o (part size block i))
    ∙ count_rows_from test open_test size block (suc i) (n + cond (open_test o) 1 0) os same

pub count_rows : (test : Option Partial → Bool) (open_test : Option OpenMessage → Bool) (size : ℕ) (block : List ℕ) (i : ℕ) (os : List (Option OpenMessage))
    → ((o : Option OpenMessage) (bytes : List ℕ) → test (partial_of o bytes) ≡ open_test o) → count_by test (rows partial_of size block i os) ≡ count_by open_test os
count_rows test open_test size block i os same = count_rows_from test open_test size block i 0 os same

pub some_same : (o : Option OpenMessage) (bytes : List ℕ) → is_some (partial_of o bytes) ≡ is_some o
some_same None bytes = refl
some_same (Some o) bytes = refl

-- what the table does, the assembler does
pub takes_feeds : (old : Assembler) (p : PacketValue) (answer : Answer) (new : Assembler) → Takes old p answer new → Feeds old p answer new
takes_feeds old p answer new t = record {
  slots = t.slots;
  limit = t.limit;
  memory = t.memory;
  hears = λ history s.
      let m = moved_is (assembler_slots old) (assembler_limit old) (table_of old) history p s.table (rows_length partial_of old.limit old.block.items 0 old.slots.items) in
      subst (HearsOnly (assembler_slots old) (assembler_limit old) history p) (sym t.answer_is) m.0;
  stands = λ history s.
      let m = moved_is (assembler_slots old) (assembler_limit old) (table_of old) history p s.table (rows_length partial_of old.limit old.block.items 0 old.slots.items) in
      record {
        table =
            subst (λ n. TableStandsFor n (assembler_limit new) (table_of new) (after history (Arrived p))) (sym t.slots)
            (subst (λ n. TableStandsFor (assembler_slots old) n (table_of new) (after history (Arrived p))) (sym t.limit)
            (subst (λ (u : Table). TableStandsFor (assembler_slots old) (assembler_limit old) u (after history (Arrived p))) (sym t.table) m.1));
      };
}

-- after the start of a packet that starts a message
pub start_takes : (old mid new : Assembler) (p : PacketValue) (key : KeyValue) (answer : Answer) → p.som ≡ true → key ≡ key_of p
    → table_of mid ≡ expired (table_of old) key → assembler_slots mid ≡ assembler_slots old → assembler_limit mid ≡ assembler_limit old
    → table_of new ≡ (started (assembler_limit mid) (table_of mid) p).0 → answer ≡ (started (assembler_limit mid) (table_of mid) p).1
    → assembler_slots new ≡ assembler_slots mid → assembler_limit new ≡ assembler_limit mid → assembler_memory new ≡ assembler_memory old → Takes old p answer new
start_takes old mid new p key answer som is table slots limit after_table after_answer after_slots after_limit memory =
    let same : started (assembler_limit mid) (table_of mid) p ≡ moved (assembler_limit old) (table_of old) p =
    ap (λ n. started n (table_of mid) p) limit
    ∙ ap (λ (t : Table). started (assembler_limit old) t p) (table ∙ ap (λ k. expired (table_of old) k) is)
    ∙ pick_true (λ x. started (assembler_limit old) (expired (table_of old) (key_of p)) p ≡ x) p.som _ _ som refl in
    record {
      slots = after_slots ∙ slots;
      limit = after_limit ∙ limit;
      memory = memory;
      table = after_table ∙ ap (λ (x : Table × Answer). x.0) same;
      answer_is = after_answer ∙ ap (λ (x : Table × Answer). x.1) same;
    }

-- where the key is found, its message goes on
pub record GoesOnThere (limit : ℕ) (t : Table) (p : PacketValue) (index : ℕ) : Type 0 where
  pub held : Partial
  pub there : slice_get t index ≡ Some (Some held)
  pub table : (carried limit t p (position (is_at (key_of p)) t)).0 ≡ slice_set t index (next_partial limit held p)
  pub answer : (carried limit t p (position (is_at (key_of p)) t)).1 ≡ next_answer limit held p

pub carried_there : (limit : ℕ) (t : Table) (p : PacketValue) (index : ℕ) → position (is_at (key_of p)) t ≡ Some index → GoesOnThere limit t p index
carried_there limit t p index e =
    let at = position-some (is_at (key_of p)) t index e in
    let mine = found_key (key_of p) at.0 at.2 in
    let here : slice_get t index ≡ Some (Some mine.0) = at.1 ∙ ap Some mine.1 in
    record { held = mine.0; there = here; table = rw (e, here) refl; answer = rw (e, here) refl }

-- what the table holds at a slot
pub at_slot : (a : Assembler) (i : ℕ) (o : Option OpenMessage) (q : Partial) → i < length a.slots.items → o ≡ get_or a.slots.items i o → slice_get (table_of a) i ≡ Some (Some q)
    → partial_of o (part a.limit a.block.items i) ≡ Some q
at_slot a i o q within is held =
    let here : slice_get a.slots.items i ≡ Some o = slice_get_read a.slots.items (length a.slots.items) i o refl within is in
    same_Some (partial_of o (part a.limit a.block.items i)) (Some q) (sym (rows_get partial_of a.limit a.block.items a.slots.items i o here) ∙ held)

-- whether the key is found, and whether it is open
pub found_is_open : (a : Assembler) (key : KeyValue) (history : History) (found : Bool) → found ≡ is_some (position (is_at key) (table_of a)) → HoldsHistory a history
    → (found ≡ true) ↔ IsOpen (assembler_slots a) (assembler_limit a) history key
found_is_open a key history found e s =
    subst (λ b. (b ≡ true) ↔ IsOpen (assembler_slots a) (assembler_limit a) history key) (sym e) (found_open (assembler_slots a) (assembler_limit a) (table_of a) history key s.table)

-- how many slots are taken, and how many keys are open
pub open_is_counted : (a : Assembler) (history : History) (count : ℕ) → count ≡ count_by is_some (table_of a) → HoldsHistory a history
    → IsKeyCount (IsOpen (assembler_slots a) (assembler_limit a) history) count
open_is_counted a history count e s =
    subst (IsKeyCount (IsOpen (assembler_slots a) (assembler_limit a) history)) (sym e) (open_count (assembler_slots a) (assembler_limit a) (table_of a) history s.table)

stands_as : (old new : Assembler) (history : History) → assembler_slots new ≡ assembler_slots old → assembler_limit new ≡ assembler_limit old
    → TableStandsFor (assembler_slots old) (assembler_limit old) (table_of new) history → HoldsHistory new history
stands_as old new history slots limit t = record {
  table = subst (λ n. TableStandsFor n (assembler_limit new) (table_of new) history) (sym slots)
      (subst (λ n. TableStandsFor (assembler_slots old) n (table_of new) history) (sym limit) t);
}

-- after a key's time is up
pub expired_is : (old new : Assembler) (key : KeyValue) → assembler_slots new ≡ assembler_slots old → assembler_limit new ≡ assembler_limit old
    → table_of new ≡ expired (table_of old) key → (history : History) → HoldsHistory old history → HoldsHistory new (after history (TimeUp key))
expired_is old new key slots limit table history s =
    stands_as old new (after history (TimeUp key)) slots limit
    (subst (λ (u : Table). TableStandsFor (assembler_slots old) (assembler_limit old) u (after history (TimeUp key))) (sym table)
    (expired_stands (assembler_slots old) (assembler_limit old) (table_of old) history key s.table))

nothing_at : (os : List (Option OpenMessage)) (size : ℕ) (block : List ℕ) (n : ℕ) → All (λ o. o ≡ None) os → (i : ℕ) (q : Partial) → slice_get (rows partial_of size block n os) i ≡ Some (Some q) → ⊥
nothing_at [] size block n all i q a = none-some (Some q) a
nothing_at (x ∷ os) size block n all zero q a =
    none-some q (sym (ap (λ o. partial_of o (part size block n)) (All-head (λ o. o ≡ None) x os all)) ∙ same_Some (partial_of x (part size block n)) (Some q) a)
nothing_at (x ∷ os) size block n all (suc i) q a = nothing_at os size block (suc n) (All-tail (λ o. o ≡ None) x os all) i q a

-- an assembler with nothing open has been given nothing
pub fresh_stands : (a : Assembler) → All (λ o. o ≡ None) a.slots.items → HoldsHistory a []
fresh_stands a empty = record { table = nothing_stands (assembler_slots a) (assembler_limit a) (table_of a) (nothing_at a.slots.items a.limit a.block.items 0 empty) }

-- a message at a slot, as the table holds it
pub record IsHeldAs (a : Assembler) (i : ℕ) (m : OpenMessage) (q : Partial) : Type 0 where
  pub key : q.key ≡ key_value m.key
  pub number : q.number ≡ m.number.value
  pub unit : q.unit ≡ m.unit
  pub bytes : q.bytes ≡ take m.len (part a.limit a.block.items i)
  pub len : length q.bytes ≡ m.len

part_length : (size n : ℕ) (block : List ℕ) (j : ℕ) → j < n → length block ≡ n * size → length (part size block j) ≡ size
part_length size n block j small long =
    let row = row_fits j size n size small (omega arith) in
    length-take-le size (drop (j * size) block) (omega (arith, length-drop (j * size) block))

pub held_as : (a : Assembler) (i : ℕ) (o : Option OpenMessage) (m : OpenMessage) (q : Partial) → o ≡ Some m → i < length a.slots.items → o ≡ get_or a.slots.items i o
    → slice_get (table_of a) i ≡ Some (Some q) → IsHeldAs a i m q
held_as a i o m q is within at held =
    let same : partial_of (Some m) (part a.limit a.block.items i) ≡ Some q = subst (λ (x : Option OpenMessage). partial_of x (part a.limit a.block.items i) ≡ Some q) is (at_slot a i o q within at held) in
    let e = same_Some _ q same in
    let fits : m.len ≤ a.limit = subst (λ (x : Option OpenMessage). IfSome x (λ (k : OpenMessage). k.len ≤ a.limit)) (sym at ∙ is) (a.within i o within) in
    let bytes : q.bytes ≡ take m.len (part a.limit a.block.items i) = ap (λ (x : Partial). x.bytes) (sym e) in
    let long = part_length a.limit (length a.slots.items) a.block.items i within a.sized in
    record {
      key = ap (λ (x : Partial). x.key) (sym e);
      number = ap (λ (x : Partial). x.number) (sym e);
      unit = ap (λ (x : Partial). x.unit) (sym e);
      bytes = bytes;
      len = ap length bytes ∙ length-take-le m.len (part a.limit a.block.items i) (omega arith);
    }

same_fault : (a : Assembler) (i : ℕ) (m : OpenMessage) (q : Partial) (p : PacketValue) (fault : Option DropCause) → IsHeldAs a i m q
    → fault_of a.limit m.number.value m.unit m.len p ≡ fault → fault_at a.limit q p ≡ fault
same_fault a i m q p fault h e =
    ap (λ n. fault_of a.limit n q.unit (length q.bytes) p) h.number ∙ ap (λ n. fault_of a.limit m.number.value n (length q.bytes) p) h.unit
    ∙ ap (λ n. fault_of a.limit m.number.value m.unit n p) h.len ∙ e

-- a message at a slot, and whether a packet goes on from it
pub record IsHeldWith (a : Assembler) (i : ℕ) (m : OpenMessage) (q : Partial) (p : PacketValue) (fault : Option DropCause) : Type 0 where
  pub held : IsHeldAs a i m q
  pub fault_is : fault_at a.limit q p ≡ fault

pub held_with : (a : Assembler) (i : ℕ) (o : Option OpenMessage) (m : OpenMessage) (q : Partial) (p : PacketValue) (fault : Option DropCause) → o ≡ Some m → i < length a.slots.items
    → o ≡ get_or a.slots.items i o → fault_of a.limit m.number.value m.unit m.len p ≡ fault → slice_get (table_of a) i ≡ Some (Some q) → IsHeldWith a i m q p fault
held_with a i o m q p fault is within at e held =
    let h = held_as a i o m q is within at held in
    record { held = h; fault_is = same_fault a i m q p fault h e }

-- what a packet leaves of a message, and the answer
pub record Leaves (limit : ℕ) (q : Partial) (p : PacketValue) (rest : Option Partial) (answer : Answer) : Type 0 where
  pub rest_is : next_partial limit q p ≡ rest
  pub answer_is : next_answer limit q p ≡ answer

leaves : (fault found : Option DropCause) (ends known : Bool) (q : Partial) (p : PacketValue) → fault ≡ found → ends ≡ known
    → (goes_on fault ends q p ≡ goes_on found known q p) × (answers_on fault ends q p ≡ answers_on found known q p)
leaves fault found ends known q p f e = rw (f, e) (refl, refl)

pub leaves_nothing : (limit : ℕ) (q : Partial) (p : PacketValue) (why : DropCause) → fault_at limit q p ≡ Some why → Leaves limit q p None (Dropped why)
leaves_nothing limit q p why f = let l = leaves (fault_at limit q p) (Some why) p.eom p.eom q p f refl in record { rest_is = l.0; answer_is = l.1 }

pub leaves_whole : (limit : ℕ) (q : Partial) (p : PacketValue) → fault_at limit q p ≡ None → p.eom ≡ true → Leaves limit q p None (Whole (q.bytes ++ p.payload))
leaves_whole limit q p f e = let l = leaves (fault_at limit q p) None p.eom true q p f e in record { rest_is = l.0; answer_is = l.1 }

pub leaves_more : (limit : ℕ) (q : Partial) (p : PacketValue) → fault_at limit q p ≡ None → p.eom ≡ false → Leaves limit q p (Some (extended q p)) Held
leaves_more limit q p f e = let l = leaves (fault_at limit q p) None p.eom false q p f e in record { rest_is = l.0; answer_is = l.1 }

-- the message after a packet that goes on
pub next_is : (a : Assembler) (i : ℕ) (m n : OpenMessage) (q : Partial) (p : PacketValue) (new : List ℕ) → IsHeldAs a i m q → n.key ≡ m.key → n.number.value ≡ p.number → n.unit ≡ m.unit
    → n.len ≡ m.len + length p.payload → take (m.len + length p.payload) (part a.limit new i) ≡ take m.len (part a.limit a.block.items i) ++ p.payload
    → partial_of (Some n) (part a.limit new i) ≡ Some (extended q p)
next_is a i m n q p new h key number unit len bytes =
    let k : key_value n.key ≡ q.key = ap key_value key ∙ sym h.key in
    let u : n.unit ≡ q.unit = unit ∙ sym h.unit in
    let b : take n.len (part a.limit new i) ≡ q.bytes ++ p.payload = ap (λ x. take x (part a.limit new i)) len ∙ bytes ∙ ap (λ xs. xs ++ p.payload) (sym h.bytes) in
    λ j. Some (record { key = k j; number = number j; unit = u j; bytes = b j })

-- the whole message lies at the front of its part
pub whole_is : (a : Assembler) (i : ℕ) (m n : OpenMessage) (q : Partial) (p : PacketValue) (new : List ℕ) (limit : ℕ) → IsHeldAs a i m q → limit ≡ a.limit → n.len ≤ a.limit
    → n.len ≡ m.len + length p.payload → take (m.len + length p.payload) (part a.limit new i) ≡ take m.len (part a.limit a.block.items i) ++ p.payload
    → slice_range new (i * limit) (i * limit + n.len) ≡ q.bytes ++ p.payload
whole_is a i m n q p new limit h same fits len bytes =
    let size : i * a.limit + n.len - i * a.limit ≡ n.len = omega arith in
    ap (λ x. slice_range new (i * x) (i * x + n.len)) same
    ∙ ap (λ x. take x (drop (i * a.limit) new)) size
    ∙ sym (take-take n.len a.limit (drop (i * a.limit) new) fits)
    ∙ ap (λ x. take x (part a.limit new i)) len ∙ bytes ∙ ap (λ xs. xs ++ p.payload) (sym h.bytes)
