-- Blocks that are read one after the other, and the section to which they come.
use Rattle.std.{proofs.Common.{◌≡◌, ℕ, ◌+◌, ◌-◌, ◌<◌, ◌==◌, ◌++◌, List, [], ◌∷◌, length, map, arith, refl, ap, sym, ◌∙◌, append_assoc, drop, subst, true, false, inl, inr, cond, reverse, find, option_map, Some, None}, specs.Prelude.{not, ◌||◌}, specs.List.{flat_map, filter, take_while, AllZip}, proofs.lemmas.Bool.Decides.{nat_tests}, proofs.lemmas.List.{append-nil, drop-append-le, flat_map_more, length-append, length-map, map-append, reverse-append}, proofs.lemmas.List.Elements.{filter-append}, proofs.lemmas.List.Sums.{take_while-cons}, proofs.Math.Seq.{drop-length}}
use Rattle.bus_captures.{specs.declared.section.Section.{Section}, specs.declared.interfaces.Described.{Described}, specs.Blocks.{Block, IsBlock, IsNext, AreRead, IsDescribed, block_bytes, described, described_before, is_interface, is_packet, is_section, last_section, order_behind, IsPacketEntry}, specs.Interfaces.{InterfaceValue}, specs.InterfaceValues.{interface_value}, specs.Numbers.{number_bytes}, specs.declared.format.Order.{Order}, specs.declared.format.Order.TheVariants.{Little, Big}, specs.Sections.{IsBefore, IsBehind, Takes, IsEntryIn, own_of}, specs.Values.{EntryValue}, proofs.BlockLaws.{regrouped}, proofs.RecordLaws.{zip_more}}
use Rattle.bus_captures.specs.Blocks as blocks

-- ---- one block more

module _ (bs : List Block) (b : Block) where
  turned : reverse (bs ++ b ∷ []) ≡ b ∷ reverse bs
  turned = reverse-append bs (b ∷ [])

  order_of_section : is_section b ≡ true → order_behind (bs ++ b ∷ []) ≡ Some b.order
  order_of_section is = ap (λ xs. option_map (λ (c : Block). c.order) (find is_section xs)) turned ∙ rw is refl

  order_stays : is_section b ≡ false → order_behind (bs ++ b ∷ []) ≡ order_behind bs
  order_stays other = ap (λ xs. option_map (λ (c : Block). c.order) (find is_section xs)) turned ∙ rw other refl

  section_begins : is_section b ≡ true → last_section (bs ++ b ∷ []) ≡ []
  section_begins is =
      let kept = take_while (λ (c : Block). not (is_section c)) (reverse bs) in
      let first : cond (not (is_section b)) (b ∷ kept) [] ≡ [] = rw is refl in
      ap (λ xs. reverse (take_while (λ (c : Block). not (is_section c)) xs)) turned
      ∙ ap reverse (take_while-cons (λ (c : Block). not (is_section c)) b (reverse bs) ∙ first)

  section_grows : is_section b ≡ false → last_section (bs ++ b ∷ []) ≡ last_section bs ++ b ∷ []
  section_grows other =
      let kept = take_while (λ (c : Block). not (is_section c)) (reverse bs) in
      let first : cond (not (is_section b)) (b ∷ kept) [] ≡ b ∷ kept = rw other refl in
      ap (λ xs. reverse (take_while (λ (c : Block). not (is_section c)) xs)) turned
      ∙ ap reverse (take_while-cons (λ (c : Block). not (is_section c)) b (reverse bs) ∙ first)
      ∙ reverse-append (b ∷ []) kept

described_more : (bs : List Block) (b : Block) → is_interface b ≡ true → described (bs ++ b ∷ []) ≡ described bs ++ b ∷ []
described_more bs b is = filter-append is_interface bs (b ∷ []) ∙ rw is refl

described_same : (bs : List Block) (b : Block) → is_interface b ≡ false → described (bs ++ b ∷ []) ≡ described bs
described_same bs b other = filter-append is_interface bs (b ∷ []) ∙ rw other (append-nil (described bs))

-- the header of a section describes no interface, and neither does a packet
section_is_none : (b : Block) → is_section b ≡ true → is_interface b ≡ false
section_is_none b is = let kind : b.kind ≡ 168627466 = grind (arith, nat_tests) in grind (arith, nat_tests)

packet_kind : (kind : ℕ) → ((kind == 6) || (kind == 3)) ≡ true → ((kind == 168627466) ≡ false) × ((kind == 1) ≡ false)
packet_kind kind is = (grind (arith, nat_tests), grind (arith, nat_tests))

-- ---- the section behind one block more

pub before_all : (s : Section) → IsBefore s → IsBehind s []
before_all s none = record {
  order = none.order;
  before = none.before;
  many = ap length none.none;
  own = subst (λ (ds : List Described). AllZip IsDescribed [] (drop s.before (map interface_value ds))) (sym none.none)
      (subst (λ (n : ℕ). AllZip IsDescribed [] (drop n [])) (sym none.before) tt);
  within = let h = none.before in omega arith;
}

module _ (old new : Section) (bs : List Block) (b : Block) (behind : IsBehind old bs) where
  same_behind : is_section b ≡ false → is_interface b ≡ false → IsBehind old (bs ++ b ∷ [])
  same_behind section interface =
      let all = described_same bs b interface in
      let own = ap described (section_grows bs b section) ∙ described_same (last_section bs) b interface in
      record {
        order = behind.order ∙ sym (order_stays bs b section);
        before = behind.before ∙ sym (ap (λ (n : ℕ). n - length (described (last_section (bs ++ b ∷ [])))) (ap length all) ∙ ap (λ (ds : List Block). length (described bs) - length ds) own);
        many = behind.many ∙ sym (ap length all);
        own = subst (λ (ds : List Block). AllZip IsDescribed ds (own_of old)) (sym own) behind.own;
        within = behind.within;
      }

  pub packet_behind : is_packet b ≡ true → IsBehind old (bs ++ b ∷ [])
  packet_behind is = let kinds = packet_kind b.kind is in same_behind kinds.0 kinds.1

  pub taken_behind : Takes old new b → IsBehind new (bs ++ b ∷ [])
  taken_behind (inl begins) =
      let interface = section_is_none b begins.kind in
      let all = described_same bs b interface in
      let none = section_begins bs b begins.kind in
      let items = map interface_value old.interfaces.items in
      let many = length-map old.interfaces.items interface_value in
      record {
        order = begins.order ∙ sym (order_of_section bs b begins.kind);
        before =
            let one : described_before (bs ++ b ∷ []) ≡ length (described (bs ++ b ∷ [])) - 0 = ap (λ (ds : List Block). length (described (bs ++ b ∷ [])) - length (described ds)) none in
            let two = ap length all in
            let first = begins.before in
            let second = behind.many in
            omega (arith, one, two, first, second);
        many = ap length begins.all ∙ behind.many ∙ sym (ap length all);
        own = subst (λ (ds : List Block). AllZip IsDescribed (described ds) (own_of new)) (sym none)
            (subst (λ (is : List InterfaceValue). AllZip IsDescribed [] is)
            (sym (ap (λ (n : ℕ). drop n (map interface_value new.interfaces.items)) begins.before
            ∙ ap (λ (ds : List Described). drop (length old.interfaces.items) (map interface_value ds)) begins.all
            ∙ ap (λ (n : ℕ). drop n items) (sym many) ∙ drop-length items)) tt);
        within = let h = begins.before in let k = ap length begins.all in omega arith;
      }
  taken_behind (inr (inl describes)) =
      let all = described_more bs b describes.interface in
      let own = ap described (section_grows bs b describes.kind) ∙ described_more (last_section bs) b describes.interface in
      let items = map interface_value old.interfaces.items in
      let many = length-map old.interfaces.items interface_value in
      let d = describes.described in
      let lengths = length-append (described bs) (b ∷ []) in
      let own_lengths = length-append (described (last_section bs)) (b ∷ []) in
      let new_own : own_of new ≡ own_of old ++ interface_value d ∷ [] =
      ap (λ (n : ℕ). drop n (map interface_value new.interfaces.items)) describes.before
      ∙ ap (λ (ds : List Described). drop old.before (map interface_value ds)) describes.all
      ∙ ap (drop old.before) (map-append interface_value old.interfaces.items (d ∷ []))
      ∙ drop-append-le old.before items (interface_value d ∷ []) (let h = behind.within in omega arith) in
      record {
        order = describes.order ∙ behind.order ∙ sym (order_stays bs b describes.kind);
        before = describes.before ∙ behind.before ∙ sym (ap (λ (ds : List Block). length ds - length (described (last_section (bs ++ b ∷ [])))) all
            ∙ ap (λ (ds : List Block). length (described bs ++ b ∷ []) - length ds) own ∙ (let h = lengths in let k = own_lengths in omega arith));
        many = ap length describes.all ∙ length-append old.interfaces.items (d ∷ []) ∙ ap (λ (n : ℕ). n + 1) behind.many ∙ sym (ap length all ∙ lengths);
        own = subst (λ (ds : List Block). AllZip IsDescribed ds (own_of new)) (sym own)
            (subst (λ is. AllZip IsDescribed (described (last_section bs) ++ b ∷ []) is) (sym new_own)
            (zip_more IsDescribed (described (last_section bs)) (own_of old) b (interface_value d) behind.own describes.is));
        within = let h = describes.before in let k = ap length describes.all ∙ length-append old.interfaces.items (d ∷ []) in let w = behind.within in omega arith;
      }
  taken_behind (inr (inr keeps)) = subst (λ (s : Section). IsBehind s (bs ++ b ∷ [])) (sym keeps.same) (same_behind keeps.kind keeps.interface)

-- ---- reading

-- so far these blocks were read, of which these entries came
pub record HasRead (bytes : List ℕ) (entries : List EntryValue) (left : List ℕ) (place : ℕ) (section : Section) : Type 0 where
  pub read : List Block
  pub spelled : bytes ≡ flat_map block_bytes read ++ left
  pub each : AreRead read entries
  pub many : place ≡ length read
  pub behind : IsBehind section read

pub nothing_read : (bytes : List ℕ) (section : Section) → IsBefore section → HasRead bytes [] bytes 0 section
nothing_read bytes section none = record { read = []; spelled = refl; each = blocks.Nothing; many = refl; behind = before_all section none }

four_bytes : (order : Order) (n : ℕ) → length (number_bytes order n) ≡ 4
four_bytes Little n = refl
four_bytes Big n = refl

-- what stands behind a block is shorter
pub shorter : (b : Block) (left rest : List ℕ) → left ≡ block_bytes b ++ rest → length rest < length left
shorter b left rest is =
    let behind = number_bytes b.order (12 + length b.body) ++ (b.body ++ (number_bytes b.order (12 + length b.body) ++ rest)) in
    let all : length left ≡ length (number_bytes b.order b.kind) + length behind =
    ap length (is ∙ regrouped b rest) ∙ length-append (number_bytes b.order b.kind) behind in
    let more : length behind ≡ length (number_bytes b.order (12 + length b.body)) + length (b.body ++ (number_bytes b.order (12 + length b.body) ++ rest)) =
    length-append (number_bytes b.order (12 + length b.body)) _ in
    let body : length (b.body ++ (number_bytes b.order (12 + length b.body) ++ rest)) ≡ length b.body + length (number_bytes b.order (12 + length b.body) ++ rest) =
    length-append b.body _ in
    let last : length (number_bytes b.order (12 + length b.body) ++ rest) ≡ length (number_bytes b.order (12 + length b.body)) + length rest =
    length-append (number_bytes b.order (12 + length b.body)) rest in
    let four = four_bytes b.order b.kind in
    omega (arith, all, more, body, last, four)

spelled_more : (bytes left rest : List ℕ) (read : List Block) (b : Block) → bytes ≡ flat_map block_bytes read ++ left → left ≡ block_bytes b ++ rest
    → bytes ≡ flat_map block_bytes (read ++ b ∷ []) ++ rest
spelled_more bytes left rest read b e is =
    e ∙ ap (λ xs. flat_map block_bytes read ++ xs) is ∙ sym (append_assoc (flat_map block_bytes read) (block_bytes b) rest)
    ∙ ap (λ xs. xs ++ rest) (flat_map_more block_bytes [] read b)

pub block_taken : (bytes : List ℕ) (entries : List EntryValue) (left rest : List ℕ) (place : ℕ) (old new : Section) (b : Block) → HasRead bytes entries left place old
    → IsBlock b → IsNext old.order b → left ≡ block_bytes b ++ rest → is_packet b ≡ false → Takes old new b → HasRead bytes entries rest (place + 1) new
block_taken bytes entries left rest place old new b has lawful next is other takes = record {
  read = has.read ++ b ∷ [];
  spelled = spelled_more bytes left rest has.read b has.spelled is;
  each = blocks.Other has.read entries b has.each lawful (subst (λ o. IsNext o b) has.behind.order next) other;
  many = ap (λ (n : ℕ). n + 1) has.many ∙ sym (length-append has.read (b ∷ []));
  behind = taken_behind old new has.read b has.behind takes;
}

pub packet_read : (bytes : List ℕ) (entries : List EntryValue) (left rest : List ℕ) (place : ℕ) (section : Section) (b : Block) (e : EntryValue) → HasRead bytes entries left place section
    → IsBlock b → IsNext section.order b → left ≡ block_bytes b ++ rest → is_packet b ≡ true → IsEntryIn section b e → HasRead bytes (entries ++ e ∷ []) rest (place + 1) section
packet_read bytes entries left rest place section b e has lawful next is packet entry = record {
  read = has.read ++ b ∷ [];
  spelled = spelled_more bytes left rest has.read b has.spelled is;
  each = blocks.Packet has.read entries b e has.each lawful (subst (λ o. IsNext o b) has.behind.order next) packet
      (own_of section, has.behind.own, subst (λ (n : ℕ). IsPacketEntry n (own_of section) b e) has.behind.before entry);
  many = ap (λ (n : ℕ). n + 1) has.many ∙ sym (length-append has.read (b ∷ []));
  behind = packet_behind section section has.read b has.behind packet;
}
