-- A capture file that is written reads back.
use Rattle.std.{proofs.Common.{◌≡◌, ℕ, ◌+◌, ◌-◌, ◌<◌, ◌≤◌, ◌^◌, ◌++◌, List, [], ◌∷◌, length, map, arith, inl, inr, refl, ap, subst, sym, ◌∙◌, append_assoc, drop, replicate, length-append, get_or, true, false, None}, specs.List.{flat_map, AllZip, All}, proofs.Math.Seq.{drop-append_seam}, proofs.lemmas.List.Elements.{All-tail}, specs.Prelude.{Some}}
use Rattle.byteorder.specs.Endian.{big_bytes, big_number}
use Rattle.bus_captures.{specs.declared.capture.CaptureFault.{CaptureFault}, specs.declared.capture.End.{End}, specs.declared.format.Order.{Order}, specs.declared.format.Order.TheVariants.{Little, Big}, specs.declared.format.TimeUnit.{TimeUnit}, specs.declared.format.TimeUnit.TheVariants.{Micro, Nano}, specs.declared.link.Link.{Link}, specs.declared.link.Link.TheVariants.{Raw, Mctp, I2c, Cooked, CookedAgain}, specs.Files.{FileRecord, IsRecord, IsEntryOf, EndsFile, IsBody, IsFile, HasNoHeader, HasHeader, magic, record_bytes}, specs.Frames.{FrameValue, IsFrameOf, entry_of}, specs.Links.{link_number, link_of, index_of}, specs.Numbers.{number_bytes}, specs.Values.{EntryValue, At, on_linux}, specs.Written.{CarriedValue, IsCarried, ReadsBack, carried_record, carried_entry, header_fields, link_header, written_bytes}, proofs.RecordLaws.{four, fronts, one_record, some_bytes}, proofs.WritingLaws.{before, filled}}
use Rattle.bus_captures.specs.declared.capture.CaptureFault.TheVariants as fault
use Rattle.bus_captures.specs.declared.capture.Direction.TheVariants as direction
use Rattle.bus_captures.specs.declared.capture.Kind.TheVariants as kind
use Rattle.bus_captures.specs.declared.capture.End.TheVariants as end

-- the first four bytes say the order and the unit
order_is : (order : Order) (unit : TimeUnit) (behind rest : List ℕ) → number_bytes Little (magic Nano) ++ rest ≡ number_bytes order (magic unit) ++ behind
    → (order ≡ Little) × (unit ≡ Nano) × (behind ≡ rest)
order_is Little Micro behind rest e = let first : 77 ≡ 212 = ap (λ (xs : List ℕ). get_or xs 0 0) e in absurd (omega (arith, first))
order_is Little Nano behind rest e = (refl, refl, sym (ap (drop 4) e))
order_is Big Micro behind rest e = let first : 77 ≡ 161 = ap (λ (xs : List ℕ). get_or xs 0 0) e in absurd (omega (arith, first))
order_is Big Nano behind rest e = let first : 77 ≡ 161 = ap (λ (xs : List ℕ). get_or xs 0 0) e in absurd (omega (arith, first))

-- what follows them is a header of the link type that is written
has_one : (body : List ℕ) (why : CaptureFault) → HasNoHeader Little (header_fields ++ number_bytes Little 276 ++ body) why → ⊥
has_one body fault.Header short = omega arith
has_one body (fault.Link number) (ahead, rest, long, small, spelled, other) =
    let behind = fronts header_fields ahead _ _ (sym long) (spelled ∙ append_assoc ahead (number_bytes Little number) rest) in
    let same = four Little 276 number _ _ (omega arith) small behind.1 in
    let read : Some CookedAgain ≡ None = ap link_of same.0 ∙ other in
    absurd (cc)
has_one body fault.Record none = none
has_one body fault.Block none = none
has_one body fault.Line none = none

of_number : (link : Link) → 276 ≡ link_number link → link ≡ CookedAgain
of_number Raw e = absurd (omega arith)
of_number Mctp e = absurd (omega arith)
of_number I2c e = absurd (omega arith)
of_number Cooked e = absurd (omega arith)
of_number CookedAgain e = refl

small_number : (link : Link) → link_number link < 2 ^ 32
small_number Raw = omega arith
small_number Mctp = omega arith
small_number I2c = omega arith
small_number Cooked = omega arith
small_number CookedAgain = omega arith

header_is : (body : List ℕ) (link : Link) (found : List ℕ) → HasHeader Little (header_fields ++ number_bytes Little 276 ++ body) link found
    → (link ≡ CookedAgain) × (found ≡ body)
header_is body link found (ahead, long, spelled) =
    let behind = fronts header_fields ahead _ _ (sym long) (spelled ∙ append_assoc ahead (number_bytes Little (link_number link)) found) in
    let number = four Little 276 (link_number link) _ _ (omega arith) (small_number link) behind.1 in
    (of_number link number.0, sym number.1)

long_is : (p : CarriedValue) → IsCarried p → length (carried_record p).bytes ≡ 20 + length p.bytes
long_is p carried = length-append (link_header p) p.bytes ∙ ap (λ n. n + length p.bytes) (before p carried.address)

-- a packet's record is one, and its entry is the packet
record_is : (p : CarriedValue) → IsCarried p → IsRecord (carried_record p)
record_is p carried =
    let few = carried.bytes in
    record {
      seconds = carried.seconds;
      fraction = carried.nanoseconds;
      original = omega arith;
      count = let long = long_is p carried in omega arith;
    }

-- a number of four bytes reads back
big_back : (n : ℕ) (rest : List ℕ) → n < 2 ^ 32 → big_number 4 (big_bytes 4 n ++ rest) ≡ n
big_back n rest small = omega arith

module _ (p : CarriedValue) (carried : IsCarried p) where
  -- what is read of the record behind the header of the link
  behind_header : drop 20 (carried_record p).bytes ≡ p.bytes
  behind_header =
      let padded = p.address ++ replicate (8 - length p.address) 0 in
      let eight : length padded ≡ 8 = filled p.address carried.address in
      ap (λ n. drop n (padded ++ p.bytes)) (sym eight) ∙ drop-append_seam padded p.bytes

  index_is : index_of CookedAgain (carried_record p).bytes ≡ Some p.interface
  index_is =
      let padded = p.address ++ replicate (8 - length p.address) 0 in
      let rest : List ℕ = big_bytes 2 290 ++ 3 ∷ length p.address ∷ padded in
      ap Some (big_back p.interface (rest ++ p.bytes) carried.interface)

  frame_is : (f : FrameValue) → IsFrameOf CookedAgain (20 + length p.bytes) (carried_record p).bytes f → entry_of (At p.seconds p.nanoseconds) None None f ≡ carried_entry p
  frame_is f (inl (cut, is)) = absurd (cut (long_is p carried))
  frame_is f (inr (inl (whole, short, is))) = let long = long_is p carried in absurd (omega (arith, long, short))
  frame_is f (inr (inr (whole, long, read))) =
      let index = read.index ∙ index_is in
      let bytes = read.read.1 ∙ behind_header in
      λ i. record {
        time = At p.seconds p.nanoseconds;
        direction = read.direction i;
        interface = on_linux (index i);
        name = None;
        kind = read.read.0 i;
        bytes = bytes i;
      }

  pub entry_is : (e : EntryValue) → IsEntryOf Nano CookedAgain (carried_record p) e → e ≡ carried_entry p
  entry_is e (f, is, same) = same ∙ frame_is f is

-- reading doesn't end at nothing but as it does at the end
ends_well : (count : ℕ) (how : End) → EndsFile Little count [] how → how ≡ end.Whole
ends_well count end.Whole ends = refl
ends_well count end.Full ends = absurd (ends.1 refl)
ends_well count (end.Broken place why) ends = absurd (ends.2 refl)

-- nor does it end before a packet, as long as there is room for it
goes_on : (p : CarriedValue) (more : List ℕ) (count : ℕ) (how : End) → IsCarried p → count < 100000 → EndsFile Little count (written_bytes p ++ more) how → ⊥
goes_on p more count end.Whole carried few ends = some_bytes Little (carried_record p) more ends
goes_on p more count end.Full carried few ends = let full = ends.0 in omega arith
goes_on p more count (end.Broken place why) carried few ends = ends.3 (carried_record p) (record_is p carried, (more, refl))

-- the records at the front are those of the packets, and no other follows them
back : (ps : List CarriedValue) (k count : ℕ) (records : List FileRecord) (entries : List EntryValue) (left : List ℕ) (how : End) → All IsCarried ps → k + length ps ≤ 100000
    → count ≡ k + length entries → All IsRecord records → flat_map written_bytes ps ≡ flat_map (record_bytes Little) records ++ left
    → AllZip (IsEntryOf Nano CookedAgain) records entries → EndsFile Little count left how → (entries ≡ map carried_entry ps) × (how ≡ end.Whole)
back [] k count [] [] left how carried few counted lawful spelled each ends = (refl, ends_well count how (rw spelled ends))
back [] k count [] (e ∷ entries) left how carried few counted lawful spelled each ends = absurd each
back [] k count (r ∷ records) entries left how carried few counted lawful spelled each ends =
    absurd (some_bytes Little r _ (sym (append_assoc (record_bytes Little r) (flat_map (record_bytes Little) records) left) ∙ sym spelled))
back (p ∷ ps) k count [] [] left how carried few counted lawful spelled each ends =
    absurd (goes_on p (flat_map written_bytes ps) count how (carried 0 p (omega arith)) (omega arith) (rw spelled ends))
back (p ∷ ps) k count [] (e ∷ entries) left how carried few counted lawful spelled each ends = absurd each
back (p ∷ ps) k count (r ∷ records) [] left how carried few counted lawful spelled each ends = absurd each
back (p ∷ ps) k count (r ∷ records) (e ∷ entries) left how carried few counted lawful spelled each ends =
    let is = carried 0 p (omega arith) in
    let whole = spelled ∙ append_assoc (record_bytes Little r) (flat_map (record_bytes Little) records) left in
    let first = one_record Little (carried_record p) r _ _ (record_is p is) (lawful 0 r (omega arith)) whole in
    let entry = entry_is p is e (subst (λ (r : FileRecord). IsEntryOf Nano CookedAgain r e) (sym first.0) each.0) in
    let later = back ps (k + 1) count records entries left how (All-tail IsCarried p ps carried) (omega arith) (counted ∙ omega arith) (All-tail IsRecord r records lawful)
    first.1 each.1 ends in
    ((λ i. entry i ∷ later.0 i), later.1)

body_back : (ps : List CarriedValue) (entries : List EntryValue) (how : End) → All IsCarried ps → length ps ≤ 100000 → IsBody Little Nano CookedAgain (flat_map written_bytes ps) entries how
    → (entries ≡ map carried_entry ps) × (how ≡ end.Whole)
body_back ps entries how carried few body =
    back ps 0 (length entries) body.read.records entries body.left how carried (omega arith) (omega arith) body.read.lawful body.read.spelled body.read.each body.ends

file_back : (ps : List CarriedValue) (entries : List EntryValue) (how : End) → All IsCarried ps → length ps ≤ 100000
    → IsFile Little Nano (header_fields ++ number_bytes Little 276 ++ flat_map written_bytes ps) entries how → (entries ≡ map carried_entry ps) × (how ≡ end.Whole)
file_back ps entries how carried few (inl none) = absurd (has_one (flat_map written_bytes ps) none.1.0 none.1.2)
file_back ps entries how carried few (inr (link, found, header, body)) =
    let are = header_is (flat_map written_bytes ps) link found header in
    let cooked = rw are.0 at body in
    body_back ps entries how carried few (rw are.1 at cooked)

pub reads_back : (ps : List CarriedValue) → All IsCarried ps → length ps ≤ 100000 → ReadsBack ps
reads_back ps carried few entries how (inl (order, unit, behind, begins, file)) =
    let are = order_is order unit behind (header_fields ++ number_bytes Little 276 ++ flat_map written_bytes ps) begins in
    let ordered = rw are.0 at file in
    let counted = rw are.1 at ordered in
    file_back ps entries how carried few (rw are.2 at counted)
reads_back ps carried few entries how (inr other) = absurd (other.0 Little Nano _ refl)
