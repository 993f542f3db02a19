-- Records of a file, one behind the other.
use Rattle.std.{proofs.Common.{◌≡◌, ℕ, ◌<◌, ◌^◌, ◌/◌, ◌%◌, ◌++◌, List, [], ◌∷◌, length, arith, refl, ap, sym, ◌∙◌, append_assoc, drop}, specs.List.{flat_map, AllZip, All}, proofs.lemmas.List.{flat_map_more}, proofs.lemmas.List.Elements.{All-push, All-tail}}
use Rattle.bus_captures.{specs.declared.format.Order.{Order}, specs.declared.format.Order.TheVariants.{Little, Big}, specs.declared.format.TimeUnit.{TimeUnit}, specs.declared.link.Link.{Link}, specs.Files.{FileRecord, IsRecord, record_bytes, IsEntryOf, AreRead}, specs.Numbers.{number_bytes}, specs.Values.{EntryValue}}

pub zip_more : {A B : Type 0} (R : A → B → Type 0) (xs : List A) (ys : List B) (x : A) (y : B) → AllZip R xs ys → R x y → AllZip R (xs ++ x ∷ []) (ys ++ y ∷ [])
zip_more R [] [] x y all is = (is, tt)
zip_more R [] (b ∷ ys) x y all is = absurd all
zip_more R (a ∷ xs) [] x y all is = absurd all
zip_more R (a ∷ xs) (b ∷ ys) x y all is = (all.0, zip_more R xs ys x y all.1 is)

-- one more record is read
pub one_more : (order : Order) (unit : TimeUnit) (link : Link) (bytes : List ℕ) (entries : List EntryValue) (left rest : List ℕ) (r : FileRecord) (e : EntryValue)
    → AreRead order unit link bytes entries left → IsRecord r → left ≡ record_bytes order r ++ rest → IsEntryOf unit link r e
    → AreRead order unit link bytes (entries ++ e ∷ []) rest
one_more order unit link bytes entries left rest r e before lawful front is =
    let f = record_bytes order in
    record {
      records = before.records ++ r ∷ [];
      spelled =
          before.spelled ∙ ap (λ xs. flat_map f before.records ++ xs) front
          ∙ sym (append_assoc (flat_map f before.records) (f r) rest)
          ∙ ap (λ xs. xs ++ rest) (flat_map_more f [] before.records r);
      lawful = All-push IsRecord before.records r before.lawful lawful;
      each = zip_more (IsEntryOf unit link) before.records entries r e before.each is;
    }

-- a number of four bytes is known by them
pub four : (order : Order) (a b : ℕ) (xs ys : List ℕ) → a < 2 ^ 32 → b < 2 ^ 32 → number_bytes order a ++ xs ≡ number_bytes order b ++ ys → (a ≡ b) × (xs ≡ ys)
four Little a b xs ys ha hb e =
    let e0 : a % 256 ≡ b % 256 = cc in
    let e1 : a / 256 % 256 ≡ b / 256 % 256 = cc in
    let e2 : a / 65536 % 256 ≡ b / 65536 % 256 = cc in
    let e3 : a / 16777216 % 256 ≡ b / 16777216 % 256 = cc in
    (omega arith, ap (drop 4) e)
four Big a b xs ys ha hb e =
    let e0 : a % 256 ≡ b % 256 = cc in
    let e1 : a / 256 % 256 ≡ b / 256 % 256 = cc in
    let e2 : a / 65536 % 256 ≡ b / 65536 % 256 = cc in
    let e3 : a / 16777216 % 256 ≡ b / 16777216 % 256 = cc in
    (omega arith, ap (drop 4) e)

-- lists of one length at the front of equal lists are equal, and so is what follows them
pub fronts : (xs ys us vs : List ℕ) → length xs ≡ length ys → xs ++ us ≡ ys ++ vs → (xs ≡ ys) × (us ≡ vs)
fronts [] [] us vs l e = (refl, e)
fronts [] (y ∷ ys) us vs l e = absurd (omega arith)
fronts (x ∷ xs) [] us vs l e = absurd (omega arith)
fronts (x ∷ xs) (y ∷ ys) us vs l e =
    let head : x ≡ y = cc in
    let tail : xs ++ us ≡ ys ++ vs = cc in
    let later = fronts xs ys us vs (omega arith) tail in
    ((λ j. head j ∷ later.0 j), later.1)

same_record : (r q : FileRecord) → r.seconds ≡ q.seconds → r.fraction ≡ q.fraction → r.original ≡ q.original → r.bytes ≡ q.bytes → r ≡ q
same_record r q s f o b = λ i. record { seconds = s i; fraction = f i; original = o i; bytes = b i }

regrouped : (order : Order) (r : FileRecord) (xs : List ℕ) → record_bytes order r ++ xs
    ≡ number_bytes order r.seconds ++ (number_bytes order r.fraction ++ (number_bytes order (length r.bytes) ++ (number_bytes order r.original ++ (r.bytes ++ xs))))
regrouped order r xs = simp append_assoc

pub one_record : (order : Order) (r q : FileRecord) (xs ys : List ℕ) → IsRecord r → IsRecord q → record_bytes order r ++ xs ≡ record_bytes order q ++ ys → (r ≡ q) × (xs ≡ ys)
one_record order r q xs ys hr hq e =
    let whole = sym (regrouped order r xs) ∙ e ∙ regrouped order q ys in
    let seconds = four order r.seconds q.seconds _ _ hr.seconds hq.seconds whole in
    let fraction = four order r.fraction q.fraction _ _ hr.fraction hq.fraction seconds.1 in
    let count = four order (length r.bytes) (length q.bytes) _ _ hr.count hq.count fraction.1 in
    let original = four order r.original q.original _ _ hr.original hq.original count.1 in
    let kept = fronts r.bytes q.bytes xs ys count.0 original.1 in
    (same_record r q seconds.0 fraction.0 original.0 kept.0, kept.1)

pub some_bytes : (order : Order) (r : FileRecord) (xs : List ℕ) → record_bytes order r ++ xs ≡ [] → ⊥
some_bytes Little r xs e = cc
some_bytes Big r xs e = cc

-- two lists of records that are the same bytes are equal
pub one_list : (order : Order) (xs ys : List FileRecord) → All IsRecord xs → All IsRecord ys → flat_map (record_bytes order) xs ≡ flat_map (record_bytes order) ys → xs ≡ ys
one_list order [] [] hx hy e = refl
one_list order [] (y ∷ ys) hx hy e = absurd (some_bytes order y _ (sym e))
one_list order (x ∷ xs) [] hx hy e = absurd (some_bytes order x _ e)
one_list order (x ∷ xs) (y ∷ ys) hx hy e =
    let first = one_record order x y _ _ (hx 0 x (omega arith)) (hy 0 y (omega arith)) e in
    let later = one_list order xs ys (All-tail IsRecord x xs hx) (All-tail IsRecord y ys hy) first.1 in
    λ i. first.0 i ∷ later i
