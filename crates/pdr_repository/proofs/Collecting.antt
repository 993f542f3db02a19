-- One more exchange, and that exchanges collect one list of records.
use Rattle.std.{proofs.Common.{◌≡◌, ◌≢◌, ℕ, List, [], ◌∷◌, ◌++◌, map, Option, Some, None, refl, sym, ap, ◌∙◌, subst, inl, inr}, specs.Prelude.{All, if◌then◌else◌, ◌==◌}, specs.List.{flat_map, AllByRecursion}, proofs.lemmas.List.{append_assoc, append-nil, map_push}, proofs.lemmas.List.Concat.{flat_map-append}, proofs.lemmas.List.Elements.{All-nil, All-cons, All-append, recursion_from_All}}
use Rattle.pdr_repository.specs.Walks.{Exchange, Collects, IsStretch, IsOpen, HasFlag, flag_of, data_of, joined, CollectsOnce}

-- with one exchange more, as the rest is
pub record Collected (xs : List Exchange) (rs : List (List ℕ)) (d : List ℕ) (rest : List Exchange) : Type 0 where
  pub all : Collects xs rs d
  pub rest_is : all.rest ≡ rest

one_all : {X : Type 0} (P : X → Type 0) (x : X) → P x → All P (x ∷ [])
one_all P x h = All-cons P x [] h (All-nil P)

-- a start
pub start_more : (xs : List Exchange) (rs : List (List ℕ)) (d : List ℕ) (x : Exchange) (c : Collects xs rs d) → c.rest ≡ [] → HasFlag 0 x → Collected (xs ++ x ∷ []) rs (data_of x.answer) (x ∷ [])
start_more xs rs d x c none flag =
    let nothing : flat_map (λ s. s) c.stretches ++ c.rest ≡ flat_map (λ s. s) c.stretches = ap (λ ys. flat_map (λ s. s) c.stretches ++ ys) none ∙ append-nil (flat_map (λ s. s) c.stretches) in
    record {
      all = record {
        stretches = c.stretches;
        rest = x ∷ [];
        whole = ap (λ ys. ys ++ x ∷ []) (c.whole ∙ nothing);
        each = c.each;
        open_one = inr (x, [], refl, flag, All-nil (HasFlag 1));
        records = c.records;
        data_so_far = sym (append-nil (data_of x.answer));
      };
      rest_is = refl;
    }

more_open : (rest : List Exchange) (x : Exchange) → rest ≢ [] → IsOpen rest → HasFlag 1 x → IsOpen (rest ++ x ∷ [])
more_open rest x some (inl none) flag = absurd (some none)
more_open rest x some (inr (y, middle, is, begins, ones)) flag = inr (y, middle ++ x ∷ [], ap (λ ys. ys ++ x ∷ []) is, begins, All-append (HasFlag 1) middle (x ∷ []) ones (one_all (HasFlag 1) x flag))

joined_more : (xs : List Exchange) (x : Exchange) → joined (xs ++ x ∷ []) ≡ joined xs ++ data_of x.answer
joined_more xs x = flat_map-append (λ (y : Exchange). data_of y.answer) xs (x ∷ []) ∙ ap (λ ys. joined xs ++ ys) (append-nil (data_of x.answer))

-- a middle
pub middle_more : (xs : List Exchange) (rs : List (List ℕ)) (d : List ℕ) (x : Exchange) (c : Collects xs rs d) → c.rest ≢ [] → HasFlag 1 x → Collected (xs ++ x ∷ []) rs (d ++ data_of x.answer) (c.rest ++ x ∷ [])
middle_more xs rs d x c some flag = record {
  all = record {
    stretches = c.stretches;
    rest = c.rest ++ x ∷ [];
    whole = ap (λ ys. ys ++ x ∷ []) c.whole ∙ append_assoc (flat_map (λ s. s) c.stretches) c.rest (x ∷ []);
    each = c.each;
    open_one = more_open c.rest x some c.open_one flag;
    records = c.records;
    data_so_far = ap (λ ys. ys ++ data_of x.answer) c.data_so_far ∙ sym (joined_more c.rest x);
  };
  rest_is = refl;
}

-- a stretch is complete
closed_now : (xs : List Exchange) (rs : List (List ℕ)) (d : List ℕ) (x : Exchange) (c : Collects xs rs d) → IsStretch (c.rest ++ x ∷ []) → Collected (xs ++ x ∷ []) (rs ++ joined (c.rest ++ x ∷ []) ∷ []) [] []
closed_now xs rs d x c stretch =
    let s = c.rest ++ x ∷ [] in
    let last : flat_map (λ (t : List Exchange). t) (c.stretches ++ s ∷ []) ≡ flat_map (λ t. t) c.stretches ++ s = flat_map-append (λ (t : List Exchange). t) c.stretches (s ∷ []) ∙ ap (λ ys. flat_map (λ t. t) c.stretches ++ ys) (append-nil s) in
    record {
      all = record {
        stretches = c.stretches ++ s ∷ [];
        rest = [];
        whole = ap (λ ys. ys ++ x ∷ []) c.whole ∙ append_assoc (flat_map (λ t. t) c.stretches) c.rest (x ∷ []) ∙ sym last ∙ sym (append-nil (flat_map (λ t. t) (c.stretches ++ s ∷ [])));
        each = All-append IsStretch c.stretches (s ∷ []) c.each (one_all IsStretch s stretch);
        open_one = inl refl;
        records = ap (λ ys. ys ++ joined s ∷ []) c.records ∙ sym (map_push joined c.stretches s);
        data_so_far = refl;
      };
      rest_is = refl;
    }

-- a start and end
pub whole_more : (xs : List Exchange) (rs : List (List ℕ)) (d : List ℕ) (x : Exchange) (c : Collects xs rs d) → c.rest ≡ [] → HasFlag 5 x → Collected (xs ++ x ∷ []) (rs ++ data_of x.answer ∷ []) [] []
whole_more xs rs d x c none flag =
    let alone : c.rest ++ x ∷ [] ≡ x ∷ [] = ap (λ ys. ys ++ x ∷ []) none in
    let data_is : joined (c.rest ++ x ∷ []) ≡ data_of x.answer = ap joined alone ∙ append-nil (data_of x.answer) in
    let P : List ℕ → Type 0 = λ bs. Collected (xs ++ x ∷ []) (rs ++ bs ∷ []) [] [] in
    subst P data_is (closed_now xs rs d x c (inl (x, alone, flag)))

end_closes : (rest : List Exchange) (x : Exchange) → rest ≢ [] → IsOpen rest → HasFlag 4 x → IsStretch (rest ++ x ∷ [])
end_closes rest x some (inl none) flag = absurd (some none)
end_closes rest x some (inr (y, middle, is, begins, ones)) flag = inr (y, x, middle, ap (λ ys. ys ++ x ∷ []) is, begins, ones, flag)

-- an end
pub end_more : (xs : List Exchange) (rs : List (List ℕ)) (d : List ℕ) (x : Exchange) (c : Collects xs rs d) → c.rest ≢ [] → HasFlag 4 x → Collected (xs ++ x ∷ []) (rs ++ (d ++ data_of x.answer) ∷ []) [] []
end_more xs rs d x c some flag =
    let data_is : joined (c.rest ++ x ∷ []) ≡ d ++ data_of x.answer = joined_more c.rest x ∙ ap (λ ys. ys ++ data_of x.answer) (sym c.data_so_far) in
    let P : List ℕ → Type 0 = λ bs. Collected (xs ++ x ∷ []) (rs ++ bs ∷ []) [] [] in
    subst P data_is (closed_now xs rs d x c (end_closes c.rest x some c.open_one flag))

-- what is open, and what is closed, after one more exchange
opened : Option ℕ → List Exchange → Exchange → List Exchange
opened None os x = []
opened (Some flag) os x = if flag == 0 then x ∷ [] else (if flag == 1 then os ++ x ∷ [] else [])

closed : Option ℕ → List Exchange → Exchange → List (List Exchange)
closed None os x = []
closed (Some flag) os x = if flag == 5 then (x ∷ []) ∷ [] else (if flag == 4 then (os ++ x ∷ []) ∷ [] else [])

open_from : List Exchange → List Exchange → List Exchange
open_from os [] = os
open_from os (x ∷ xs) = open_from (opened (flag_of x.answer) os x) xs

closed_from : List Exchange → List Exchange → List (List Exchange)
closed_from os [] = []
closed_from os (x ∷ xs) = closed (flag_of x.answer) os x ++ closed_from (opened (flag_of x.answer) os x) xs

-- over exchanges in the middle
middles_open : (middle ys os : List Exchange) → AllByRecursion (HasFlag 1) middle → open_from os (middle ++ ys) ≡ open_from (os ++ middle) ys
unfolding open_from opened
middles_open [] ys os ones = ap (λ zs. open_from zs ys) (sym (append-nil os))
middles_open (x ∷ middle) ys os (one, ones) =
    ap (λ f. open_from (opened f os x) (middle ++ ys)) one ∙ middles_open middle ys (os ++ x ∷ []) ones ∙ ap (λ zs. open_from zs ys) (append_assoc os (x ∷ []) middle)

middles_closed : (middle ys os : List Exchange) → AllByRecursion (HasFlag 1) middle → closed_from os (middle ++ ys) ≡ closed_from (os ++ middle) ys
unfolding closed_from opened closed
middles_closed [] ys os ones = ap (λ zs. closed_from zs ys) (sym (append-nil os))
middles_closed (x ∷ middle) ys os (one, ones) = rw one (middles_closed middle ys (os ++ x ∷ []) ones ∙ ap (λ zs. closed_from zs ys) (append_assoc os (x ∷ []) middle))

-- over a stretch
stretch_open : (s ys : List Exchange) → IsStretch s → open_from [] (s ++ ys) ≡ open_from [] ys
unfolding open_from opened
stretch_open s ys (inl (x, is, five)) = rw is (ap (λ f. open_from (opened f [] x) ys) five)
stretch_open s ys (inr (x, y, middle, is, zero_is, ones, four)) =
    let over : open_from (x ∷ []) (middle ++ (y ∷ ys)) ≡ open_from [] ys =
    middles_open middle (y ∷ ys) (x ∷ []) (recursion_from_All (HasFlag 1) middle ones) ∙ ap (λ f. open_from (opened f (x ∷ middle) y) ys) four in
    rw is (ap (λ f. open_from (opened f [] x) ((middle ++ y ∷ []) ++ ys)) zero_is ∙ ap (open_from (x ∷ [])) (append_assoc middle (y ∷ []) ys) ∙ over)

stretch_closed : (s ys : List Exchange) → IsStretch s → closed_from [] (s ++ ys) ≡ s ∷ closed_from [] ys
unfolding closed_from closed opened
stretch_closed s ys (inl (x, is, five)) = rw (is, five) refl
stretch_closed s ys (inr (x, y, middle, is, zero_is, ones, four)) =
    let over : closed_from (x ∷ []) (middle ++ (y ∷ ys)) ≡ (x ∷ (middle ++ y ∷ [])) ∷ closed_from [] ys = middles_closed middle (y ∷ ys) (x ∷ []) (recursion_from_All (HasFlag 1) middle ones) ∙ rw four refl in
    rw (is, zero_is, append_assoc middle (y ∷ []) ys) over

stretches_open : (ss : List (List Exchange)) (ys : List Exchange) → AllByRecursion IsStretch ss → open_from [] (flat_map (λ s. s) ss ++ ys) ≡ open_from [] ys
stretches_open [] ys all = refl
stretches_open (s ∷ ss) ys (one, all) = ap (open_from []) (append_assoc s (flat_map (λ t. t) ss) ys) ∙ stretch_open s (flat_map (λ t. t) ss ++ ys) one ∙ stretches_open ss ys all

stretches_closed : (ss : List (List Exchange)) (ys : List Exchange) → AllByRecursion IsStretch ss → closed_from [] (flat_map (λ s. s) ss ++ ys) ≡ ss ++ closed_from [] ys
stretches_closed [] ys all = refl
stretches_closed (s ∷ ss) ys (one, all) = ap (closed_from []) (append_assoc s (flat_map (λ t. t) ss) ys) ∙ stretch_closed s (flat_map (λ t. t) ss ++ ys) one ∙ ap (λ ts. s ∷ ts) (stretches_closed ss ys all)

rest_open : (rest : List Exchange) → IsOpen rest → open_from [] rest ≡ rest
unfolding open_from opened
rest_open rest (inl none) = rw none refl
rest_open rest (inr (x, middle, is, zero_is, ones)) =
    let over : open_from (x ∷ []) middle ≡ x ∷ middle = ap (open_from (x ∷ [])) (sym (append-nil middle)) ∙ middles_open middle [] (x ∷ []) (recursion_from_All (HasFlag 1) middle ones) in
    rw is (ap (λ f. open_from (opened f [] x) middle) zero_is ∙ over)

rest_closed : (rest : List Exchange) → IsOpen rest → closed_from [] rest ≡ []
unfolding closed_from closed opened
rest_closed rest (inl none) = rw none refl
rest_closed rest (inr (x, middle, is, zero_is, ones)) =
    let over : closed_from (x ∷ []) middle ≡ [] = ap (closed_from (x ∷ [])) (sym (append-nil middle)) ∙ middles_closed middle [] (x ∷ []) (recursion_from_All (HasFlag 1) middle ones) in
    rw (is, zero_is) over

rest_is : (xs : List Exchange) (rs : List (List ℕ)) (d : List ℕ) (c : Collects xs rs d) → c.rest ≡ open_from [] xs
rest_is xs rs d c = sym (rest_open c.rest c.open_one) ∙ sym (stretches_open c.stretches c.rest (recursion_from_All IsStretch c.stretches c.each)) ∙ ap (open_from []) (sym c.whole)

stretches_are : (xs : List Exchange) (rs : List (List ℕ)) (d : List ℕ) (c : Collects xs rs d) → c.stretches ≡ closed_from [] xs
stretches_are xs rs d c =
    sym (append-nil c.stretches) ∙ ap (λ ts. c.stretches ++ ts) (sym (rest_closed c.rest c.open_one))
    ∙ sym (stretches_closed c.stretches c.rest (recursion_from_All IsStretch c.stretches c.each)) ∙ ap (closed_from []) (sym c.whole)

-- exchanges have one rest, and collect one list of records
pub one_rest : (xs : List Exchange) (rs ss : List (List ℕ)) (d e : List ℕ) (c : Collects xs rs d) (f : Collects xs ss e) → c.rest ≡ f.rest
one_rest xs rs ss d e c f = rest_is xs rs d c ∙ sym (rest_is xs ss e f)

pub collects_once : CollectsOnce
collects_once xs rs ss d e c f = (
  c.records ∙ ap (map joined) (stretches_are xs rs d c ∙ sym (stretches_are xs ss e f)) ∙ sym f.records,
  c.data_so_far ∙ ap joined (one_rest xs rs ss d e c f) ∙ sym f.data_so_far,
)
