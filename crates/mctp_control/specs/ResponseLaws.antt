-- No two responses have the same bytes.
use Rattle.std.{specs.Prelude.{◌≡◌, ℕ, ◌<◌, List, [], ◌∷◌, ◌++◌, length, take, drop, refl}, specs.List.{AllByRecursion}, proofs.Common.{arith, ap, sym, ◌∙◌}, proofs.Math.Seq.{take-append_seam, drop-append_seam}}
use Rattle.mctp_control.{specs.Digits.{digits_4, digits_pairs}, specs.RequestLaws.{one_header}, specs.RouteEntries.{EntryValue, IsEntry, entry_bytes, port_byte}, specs.RouteEntryLaws.{one_entry}, specs.EntryLists.{entries_bytes}, specs.Statuses.{Pairs, ArePairs, pairs_byte, PoolStatusValue, IsPoolStatus, pool_byte}, specs.Responses.{AnswerValue, EidSet, EidTold, PoolTold, EntriesTold, Failed, ResponseValue, IsAnswer, IsResponse, answer_bytes, response_bytes}}

-- two entries at the front of the same bytes
pub record SameFront (m n : EntryValue) (more others : List ℕ) : Type 0 where
  pub first : m ≡ n
  pub rest : more ≡ others

same_front : (m n : EntryValue) (more others : List ℕ) → IsEntry m → IsEntry n
    → entry_bytes m ++ more ≡ entry_bytes n ++ others → SameFront m n more others
same_front m n more others hm hn e =
    let l : length m.address ≡ length n.address = cc in
    let t : m.address ++ more ≡ n.address ++ others = cc in
    let a : m.address ≡ n.address = sym (take-append_seam m.address more) ∙ ap (take (length m.address)) t
    ∙ ap (λ k. take k (n.address ++ others)) l ∙ take-append_seam n.address others in
    let b : more ≡ others = sym (drop-append_seam m.address more) ∙ ap (drop (length m.address)) t
    ∙ ap (λ k. drop k (n.address ++ others)) l ∙ drop-append_seam n.address others in
    let s : m.size ≡ n.size = cc in
    let f : m.first ≡ n.first = cc in
    let p : port_byte m ≡ port_byte n = cc in
    let i : m.binding ≡ n.binding = cc in
    let d : m.media ≡ n.media = cc in
    let w : entry_bytes m ≡ entry_bytes n = λ j. s j ∷ f j ∷ p j ∷ i j ∷ d j ∷ l j ∷ a j in
    record { first = one_entry m n hm hn w; rest = b }

one_list : (ms ns : List EntryValue) → AllByRecursion IsEntry ms → AllByRecursion IsEntry ns → length ms ≡ length ns
    → entries_bytes ms ≡ entries_bytes ns → ms ≡ ns
one_list [] [] hm hn l e = refl
one_list (m ∷ ms) (n ∷ ns) hm hn l e =
    let f = same_front m n (entries_bytes ms) (entries_bytes ns) hm.0 hn.0 e in
    let r = one_list ms ns hm.1 hn.1 (omega arith) f.rest in
    let first = f.first in
    λ i. first i ∷ r i
one_list [] (n ∷ ns) hm hn l e = absurd (omega arith)
one_list (m ∷ ms) [] hm hn l e = absurd (omega arith)

one_pairs : (p q : Pairs) → ArePairs p → ArePairs q → pairs_byte p ≡ pairs_byte q → p ≡ q
one_pairs p q hp hq e =
    let f =
    digits_pairs p.high p.second p.third p.low q.high q.second q.third q.low hp.second hp.third hp.low hq.second
    hq.third hq.low e in
    let a = f.first in let b = f.second in let c = f.third in let d = f.fourth in
    λ i. record { high = a i; second = b i; third = c i; low = d i }

one_pool_status : (p q : PoolStatusValue) → IsPoolStatus p → IsPoolStatus q → pool_byte p ≡ pool_byte q → p ≡ q
one_pool_status p q hp hq e =
    let f = digits_4 p.reserved p.acceptance q.reserved q.acceptance hp.acceptance hq.acceptance e in
    let a = f.first in let b = f.second in
    λ i. record { reserved = a i; acceptance = b i }

-- a failed answer has a code other than 0
no_success : (command code number : ℕ) (data_ : List ℕ) → 0 < code → command ∷ code ∷ [] ≡ number ∷ 0 ∷ data_ → ⊥
no_success command code number data_ h e = let z : code ≡ 0 = cc in omega arith

one_answer : (a b : AnswerValue) → IsAnswer a → IsAnswer b → answer_bytes a ≡ answer_bytes b → a ≡ b
one_answer (EidSet p x s) (EidSet q y t) ha hb e =
    let f = one_pairs p q ha.0 hb.0 (cc) in let g : x ≡ y = cc in let h : s ≡ t = cc in
    λ i. EidSet (f i) (g i) (h i)
one_answer (EidTold x p s) (EidTold y q t) ha hb e =
    let f = one_pairs p q ha.1 hb.1 (cc) in let g : x ≡ y = cc in let h : s ≡ t = cc in
    λ i. EidTold (g i) (f i) (h i)
one_answer (PoolTold p x s) (PoolTold q y t) ha hb e =
    let f = one_pool_status p q ha.0 hb.0 (cc) in let g : x ≡ y = cc in let h : s ≡ t = cc in
    λ i. PoolTold (f i) (g i) (h i)
one_answer (EntriesTold n ms) (EntriesTold k ns) ha hb e =
    let g : n ≡ k = cc in
    let h = one_list ms ns ha.1 hb.1 (cc) (cc) in
    λ i. EntriesTold (g i) (h i)
one_answer (Failed c x) (Failed d y) ha hb e = let g : c ≡ d = cc in let h : x ≡ y = cc in λ i. Failed (g i) (h i)
one_answer (EidSet p x s) (EidTold x' p' s') ha hb e = cc
one_answer (EidSet p x s) (PoolTold p' x' s') ha hb e = cc
one_answer (EidSet p x s) (EntriesTold n' ms') ha hb e = cc
one_answer (EidSet p x s) (Failed c' k') ha hb e = absurd (no_success c' k' _ _ hb.1 (sym e))
one_answer (EidTold x p s) (EidSet p' x' s') ha hb e = cc
one_answer (EidTold x p s) (PoolTold p' x' s') ha hb e = cc
one_answer (EidTold x p s) (EntriesTold n' ms') ha hb e = cc
one_answer (EidTold x p s) (Failed c' k') ha hb e = absurd (no_success c' k' _ _ hb.1 (sym e))
one_answer (PoolTold p x s) (EidSet p' x' s') ha hb e = cc
one_answer (PoolTold p x s) (EidTold x' p' s') ha hb e = cc
one_answer (PoolTold p x s) (EntriesTold n' ms') ha hb e = cc
one_answer (PoolTold p x s) (Failed c' k') ha hb e = absurd (no_success c' k' _ _ hb.1 (sym e))
one_answer (EntriesTold n ms) (EidSet p' x' s') ha hb e = cc
one_answer (EntriesTold n ms) (EidTold x' p' s') ha hb e = cc
one_answer (EntriesTold n ms) (PoolTold p' x' s') ha hb e = cc
one_answer (EntriesTold n ms) (Failed c' k') ha hb e = absurd (no_success c' k' _ _ hb.1 (sym e))
one_answer (Failed c k) (EidSet p' x' s') ha hb e = absurd (no_success c k _ _ ha.1 e)
one_answer (Failed c k) (EidTold x' p' s') ha hb e = absurd (no_success c k _ _ ha.1 e)
one_answer (Failed c k) (PoolTold p' x' s') ha hb e = absurd (no_success c k _ _ ha.1 e)
one_answer (Failed c k) (EntriesTold n' ms') ha hb e = absurd (no_success c k _ _ ha.1 e)

pub one_response : (m n : ResponseValue) → IsResponse m → IsResponse n → response_bytes m ≡ response_bytes n → m ≡ n
one_response m n hm hn e =
    let h : m.header ≡ n.header = one_header 0 m.header n.header hm.instance hn.instance (cc) in
    let c : m.answer ≡ n.answer = one_answer m.answer n.answer hm.answer hn.answer (cc) in
    λ i. record { header = h i; answer = c i }
