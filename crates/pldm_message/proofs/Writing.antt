-- Bytes that are written one behind the other.
use Rattle.std.{proofs.Common.{◌≡◌, ℕ, ◌+◌, ◌-◌, ◌≤◌, List, ◌++◌, length, take, drop, refl, ap, sym, ◌∙◌, arith, length-append, length-drop}, proofs.Math.Seq.{take-append_seam, drop-append_seam}, proofs.lemmas.List.{drop-drop, drop_all, take_all, append-nil}, proofs.lemmas.Slice.{put_mid-paste}}
use borrow.Rule.Slice.PartMut.{put_mid}

-- a front, and behind it a body: what was there before is left only behind both
pub written_behind : (n k : ℕ) (old first front body second : List ℕ) → length front ≡ n → length body ≡ k → n + k ≤ length old
    → first ≡ front ++ drop n old → second ≡ body ++ drop k (take (length first - n) (drop n first))
    → put_mid n (length first - n) first second ≡ front ++ (body ++ drop (n + k) old)
written_behind n k old first front body second hn hk fits f s =
    let long : length first ≡ length old = ap length f ∙ length-append front (drop n old) ∙ omega (arith, hn, fits, length-drop n old) in
    let seen : take n first ≡ front = ap (take n) f ∙ ap (λ i. take i (front ++ drop n old)) (sym hn) ∙ take-append_seam front (drop n old) in
    let rest : drop n first ≡ drop n old = ap (drop n) f ∙ ap (λ i. drop i (front ++ drop n old)) (sym hn) ∙ drop-append_seam front (drop n old) in
    let m : ℕ = length first - n in
    let whole : take m (drop n first) ≡ drop n first = take_all m (drop n first) (omega (arith, length-drop n first)) in
    let written : second ≡ body ++ drop (n + k) old = s ∙ ap (λ l. body ++ drop k l) (whole ∙ rest) ∙ ap (λ l. body ++ l) (drop-drop k n old) in
    let same : m ≡ length second = omega (arith, long, hk, fits, ap length written, length-append body (drop (n + k) old), length-drop (n + k) old) in
    put_mid-paste n m first second second m refl refl same
    ∙ ap (λ l. (l ++ take m second) ++ drop (n + m) first) seen
    ∙ ap (λ l. (front ++ l) ++ drop (n + m) first) (take_all m second (omega (arith, same)) ∙ written)
    ∙ ap (λ l. (front ++ (body ++ drop (n + k) old)) ++ l) (drop_all (n + m) first (omega arith))
    ∙ append-nil (front ++ (body ++ drop (n + k) old))
