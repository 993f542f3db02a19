-- What a capture file that is written holds, and that it reads back.
use Rattle.std.{proofs.Common.{◌≡◌, ℕ, suc, ◌+◌, ◌-◌, ◌≤◌, ◌++◌, List, length, arith, ap, ◌∙◌, append_assoc, replicate, length-append}, proofs.lemmas.List.{length-replicate}}
use Rattle.bus_captures.specs.Written.{CarriedValue, link_header}

-- what is added to what was added
pub joined : (xs ys zs a b : List ℕ) → ys ≡ xs ++ a → zs ≡ ys ++ b → zs ≡ xs ++ (a ++ b)
joined xs ys zs a b first second = second ∙ ap (λ f. f ++ b) first ∙ append_assoc xs a b

-- an address of at most 8 bytes is filled up to 8
pub filled : (address : List ℕ) → length address ≤ 8 → length (address ++ replicate (8 - length address) 0) ≡ 8
filled address short =
    length-append address (replicate (8 - length address) 0) ∙ ap (λ n. length address + n) (length-replicate (8 - length address) 0) ∙ omega arith

-- Linux puts 20 bytes before a packet
pub before : (p : CarriedValue) → length p.address ≤ 8 → length (link_header p) ≡ 20
before p short = ap (λ n. suc (suc (suc (suc (suc (suc (suc (suc (suc (suc (suc (suc n)))))))))))) (filled p.address short)
