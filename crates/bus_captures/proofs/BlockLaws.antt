-- Blocks of a file, one behind the other.
use Rattle.std.proofs.Common.{◌≡◌, ℕ, ◌+◌, ◌<◌, ◌^◌, ◌++◌, List, length, arith, sym, ◌∙◌, append_assoc, subst}
use Rattle.bus_captures.{specs.declared.format.Order.{Order}, specs.Blocks.{Block, IsBlock, block_bytes}, specs.Numbers.{number_bytes}, proofs.RecordLaws.{four, fronts}}

-- the bytes of a block, and those behind it
abbrev pub flat : Order → ℕ → List ℕ → List ℕ → List ℕ
flat order kind body xs =
    number_bytes order kind ++ (number_bytes order (12 + length body) ++ (body ++ (number_bytes order (12 + length body) ++ xs)))

pub regrouped : (b : Block) (xs : List ℕ) → block_bytes b ++ xs ≡ flat b.order b.kind b.body xs
regrouped b xs = simp append_assoc

one_flat : (order : Order) (k m : ℕ) (bs cs xs ys : List ℕ) → k < 2 ^ 32 → m < 2 ^ 32 → 12 + length bs < 2 ^ 32 → 12 + length cs < 2 ^ 32
    → flat order k bs xs ≡ flat order m cs ys → (k ≡ m) × (bs ≡ cs) × (xs ≡ ys)
one_flat order k m bs cs xs ys hk hm hb hc e =
    let kind = four order k m _ _ hk hm e in
    let count = four order (12 + length bs) (12 + length cs) _ _ hb hc kind.1 in
    let many : length bs ≡ length cs = let h = count.0 in omega arith in
    let body = fronts bs cs _ _ many count.1 in
    let again = four order (12 + length bs) (12 + length cs) _ _ hb hc body.1 in
    (kind.0, body.0, again.1)

same_block : (b c : Block) → b.order ≡ c.order → b.kind ≡ c.kind → b.body ≡ c.body → b ≡ c
same_block b c o k s = λ i. record { order = o i; kind = k i; body = s i }

-- a block of a byte order is known by its bytes
pub one_block : (b c : Block) (xs ys : List ℕ) → IsBlock b → IsBlock c → b.order ≡ c.order → block_bytes b ++ xs ≡ block_bytes c ++ ys → (b ≡ c) × (xs ≡ ys)
one_block b c xs ys hb hc order e =
    let whole : flat b.order b.kind b.body xs ≡ flat c.order c.kind c.body ys = sym (regrouped b xs) ∙ e ∙ regrouped c ys in
    let one = one_flat c.order b.kind c.kind b.body c.body xs ys hb.kind hc.kind hb.count hc.count
    (subst (λ (o : Order). flat o b.kind b.body xs ≡ flat c.order c.kind c.body ys) order whole) in
    (same_block b c order one.0 one.1, one.2)
