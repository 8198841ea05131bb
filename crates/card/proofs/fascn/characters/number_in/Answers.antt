-- `card::fascn::characters::number_in` meets its contract: a turn adds a digit to the base. Assumes nothing.
use mathlib.Core.Path.{◌≡◌, refl}
use mathlib.Core.List.{List}
use Prim.Native.Nat.{ℕ, ◌+◌, ◌*◌, ◌%◌, ◌^◌, ◌≤◌, ◌<◌}
use native.Mathlib.Nat.{mod-lt, pow-le-pow_right}
use native.Mathlib.Omega.{arith}
use borrow.Author.Rules.{rules}
use lib.Dec.{lit<}
use lib.ListN.{length, get_or}
use lib.Pow.{pow_pos}
use Rattle.common.specs.Lists.{number}
use Rattle.common.proofs.NumberLaws.{number_more, number_room, pow-mul, one_shifted}
use Rattle.card.proofs.fascn.characters.number_in.Goals as goal

-- the number with digit j fits 64 bits
room : (s : List ℕ) (bits j : ℕ) {w : ℕ} → bits * length s < 64 → j < length s → w ≡ number (2 ^ bits) j (λ i. get_or s i 0 % 2 ^ bits)
    → w * 2 ^ bits + get_or s j 0 % 2 ^ bits < 2 ^ 64
room s bits j {w} r h e =
    let p : 0 < 2 ^ bits = pow_pos bits in
    let k : w * 2 ^ bits + get_or s j 0 % 2 ^ bits < 2 ^ (bits * length s) =
    rw (pow-mul 2 bits (length s)) at (number_room (2 ^ bits) (length s) (λ i. get_or s i 0 % 2 ^ bits) p (λ i. mod-lt _ p) j h e) in
    let l : 2 ^ (bits * length s) ≤ 2 ^ 63 = pow-le-pow_right {n = 2} (lit< tt) {i = bits * length s} {j = 63} (omega (arith, r)) in
    omega (arith, k, l)

pub loop-x-init : goal.loop-x-init
unfolding number
loop-x-init c = refl

pub overflow_mul-w : goal.overflow_mul-w
overflow_mul-w c = rw (one_shifted c.args.bits (omega arith)) (omega (arith, room c.args.s.now c.args.bits c.loop-x.x-index c.requires.1 (search rules) c.loop-x.invariant))

pub overflow_add-w : goal.overflow_add-w
overflow_add-w c =
    rw (one_shifted c.args.bits (omega arith), c.from.ensures) (omega (arith, room c.args.s.now c.args.bits c.loop-x.x-index c.requires.1 (search rules) c.loop-x.invariant))

pub loop-x-preserved : goal.loop-x-preserved
loop-x-preserved c =
    rw (one_shifted c.args.bits (omega arith), c.from.ensures)
    (number_more (2 ^ c.args.bits) (λ i. get_or c.args.s.now i 0 % 2 ^ c.args.bits) c.loop-x.x-index c.loop-x.invariant)
