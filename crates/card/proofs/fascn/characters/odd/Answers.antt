-- `card::fascn::characters::odd` meets its contract: the ones of five bits, counted by the library. Assumes nothing.
use mathlib.Core.Path.{◌≡◌, refl, ap, ◌∙◌}
use Prim.Native.Nat.{ℕ, zero, suc, ◌+◌, ◌/◌, ◌%◌, ◌^◌, ◌<◌}
use native.Mathlib.Nat.{pow-zero, pow-suc}
use native.Mathlib.Omega.{arith}
use lib.Dec.{eqb, lit<}
use Rattle.std.specs.Int.Count.{ones, ones_in}
use Rattle.card.proofs.fascn.characters.odd.Goals as goal

-- digits enough: any count of them gives the same
none_in : (d : ℕ) → ones_in d 0 ≡ 0
unfolding ones_in
none_in zero = refl
none_in (suc d) = omega (arith, none_in d)

enough : (d e n : ℕ) → n < 2 ^ d → n < 2 ^ e → ones_in d n ≡ ones_in e n
unfolding ones_in
enough zero e n h k = let z : n ≡ 0 = omega (arith, rw pow-zero at h) in rw (z, none_in e)
enough (suc d) zero n h k = let z : n ≡ 0 = omega (arith, rw pow-zero at k) in rw (z, none_in d)
enough (suc d) (suc e) n h k =
    let a : n / 2 < 2 ^ d = omega (arith, rw pow-suc at h) in
    let b : n / 2 < 2 ^ e = omega (arith, rw pow-suc at k) in
    ap (λ (m : ℕ). n % 2 + m) (enough d e (n / 2) a b)

self_lt : (n : ℕ) → n < 2 ^ n
self_lt zero = lit< tt
self_lt (suc n) = rw pow-suc (omega (arith, self_lt n))

five : (n : ℕ) → n < 32 → ones n ≡ n / 16 % 2 + n / 8 % 2 + n / 4 % 2 + n / 2 % 2 + n % 2
unfolding ones ones_in
five n h = enough n 5 n (self_lt n) h ∙ omega arith

pub returns : goal.returns
returns c =
    let e : ones (c.args.c % 32) ≡ c.args.c / 16 % 2 + c.args.c / 8 % 2 + c.args.c / 4 % 2 + c.args.c / 2 % 2 + c.args.c % 2 =
    five (c.args.c % 32) (omega arith) ∙ omega arith in
    ap (λ (n : ℕ). eqb (n % 2) 1) e
