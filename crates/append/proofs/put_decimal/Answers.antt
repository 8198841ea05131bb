-- `append::put_decimal` meets its contract: a turn stores the last digit of what is left of the number. Assumes nothing.
use mathlib.Core.Path.{◌≡◌, sym, ap, ◌∙◌}
use mathlib.Core.List.{List, [], ◌∷◌, ◌++◌, append-nil, append_assoc}
use Prim.Native.Nat.{ℕ, zero, suc, ◌+◌, ◌-◌, ◌*◌, ◌/◌, ◌%◌, ◌^◌, ◌≤◌, ◌<◌}
use native.Mathlib.Nat.{pow-suc}
use native.Mathlib.Numerals.{add-one}
use native.Mathlib.Omega.{arith}
use borrow.Author.Tests.{lt-ltb, le-ltb}
use lib.ListN.{length, drop, set, drop_of_length-le}
use Rattle.std.proofs.lemmas.List.{drop-set}
use Rattle.append.specs.Append.{number_text, decimal_last}
use Rattle.append.proofs.put_decimal.Goals as goal

-- where 10 or more is left, there is room for more digits than one
room : (k n : ℕ) → 10 ≤ n → n < 10 ^ (k + 1) → 0 < k
room zero n h l = absurd (omega (arith, l))
room (suc k) n h l = omega arith

less : (k n : ℕ) → n < 10 ^ (k + 1) → n / 10 < 10 ^ k
less k n h = let e : 10 ^ (k + 1) ≡ 10 ^ k * 10 = rw add-one (pow-suc 10 k) in omega (arith, e, h)

-- a digit is stored: the last of those that are left, or the only one
turn : (d : List ℕ) (k n : ℕ) → 10 ≤ n → k < length d → decimal_last k (n / 10) ++ drop k (set d k (48 + n % 10)) ≡ decimal_last (k + 1) n ++ drop (k + 1) d
unfolding decimal_last
turn d k n h l =
    ap (λ (r : List ℕ). decimal_last k (n / 10) ++ r) (drop-set d k (48 + n % 10) l)
    ∙ sym (append_assoc (decimal_last k (n / 10)) ((48 + n % 10) ∷ []) (drop (k + 1) d))
    ∙ ap (λ (r : List ℕ). r ++ drop (k + 1) d) (rw (add-one, le-ltb n 10 h))

end : (d : List ℕ) (k n : ℕ) → n < 10 → k < length d → drop k (set d k (48 + n)) ≡ decimal_last (k + 1) n ++ drop (k + 1) d
unfolding decimal_last
end d k n h l =
    let e : (48 + n) ∷ [] ≡ decimal_last (k + 1) n = rw (add-one, lt-ltb n 10 h) in
    drop-set d k (48 + n) l ∙ ap (λ (r : List ℕ). r ++ drop (k + 1) d) e

pub loop-rest-init : goal.loop-rest-init
unfolding number_text
loop-rest-init c =
    let short : length c.args.out.now ≤ 20 = omega arith in
    (omega arith, omega arith, rw (drop_of_length-le c.args.out.now short) (append-nil (decimal_last 20 c.args.n)))

pub loop-rest-preserved : goal.loop-rest-preserved
loop-rest-preserved c =
    let p : 0 < c.loop-rest.k = room c.loop-rest.k c.loop-rest.rest (omega arith) c.loop-rest.invariant.1 in
    let e : c.loop-rest.k - 1 + 1 ≡ c.loop-rest.k = omega (arith, p) in
    let l : c.loop-rest.k < length c.loop-rest.out = omega arith in
    rw e (omega arith, less c.loop-rest.k c.loop-rest.rest c.loop-rest.invariant.1, turn c.loop-rest.out c.loop-rest.k c.loop-rest.rest (omega arith) l ∙ c.loop-rest.invariant.2)

pub returns : goal.returns
returns c =
    let l : c.loop-rest.k < length c.loop-rest.out = omega arith in
    record { inside = c.loop-rest.invariant.0; stores = end c.loop-rest.out c.loop-rest.k c.loop-rest.rest (omega arith) l ∙ c.loop-rest.invariant.2 }
