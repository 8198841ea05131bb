-- Numbers and their digits to a base: each digit is found again, and digits may be grouped into digits to a higher
-- base.
-- Assumes nothing.
use mathlib.Core.Path.{◌≡◌, refl, sym, ap, ap₂, ◌∙◌}
use Prim.Native.Nat.{ℕ, zero, suc, ◌+◌, ◌-◌, ◌*◌, ◌/◌, ◌%◌, ◌^◌, ◌≤◌, ◌<◌}
use native.Mathlib.Nat.{le_step, le_refl, add-zero, add-suc, mul-zero, mul-suc, mul-one, pow-zero, pow-suc, pow-succ', add_assoc, add-mul, mul_assoc, lt_of_lt_of_le, mul-le-mul_right, pow-le-pow_right, mul-add-div_right, div-eq_of_lt, mul-add-mod_self_right, mod-eq_of_lt, div-one, div-add-mod', div-div-eq-div-mul, suc-mul, sub_self, mod-lt, mod-one, one-le-pow}
use native.Mathlib.Numerals.{add-one}
use native.Mathlib.Omega.{arith}
use lib.Dec.{lit<}
use lib.Pow.{pow-add}
use Rattle.common.specs.Lists.{number}

pub number_ext : (b n : ℕ) {f g : ℕ → ℕ} → ((i : ℕ) → i < n → f i ≡ g i) → number b n f ≡ number b n g
unfolding number
number_ext b zero h = refl
number_ext b (suc n) h = ap₂ (λ (x y : ℕ). x * b + y) (number_ext b n (λ i l. h i (le_step l))) (h n (le_refl (suc n)))

-- w is below p, and x below b
step_lt : (w p b x : ℕ) → w < p → x < b → w * b + x < p * b
step_lt w p b x h k = let l : suc w * b ≤ p * b = mul-le-mul_right b h in omega (arith, suc-mul w b)

pub number_lt : (b n : ℕ) (f : ℕ → ℕ) → ((i : ℕ) → i < n → f i < b) → number b n f < b ^ n
unfolding number
number_lt b zero f h = rw pow-zero (lit< tt)
number_lt b (suc n) f h = rw pow-suc (step_lt (number b n f) (b ^ n) b (f n) (number_lt b n f (λ i l. h i (le_step l))) (h n (le_refl (suc n))))

-- the last m of n + m digits
pub number_append : (b n m : ℕ) (f : ℕ → ℕ) → number b (n + m) f ≡ number b n f * b ^ m + number b m (λ j. f (n + j))
unfolding number
number_append b n zero f = rw (add-zero, pow-zero, mul-one) (sym (add-zero _))
number_append b n (suc m) f =
    rw (add-suc, number_append b n m f, pow-suc, add-mul, add_assoc, mul_assoc)

-- m digits to the base b are one to the base b ^ m
pub number_group : (b m n : ℕ) (f : ℕ → ℕ) → number (b ^ m) n (λ k. number b m (λ j. f (m * k + j))) ≡ number b (m * n) f
unfolding number
number_group b m zero f = rw mul-zero
number_group b m (suc n) f = rw (mul-suc, number_append b (m * n) m f, number_group b m n f)

-- a number w before m digits, without those
before-digits : (b m w x : ℕ) → x < b ^ m → (w * b ^ m + x) / b ^ m ≡ w
before-digits b m w x h = mul-add-div_right (omega arith) w x ∙ rw (div-eq_of_lt h) (add-zero w)

-- digit i, counted from the first, of n
pub number_digit : (b n : ℕ) (f : ℕ → ℕ) → ((i : ℕ) → i < n → f i < b) → (i : ℕ) → i < n → number b n f / b ^ (n - suc i) % b ≡ f i
unfolding number
number_digit b n f h i l =
    let r = n - suc i in
    let e : n ≡ suc i + r = omega arith in
    let q : number b n f ≡ number b (suc i) f * b ^ r + number b r (λ j. f (suc i + j)) = ap (λ (n : ℕ). number b n f) e ∙ number_append b (suc i) r f in
    rw (q, before-digits b r (number b (suc i) f) (number b r (λ j. f (suc i + j))) (number_lt b r (λ j. f (suc i + j)) (λ j k. h (suc i + j) (omega arith))))
    (mul-add-mod_self_right (number b i f) b (f i) ∙ mod-eq_of_lt (h i l))

-- the last digit of n + 1, and those before it
mod_step : (b p x : ℕ) → 0 < b → 0 < p → x / b % p * b + x % b ≡ x % (p * b)
mod_step b p x h k =
    let q = x / b in
    let e : x ≡ q / p * (p * b) + (q % p * b + x % b) =
    sym (div-add-mod' x b) ∙ rw (← add_assoc, ← mul_assoc, ← add-mul) (ap (λ (y : ℕ). y * b + x % b) (sym (div-add-mod' q p))) in
    sym (ap (λ (y : ℕ). y % (p * b)) e ∙ mul-add-mod_self_right (q / p) (p * b) (q % p * b + x % b)
    ∙ mod-eq_of_lt (step_lt (q % p) p b (x % b) (mod-lt q k) (mod-lt x h)))

-- the last n digits of a number
pub number-mod : (b n x : ℕ) → 0 < b → number b n (λ i. x / b ^ (n - suc i) % b) ≡ x % b ^ n
unfolding number
number-mod b zero x p = rw pow-zero (sym (mod-one x))
number-mod b (suc n) x p =
    let e : number b n (λ i. x / b ^ (suc n - suc i) % b) ≡ x / b % b ^ n =
    number_ext b n (λ i k. ap (λ (y : ℕ). y % b) (shorter i k)) ∙ number-mod b n (x / b) p in
    rw (e, sub_self, pow-zero, div-one, pow-suc) (mod_step b (b ^ n) x p (one-le-pow n b p))
  where
    shorter : (i : ℕ) → i < n → x / b ^ (suc n - suc i) ≡ x / b / b ^ (n - suc i)
    shorter i k = let m : suc n - suc i ≡ suc (n - suc i) = omega arith in rw (m, pow-succ', div-div-eq-div-mul)

pub pow-mul : (b m n : ℕ) → (b ^ m) ^ n ≡ b ^ (m * n)
pow-mul b m zero = rw (mul-zero, pow-zero, pow-zero)
pow-mul b m (suc n) = rw (pow-suc, pow-mul b m n, mul-suc, pow-add)

-- `1u64 << bits`
pub one_shifted : (bits : ℕ) → bits ≤ 63 → 1 * 2 ^ bits % 18446744073709551616 ≡ 2 ^ bits
one_shifted bits h = let l : 2 ^ bits ≤ 2 ^ 63 = pow-le-pow_right {n = 2} (lit< tt) h in omega (arith, l)

-- ---- a loop that reads digits

pub number_more : (b : ℕ) (f : ℕ → ℕ) (i : ℕ) {w : ℕ} → w ≡ number b i f → w * b + f i ≡ number b (i + 1) f
unfolding number
number_more b f i p = rw (add-one, p)

-- while digits are left to read, the number with one more is below b ^ n
pub number_room : (b n : ℕ) (f : ℕ → ℕ) → 0 < b → ((i : ℕ) → f i < b) → (i : ℕ) {w : ℕ} → i < n → w ≡ number b i f → w * b + f i < b ^ n
unfolding number
number_room b n f p h i l e =
    rw e (lt_of_lt_of_le (number_lt b (suc i) f (λ j k. h j)) (pow-le-pow_right {n = b} p {i = suc i} {j = n} l))
