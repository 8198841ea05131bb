-- Decimal digits in ASCII: the number that they spell, and the digits of a number.
-- Assumes nothing.
use Rattle.std.specs.Prelude.{Bool, ◌&&◌, List, map, ℕ, ◌+◌, ◌-◌, ◌/◌, ◌%◌, ◌^◌, leb, get_or}
use Rattle.common.specs.Lists.{list_of, number}

-- Byte i of s is an ASCII digit, 30 to 39.
unfoldable pub is_digit_at : List ℕ → ℕ → Bool
is_digit_at s i = leb 0x30 (get_or s i 0) && leb (get_or s i 0) 0x39

-- The values of ASCII digits: the low four bits of each.
abbrev pub digit_values : List ℕ → List ℕ
digit_values s = map (λ x. x % 16) s

-- The number that the first n bytes of s spell, each by its value.
unfoldable pub spelled : ℕ → List ℕ → ℕ
spelled n s = number 10 n (λ j. get_or s j 0 % 16)

-- The other way: digit k of the n digits of x, digit 0 the highest; and all n of them.
unfoldable pub digit_of : ℕ → ℕ → ℕ → ℕ
digit_of n x k = 0x30 + x / 10 ^ (n - 1 - k) % 10

unfoldable pub digits_of : ℕ → ℕ → List ℕ
digits_of n x = list_of n (digit_of n x)
