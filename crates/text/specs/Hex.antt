-- Bytes in hexadecimal (document 01: "HEX is one or more pairs of upper-case digits"), read and written.
-- Assumes nothing.
use Rattle.std.specs.Prelude.{Bool, cond, ◌&&◌, List, ℕ, ◌+◌, ◌*◌, ◌-◌, ◌/◌, ◌%◌, eqb, leb, ltb, length, get_or}
use Rattle.common.specs.Lists.{list_of, all}

-- The value of an upper-case hexadecimal digit, 0 to 9 or A to F in ASCII; 16 for any other byte.
unfoldable pub digit_value : ℕ → ℕ
digit_value x = cond (leb 48 x && leb x 57) (x - 48) (cond (leb 65 x && leb x 70) (x - 55) 16)

-- Pairs of digits, any number of them.
unfoldable pub is_hex : List ℕ → Bool
is_hex s = all (length s) (λ i. ltb (digit_value (get_or s i 0)) 16) && eqb (length s % 2) 0

-- The byte that pair i spells, and the bytes that all pairs do.
unfoldable pub byte_at : List ℕ → ℕ → ℕ
byte_at s i = digit_value (get_or s (2 * i) 0) % 16 * 16 + digit_value (get_or s (2 * i + 1) 0) % 16

unfoldable pub bytes_in : List ℕ → List ℕ
bytes_in s = list_of (length s / 2) (byte_at s)

-- The other way: the digit of x % 16, and the digits of the bytes s, two a byte, the higher first.
unfoldable pub hex_digit : ℕ → ℕ
hex_digit x = cond (ltb (x % 16) 10) (x % 16 + 48) (x % 16 + 55)

unfoldable pub hex_digit_at : List ℕ → ℕ → ℕ
hex_digit_at s i = cond (eqb (i % 2) 0) (hex_digit (get_or s (i / 2) 0 / 16)) (hex_digit (get_or s (i / 2) 0))

unfoldable pub hex_of : List ℕ → List ℕ
hex_of s = list_of (2 * length s) (hex_digit_at s)
