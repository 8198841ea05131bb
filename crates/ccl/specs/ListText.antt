-- A list's text and its keys (document 01, "List read", "List write"): "20 malformed line, with the first such line's
-- number, counted from 1; 21 output with fewer places than keys"; "22 a key of 10^16 or more; 21 output under 32 bytes
-- a key. Both give the count of keys, and places past the last key stay."
-- Assumes nothing.
use Rattle.std.specs.Prelude.{◌≡◌, refl, Bool, false, cond, not, List, [], ◌∷◌, ◌++◌, ℕ, ◌+◌, ◌*◌, ◌/◌, eqb, ltb, length, get_or, take, drop, Result, Ok, Err}
use Rattle.common.specs.Lists.{all, passing, over_front, written}
use Rattle.common.specs.Refusal.{refusal_of, number_in, answer_in}
use Rattle.ccl.specs.Line.{key_limit, good_line, line_key, line_of}
use Rattle.ccl.specs.declared.list.ReadError.{ReadError}
use Rattle.ccl.specs.declared.list.ReadError.TheVariants as read-errors
use Rattle.ccl.specs.declared.list.WriteError.{WriteError}
use Rattle.ccl.specs.declared.list.WriteError.TheVariants as write-errors

-- ---- lines

abbrev pub line_size : ℕ
line_size = 32

-- Line i of the text, counted from 0, where those before it are good: each has 32 bytes.
unfoldable pub line_at : List ℕ → ℕ → List ℕ
line_at text i = take line_size (drop (line_size * i) text)

-- How many good lines the text begins with.
unfoldable pub good_lines : List ℕ → ℕ
good_lines text = passing (length text / line_size) (λ i. good_line (line_at text i))

-- Every line is good: nothing follows the good lines.
unfoldable pub well_formed : List ℕ → Bool
well_formed text = eqb (line_size * good_lines text) (length text)

-- The key of line i.
unfoldable pub key_at : List ℕ → ℕ → ℕ
key_at text i = line_key (line_at text i)

-- ---- read

unfoldable pub read_refusal : List ℕ → ℕ → ℕ
read_refusal text room = refusal_of ((20, not (well_formed text)) ∷ (21, ltb room (good_lines text)) ∷ [])

-- Beside 0 the count of keys, beside 20 the number of the first malformed line, beside 21 nothing (0).
abbrev pub beside_read : ℕ → ℕ → ℕ × ℕ
beside_read k lines = (k, cond (eqb k 0) lines (cond (eqb k 20) (lines + 1) 0))

unfoldable pub read_of : List ℕ → ℕ → ℕ × ℕ
read_of text room = beside_read (read_refusal text room) (good_lines text)

-- The places then.
unfoldable pub keys_after : List ℕ → List ℕ → List ℕ
keys_after text keys = cond (eqb (read_refusal text (length keys)) 0) (written keys 0 (good_lines text) (key_at text)) keys

-- ---- write

unfoldable pub small_keys : List ℕ → Bool
small_keys keys = all (length keys) (λ i. ltb (get_or keys i 0) key_limit)

-- "output under 32 bytes a key", compared by division
unfoldable pub write_refusal : List ℕ → ℕ → ℕ
write_refusal keys room = refusal_of ((22, not (small_keys keys)) ∷ (21, ltb (room / line_size) (length keys)) ∷ [])

unfoldable pub write_of : List ℕ → ℕ → ℕ × ℕ
write_of keys room = let k = write_refusal keys room in (k, cond (eqb k 0) (length keys) 0)

-- The lines of the keys, one after another.
unfoldable pub lines_of : List ℕ → List ℕ
lines_of [] = []
lines_of (key ∷ keys) = line_of key ++ lines_of keys

-- The bytes then.
unfoldable pub text_after : List ℕ → List ℕ → List ℕ
text_after keys out = cond (eqb (write_refusal keys (length out)) 0) (over_front (lines_of keys) out) out

-- ---- the answers of the code: document 01's number of each error, and what stands beside it

abbrev pub read_number : ReadError → ℕ
read_number (read-errors.Malformed n) = 20
read_number read-errors.TooFewPlaces = 21

pub read_never_zero : (e : ReadError) → eqb (read_number e) 0 ≡ false
read_never_zero (read-errors.Malformed n) = refl
read_never_zero read-errors.TooFewPlaces = refl

-- the count of keys, the number of the first malformed line, or 0
abbrev pub beside_answer : Result ℕ ReadError → ℕ
beside_answer (Ok n) = n
beside_answer (Err (read-errors.Malformed n)) = n
beside_answer (Err read-errors.TooFewPlaces) = 0

abbrev pub read_answer : Result ℕ ReadError → ℕ × ℕ
read_answer r = (number_in read_number r, beside_answer r)

abbrev pub write_number : WriteError → ℕ
write_number write-errors.ShortBuffer = 21
write_number write-errors.KeyTooLarge = 22

pub write_never_zero : (e : WriteError) → eqb (write_number e) 0 ≡ false
write_never_zero write-errors.ShortBuffer = refl
write_never_zero write-errors.KeyTooLarge = refl

abbrev pub write_answer : Result ℕ WriteError → ℕ × ℕ
write_answer r = answer_in write_number 0 r
