-- Texts put together of parts, how long they are, and a number below 1,000 in decimal.
-- Assumes nothing.
use mathlib.Core.Path.{◌≡◌, refl, ap, ◌∙◌}
use mathlib.Core.Bool.{Bool, true, false, cond}
use mathlib.Core.List.{List, [], ◌∷◌, ◌++◌}
use Prim.Native.Nat.{ℕ, ◌+◌, ◌/◌, ◌%◌, ◌≤◌, ◌<◌}
use native.Mathlib.Omega.{arith}
use borrow.Author.Tests.{ltb-true, ltb-false}
use lib.Dec.{ltb}
use lib.ListN.{length, length-append}
use Rattle.append.specs.Append.{added, number_text}
use Rattle.append.proofs.AppendLaws.{added_on, added_all, number_small, number_large}
use Rattle.session.specs.Tables.{since, stamp_size}
use Rattle.text.specs.Hex.{hex_of}
use Rattle.text.proofs.HexLaws.{length_hex}
use Rattle.gate_lines.specs.Gate.{Reply, decimal_digit, decimal_text, refused_head, closing, refused_text, reply_text, text_size, stamp_opens}

-- ---- a number in decimal

-- a number below 1,000 has the digits that the definition of `(refused N)` has
pub number_decimal : (n : ℕ) → n < 1000 → number_text n ≡ decimal_text n
unfolding decimal_text
number_decimal n h = by (ltb n 10) (ltb n 100) refl refl
  where
    large : 10 ≤ n → number_text n ≡ number_text (n / 10) ++ ((48 + n % 10) ∷ [])
    large l = number_large n l (omega (arith, h))

    small : (x : ℕ) → x < 10 → number_text x ≡ decimal_digit x ∷ []
    small x l = let e : x ≡ x % 10 = omega (arith, l) in number_small x l ∙ ap (λ (y : ℕ). (48 + y) ∷ []) e

    by : (a b : Bool) → ltb n 10 ≡ a → ltb n 100 ≡ b → number_text n
        ≡ cond a (decimal_digit n ∷ []) (cond b (decimal_digit (n / 10) ∷ decimal_digit n ∷ []) (decimal_digit (n / 100) ∷ decimal_digit (n / 10) ∷ decimal_digit n ∷ []))
    by true b p q = small n (ltb-true n 10 p)
    by false true p q =
        let l = ltb-true n 100 q in
        large (ltb-false n 10 p) ∙ ap (λ (t : List ℕ). t ++ (decimal_digit n ∷ [])) (small (n / 10) (omega (arith, l)))
    by false false p q =
        let l = ltb-false n 100 q in
        let e : n / 10 / 10 ≡ n / 100 = omega arith in
        let tens : number_text (n / 10) ≡ decimal_digit (n / 100) ∷ decimal_digit (n / 10) ∷ [] =
        number_large (n / 10) (omega (arith, l)) (omega (arith, h)) ∙ ap (λ (t : List ℕ). t ++ (decimal_digit (n / 10) ∷ [])) (ap number_text e ∙ small (n / 100) (omega (arith, h))) in
        large (ltb-false n 10 p) ∙ ap (λ (t : List ℕ). t ++ (decimal_digit n ∷ [])) tens

-- ---- three parts

-- the parts of a text that has room for all three
pub three_parts : (n : ℕ) (a b c : List ℕ) {t x y z : List ℕ} → t ≡ [] → x ≡ added n t a → y ≡ added n x b → z ≡ added n y c → length (a ++ b ++ c) ≤ n → z ≡ a ++ b ++ c
three_parts n a b c d e f g h =
    g ∙ ap (λ (t : List ℕ). added n t c) (f ∙ ap (λ (t : List ℕ). added n t b) (e ∙ ap (λ (t : List ℕ). added n t a) d) ∙ added_on n [] a b) ∙ added_on n [] (a ++ b) c ∙ added_all n [] (a ++ b ++ c) (omega (arith, h))

-- ---- how long a text is

-- the text of a refusal has at most 14 bytes
pub text_room : 14 ≤ text_size
unfolding text_size stamp_size
text_room = omega arith

length_decimal : (n : ℕ) → length (decimal_text n) ≤ 3
unfolding decimal_text
length_decimal n = by (ltb n 10) (ltb n 100)
  where
    by : (a b : Bool) → length (cond a (decimal_digit n ∷ []) (cond b (decimal_digit (n / 10) ∷ decimal_digit n ∷ []) (decimal_digit (n / 100) ∷ decimal_digit (n / 10) ∷ decimal_digit n ∷ []))) ≤ 3
    by true b = omega arith
    by false true = omega arith
    by false false = omega arith

pub refused_fits : (n : ℕ) → length (refused_head ++ decimal_text n ++ closing) ≤ text_size
refused_fits n = omega (arith, text_room, length-append refused_head (decimal_text n), length-append (refused_head ++ decimal_text n) closing, length_decimal n)

-- what a line prints is no longer than the most
pub reply_fits : (r : Reply) → length (reply_text r) + 0 ≤ text_size
unfolding reply_text refused_text
reply_fits Reply.ok = omega (arith, text_room)
reply_fits Reply.bad = omega (arith, text_room)
reply_fits (Reply.refused n) = omega (arith, refused_fits n)

-- and the text of a stamp is the most
pub stamp_fits : (stamp : List ℕ) → length stamp ≡ stamp_size since → length (stamp_opens ++ hex_of stamp ++ closing) ≤ text_size
unfolding text_size
stamp_fits stamp e = omega (arith, e, length_hex stamp, length-append stamp_opens (hex_of stamp), length-append (stamp_opens ++ hex_of stamp) closing)
