-- A line of the input: what the test of its form gives, and that its first 1,025 bytes decide.
-- Assumes nothing.
use mathlib.Core.Path.{◌≡◌, refl, ap, ◌∙◌}
use mathlib.Core.Bool.{Bool, true, false, ◌&&◌}
use mathlib.Core.List.{List, [], ◌∷◌, ◌++◌, append_assoc}
use Prim.Native.Nat.{ℕ, suc, ◌+◌, ◌-◌, ◌≤◌}
use native.Mathlib.Omega.{arith}
use borrow.Author.Tests.{leb-true, ltb-true, ltb-false, eqb-true}
use lib.Dec.{eqb, leb, ltb}
use lib.ListN.{length, get_or, take, drop, take-append-drop}
use lib.Seq.{length-take-le, take_all, drop-cons, drop-drop, drop-length}
use Rattle.common.proofs.TestLaws.{and_parts}
use Rattle.text.specs.Hex.{is_hex}
use Rattle.text.specs.Form.{between}
use Rattle.gate_lines.specs.Line.{GateLine, longest, hex_from, headed, line_in}
use Rattle.gate_lines.specs.Input.{most_held}

-- ---- the test of a form

module _ (lowest highest s : List ℕ) (good : headed lowest highest s ≡ true) where
  abbrev n : ℕ
  n = length lowest

  tests : (leb (n + 3) (length s) ≡ true) × (between lowest highest (take n s) && is_hex (hex_from n s) && eqb (get_or s (length s - 1) 0) 0x29 ≡ true)
  unfolding headed
  tests = and_parts (leb (n + 3) (length s)) _ good

  forms : (between lowest highest (take n s) && is_hex (hex_from n s) ≡ true) × (eqb (get_or s (length s - 1) 0) 0x29 ≡ true)
  forms = and_parts (between lowest highest (take n s) && is_hex (hex_from n s)) _ tests.1

  -- after the head stand one pair of digits or more, and `)`
  pub headed_room : n + 3 ≤ length s
  headed_room = leb-true (n + 3) (length s) tests.0

  pub headed_form : between lowest highest (take n s) ≡ true
  headed_form = (and_parts (between lowest highest (take n s)) (is_hex (hex_from n s)) forms.0).0

  pub headed_hex : is_hex (hex_from n s) ≡ true
  headed_hex = (and_parts (between lowest highest (take n s)) (is_hex (hex_from n s)) forms.0).1

  -- the line is its head, HEX and `)`
  pub headed_parts : take n s ++ hex_from n s ++ (0x29 ∷ []) ≡ s
  unfolding hex_from
  headed_parts =
      let k = length s - (n + 1) in
      let e : n + k ≡ length s - 1 = omega (arith, headed_room) in
      let f : suc (length s - 1) ≡ length s = omega (arith, headed_room) in
      let last : drop k (drop n s) ≡ 0x29 ∷ [] =
      drop-drop k n s ∙ rw (e, drop-cons s (length s - 1) 0 (omega (arith, headed_room)), f, drop-length s, eqb-true (get_or s (length s - 1) 0) 0x29 forms.1) in
      rw (← last, append_assoc, take-append-drop k (drop n s)) (take-append-drop n s)

-- ---- what is held of a long line

-- a line of more than 1,024 bytes is bad, and one byte more than that is held
pub line_held : (s : List ℕ) → line_in (take most_held s) ≡ line_in s
unfolding line_in
line_held s = by (ltb longest (length s)) refl
  where
    by : (b : Bool) → ltb longest (length s) ≡ b → line_in (take most_held s) ≡ line_in s
    by true e = rw (length-take-le most_held s (ltb-true longest (length s) e), e)
    by false e = ap line_in (take_all most_held s (omega (arith, ltb-false longest (length s) e)))

-- a line that is not bad has at most 1,024 bytes
pub line_short : (s : List ℕ) → (line_in s ≡ GateLine.bad → ⊥) → length s ≤ longest
unfolding line_in
line_short s n = by (ltb longest (length s)) refl
  where
    by : (b : Bool) → ltb longest (length s) ≡ b → length s ≤ longest
    by true e = absurd (n (rw e))
    by false e = ltb-false longest (length s) e
