-- `card::tlv::after_tag` meets its contract: the first byte of the length picks its form. Assumes nothing.
use mathlib.Core.Path.{◌≡◌, sym, ◌∙◌}
use mathlib.Core.Bool.{Bool}
use mathlib.Core.List.{List}
use Prim.Native.Nat.{ℕ, ◌+◌, ◌*◌, ◌≤◌, ◌<◌}
use native.Mathlib.Omega.{arith}
use borrow.Author.Tests.{eq-eqb, ne_eqb, lt-ltb, le-ltb}
use lib.ListN.{get_or}
use Rattle.card.specs.Tlv.{length_size, length_of, ending_of, after_tag}
use Rattle.std.specs.Prelude.{None}
use Rattle.card.proofs.tlv.after_tag.Goals as goal

-- the definition, form by form
module _ (s : List ℕ) (t tag : ℕ) (nested : Bool) {a : ℕ} (e : a ≡ get_or s t 0) where
  one : a < 0x80 → ending_of s tag nested (t + 1) a ≡ after_tag s t tag nested
  unfolding after_tag length_size length_of
  one h = simp (sym e, lt-ltb a 0x80 h)

  two : {b : ℕ} → 0x80 ≤ a → a ≡ 0x81 → b ≡ get_or s (t + 1) 0 → ending_of s tag nested (t + 2) b ≡ after_tag s t tag nested
  unfolding after_tag length_size length_of
  two h k f = simp (sym e, sym f, le-ltb a 0x80 h, eq-eqb a 0x81 k)

  three : {b c : ℕ} → 0x80 ≤ a → (a ≡ 0x81 → ⊥) → a ≡ 0x82 → b ≡ get_or s (t + 1) 0 → c ≡ get_or s (t + 2) 0
      → ending_of s tag nested (t + 3) (b * 256 + c) ≡ after_tag s t tag nested
  unfolding after_tag length_size length_of
  three h j k f g = simp (sym e, sym f, sym g, le-ltb a 0x80 h, ne_eqb a 0x81 j, eq-eqb a 0x82 k)

  none : 0x80 ≤ a → (a ≡ 0x81 → ⊥) → (a ≡ 0x82 → ⊥) → None ≡ after_tag s t tag nested
  unfolding after_tag length_size
  none h j k = simp (sym e, le-ltb a 0x80 h, ne_eqb a 0x81 j, ne_eqb a 0x82 k)

pub returns-in-0-to-127 : goal.returns-in-0-to-127
returns-in-0-to-127 c = c.ending-in-0-to-127.ensures ∙ rw c.from-in-0-to-127.ensures (one c.args.s.now c.args.t c.args.tag c.args.nested c.byte-a.ensures (omega arith))

pub returns-in-129 : goal.returns-in-129
returns-in-129 c = c.ending.ensures ∙ rw c.from.ensures (two c.args.s.now c.args.t c.args.tag c.args.nested c.byte-a.ensures (omega arith) c.in-129.is c.byte.ensures)

pub returns-in-130 : goal.returns-in-130
returns-in-130 c =
    c.ending-in-130.ensures ∙ rw (c.from-in-130.ensures, c.from_be_bytes.ensures) (three c.args.s.now c.args.t c.args.tag c.args.nested c.byte-a.ensures (omega arith) (λ k. omega arith) c.in-130.is c.byte-high.ensures c.byte-low.ensures)

pub returns-in_default : goal.returns-in_default
returns-in_default c = none _ _ _ _ c.byte-a.ensures (grind arith) (λ k. grind arith) (λ k. grind arith)
