-- `card::tlv::header_of` meets its contract: the first bytes pick the size of the tag. Assumes nothing.
use mathlib.Core.Path.{◌≡◌, sym, ◌∙◌}
use mathlib.Core.List.{List}
use Prim.Native.Nat.{ℕ, ◌+◌, ◌*◌, ◌%◌, ◌≤◌, ◌<◌}
use native.Mathlib.Omega.{arith}
use borrow.Author.Tests.{eq-eqb, ne_eqb, lt-ltb, le-ltb}
use lib.ListN.{get_or}
use Rattle.card.specs.Tlv.{tag_size, tag_number, nested_bit, after_tag, header_of}
use Rattle.std.specs.Prelude.{None}
use Rattle.card.proofs.tlv.header_of.Goals as goal

-- the definition, size by size
module _ (s : List ℕ) {a : ℕ} (e : a ≡ get_or s 0 0) where
  one : (a % 32 ≡ 31 → ⊥) → after_tag s 1 a (nested_bit a) ≡ header_of s
  unfolding header_of tag_size tag_number
  one h = simp (sym e, ne_eqb (a % 32) 31 h)

  two : {b : ℕ} → a % 32 ≡ 31 → b < 128 → b ≡ get_or s 1 0 → after_tag s 2 (a * 256 + b) (nested_bit a) ≡ header_of s
  unfolding header_of tag_size tag_number
  two {b} h k f = simp (sym e, sym f, eq-eqb (a % 32) 31 h, lt-ltb b 128 k)

  three : {b c : ℕ} → a % 32 ≡ 31 → 128 ≤ b → c < 128 → b ≡ get_or s 1 0 → c ≡ get_or s 2 0
      → after_tag s 3 (a * 65536 + b * 256 + c) (nested_bit a) ≡ header_of s
  unfolding header_of tag_size tag_number
  three {b} {c} h j k f g = simp (sym e, sym f, sym g, eq-eqb (a % 32) 31 h, le-ltb b 128 j, lt-ltb c 128 k)

  none : {b c : ℕ} → a % 32 ≡ 31 → 128 ≤ b → 128 ≤ c → b ≡ get_or s 1 0 → c ≡ get_or s 2 0 → None ≡ header_of s
  unfolding header_of tag_size
  none {b} {c} h j k f g = simp (sym e, sym f, sym g, eq-eqb (a % 32) 31 h, le-ltb b 128 j, le-ltb c 128 k)

pub returns-then-a-ne31 : goal.returns-then-a-ne31
returns-then-a-ne31 c = c.after_tag.ensures ∙ rw c.from.ensures (one c.args.s.now c.byte-a.ensures c.if-a-ne31.true)

pub returns-then-b-lt128 : goal.returns-then-b-lt128
returns-then-b-lt128 c =
    c.after_tag-then-b-lt128.ensures ∙ rw (c.from-then-b-lt128.ensures, c.from_be_bytes.ensures) (two c.args.s.now c.byte-a.ensures c.if-a-ne31.false c.if-b-lt128.true c.byte-b.ensures)

pub returns-then-c-lt128 : goal.returns-then-c-lt128
returns-then-c-lt128 c =
    let low : c.byte-c.result < 128 = omega arith in
    let tag : c.from_be_bytes-then-c-lt128.result ≡ c.byte-a.result * 65536 + c.byte-b.result * 256 + c.byte-c.result = omega (arith, c.from_be_bytes-then-c-lt128.ensures) in
    c.after_tag-then-c-lt128.ensures ∙ rw tag (three _ c.byte-a.ensures c.if-a-ne31.false c.if-b-lt128.false low c.byte-b.ensures c.byte-c.ensures)

pub returns-else-c-lt128 : goal.returns-else-c-lt128
returns-else-c-lt128 c = none _ c.byte-a.ensures c.if-a-ne31.false c.if-b-lt128.false c.if-c-lt128.false c.byte-b.ensures c.byte-c.ensures
