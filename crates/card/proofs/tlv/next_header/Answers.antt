-- `card::tlv::next_header` meets its contract: a tag and a length of one byte each. Assumes nothing.
use mathlib.Core.Path.{◌≡◌, sym, ◌∙◌}
use mathlib.Core.List.{List}
use Prim.Native.Nat.{ℕ, ◌%◌, ◌<◌}
use native.Mathlib.Omega.{arith}
use borrow.Author.Tests.{ne_eqb, lt-ltb}
use lib.ListN.{get_or}
use Rattle.card.specs.Tlv.{tag_size, tag_number, length_size, length_of, nested_bit, ending_of, after_tag, header_of}
use Rattle.card.proofs.tlv.next_header.Goals as goal

short : (s : List ℕ) {a n : ℕ} → a ≡ get_or s 0 0 → n ≡ get_or s 1 0 → (a % 32 ≡ 31 → ⊥) → n < 0x80 → ending_of s a (nested_bit a) 2 n ≡ header_of s
unfolding header_of tag_size tag_number after_tag length_size length_of
short s {a} {n} e f h k = simp (sym e, sym f, ne_eqb (a % 32) 31 h, lt-ltb n 0x80 k)

pub returns-then-n-lt128 : goal.returns-then-n-lt128
returns-then-n-lt128 c =
    let low : c.byte-n.result < 0x80 = omega arith in
    c.ending.ensures ∙ rw (c.from.ensures, c.from-then-n-lt128.ensures) (short c.args.s.now c.byte-a.ensures c.byte-n.ensures c.if-a-ne31.true low)
