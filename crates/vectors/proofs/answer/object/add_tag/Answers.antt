-- `vectors::answer::object::add_tag` meets its contract: as many bytes as the tag needs. Assumes nothing.
use mathlib.Core.Path.{◌≡◌, ap, ◌∙◌}
use mathlib.Core.List.{List, [], ◌∷◌}
use Prim.Native.Nat.{ℕ, ◌/◌, ◌%◌}
use native.Mathlib.Omega.{arith}
use borrow.Author.Tests.{lt-ltb, le-ltb}
use lib.ListN.{take, drop}
use Rattle.common.specs.Lists.{list_of}
use Rattle.card.specs.Tlv.{tag_bytes}
use Rattle.text.specs.Hex.{hex_digit, hex_digit_at, hex_of}
use Rattle.vectors.specs.Out.{with_text}
use Rattle.vectors.proofs.answer.object.add_tag.Goals as goal

-- a byte's digits are those of any number that it is the low byte of
low_byte : (x y z : ℕ) → hex_of (x % 256 ∷ y ∷ z ∷ []) ≡ hex_of (x ∷ y ∷ z ∷ [])
unfolding hex_of list_of hex_digit_at hex_digit
low_byte x y z =
    let h : x % 256 / 16 % 16 ≡ x / 16 % 16 = omega arith in
    let l : x % 256 % 16 ≡ x % 16 = omega arith in
    rw (h, l)

pub returns-then-tag-lt256 : goal.returns-then-tag-lt256
unfolding tag_bytes
returns-then-tag-lt256 c =
    let e : c.args.tag % 256 ≡ c.args.tag = omega (arith, c.if-tag-lt256.true) in
    rw (lt-ltb _ _ c.if-tag-lt256.true)
    (c.add_hex.ensures ∙ ap (λ (l : List ℕ). with_text c.args.out.now (hex_of (take 1 (drop 7 l)))) c.to_be_bytes-bytes.ensures
    ∙ ap (λ (x : ℕ). with_text c.args.out.now (hex_of (x ∷ []))) e)

pub returns-then-tag-lt65536 : goal.returns-then-tag-lt65536
unfolding tag_bytes
returns-then-tag-lt65536 c =
    let e : c.args.tag / 256 % 256 ≡ c.args.tag / 256 = omega (arith, c.if-tag-lt65536.true) in
    rw (le-ltb _ _ c.if-tag-lt256.false, lt-ltb _ _ c.if-tag-lt65536.true)
    (c.add_hex-then-tag-lt65536.ensures ∙ ap (λ (l : List ℕ). with_text c.args.out.now (hex_of (take 2 (drop 6 l)))) c.to_be_bytes-bytes.ensures
    ∙ ap (λ (x : ℕ). with_text c.args.out.now (hex_of (x ∷ c.args.tag % 256 ∷ []))) e)

pub returns-else-tag-lt65536 : goal.returns-else-tag-lt65536
unfolding tag_bytes
returns-else-tag-lt65536 c =
    rw (le-ltb _ _ c.if-tag-lt256.false, le-ltb _ _ c.if-tag-lt65536.false)
    (c.add_hex-else-tag-lt65536.ensures ∙ ap (λ (l : List ℕ). with_text c.args.out.now (hex_of (take 3 (drop 5 l)))) c.to_be_bytes-bytes.ensures
    ∙ ap (with_text c.args.out.now) (low_byte _ _ _))
