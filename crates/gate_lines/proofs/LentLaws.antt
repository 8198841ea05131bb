-- What a line's calls are lent, which is the bytes that its HEX spells, and keys of cards that are kept, zeros behind them.
-- Assumes nothing.
use mathlib.Core.Path.{◌≡◌, sym, ap, ◌∙◌}
use mathlib.Core.List.{List, [], ◌∷◌, ◌++◌}
use Prim.Native.Nat.{ℕ, ◌+◌, ◌-◌, ◌/◌, ◌≤◌, ◌<◌, min}
use native.Mathlib.Nat.{min-eq_left}
use native.Mathlib.Numerals.{add-one}
use native.Mathlib.Omega.{arith}
use lib.ListN.{length, take, drop, replicate, set, length-append, length-take}
use lib.Seq.{take_at, take-suc-set}
use Rattle.std.proofs.lemmas.List.{drop_at, drop-drop, drop-replicate, drop-set}
use Rattle.common.specs.Lists.{written}
use Rattle.text.specs.Hex.{byte_at, bytes_in}
use Rattle.text.proofs.HexLaws.{front_bytes}
use Rattle.append.specs.Append.{Blank}
use Rattle.append.proofs.LentLaws.{blank, behind}
use Rattle.gate_lines.specs.Line.{longest, hex_from}
use Rattle.gate_lines.specs.LineCode.{HexFits}

-- HEX is no longer than a line
pub hex_short : (head : ℕ) (s digits : List ℕ) → HexFits head s digits → length digits ≤ longest
unfolding hex_from
hex_short head s digits f = omega (arith, ap length f.0, length-take (length s - (head + 1)) (drop head s), f.2)

-- the digits of a line are read whole into a buffer of half the longest line's size
pub bytes_taken : (s d b : List ℕ) (n : ℕ) → length s ≤ longest → length d ≡ longest / 2 → n ≡ min (length s / 2) (length d) → b ≡ written d 0 n (byte_at s) → take n b ≡ bytes_in s
bytes_taken s d b n h l e w =
    let k : n ≡ length s / 2 = e ∙ min-eq_left (omega (arith, h, l)) in
    rw (w, k) (front_bytes s d)

-- a card is kept after those before it
pub card_kept : (n key : ℕ) (cards : List ℕ) → n < length cards → take (n + 1) (set cards n key) ≡ take n cards ++ (key ∷ [])
card_kept n key cards h = rw add-one (take-suc-set cards n key h)

-- and zeros stand behind it, as behind keys that are stored at the front
pub card_blank : (m n key : ℕ) (cards : List ℕ) → Blank m n cards → length cards ≡ m → n < m → Blank m (n + 1) (set cards n key)
card_blank m n key cards b size h =
    let inside : n < length cards = omega (arith, size, h) in
    let long : length (take (n + 1) (set cards n key)) ≡ n + 1 =
    ap length (card_kept n key cards inside) ∙ length-append (take n cards) (key ∷ []) ∙ ap (λ (i : ℕ). i + 1) b.2 in
    let rest : drop (n + 1) (set cards n key) ≡ drop (n + 1) cards = sym (drop-drop 1 n (set cards n key)) ∙ ap (λ (l : List ℕ). drop 1 l) (drop-set cards n key inside) in
    let zeros : drop (n + 1) cards ≡ replicate (m - (n + 1)) 0 =
    sym (drop-drop 1 n cards) ∙ ap (λ (l : List ℕ). drop 1 l) (behind m n cards b) ∙ drop-replicate 1 (m - n) 0 ∙ ap (λ (i : ℕ). replicate {A = ℕ} i 0) (omega arith) in
    blank m (n + 1) (set cards n key) (omega (arith, h)) long (rest ∙ zeros)

pub front_blank : (m n : ℕ) (k d : List ℕ) → n ≤ m → length k ≡ n → d ≡ replicate m 0 → Blank m n (k ++ drop n d)
front_blank m n k d h size e =
    blank m n (k ++ drop n d) h (ap length (take_at k (drop n d) n size) ∙ size)
    (drop_at k (drop n d) n size ∙ ap (λ (l : List ℕ). drop n l) e ∙ drop-replicate n m 0)
