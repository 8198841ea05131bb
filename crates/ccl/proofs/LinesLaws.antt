-- Lines of a text, and the text of keys: lengths, and what a turn adds of a loop over them.
-- Assumes nothing.
use mathlib.Core.Path.{◌≡◌, refl, sym, ap, subst, ◌∙◌}
use mathlib.Core.Bool.{Bool, cond}
use mathlib.Core.List.{List, [], ◌∷◌, ◌++◌, append-nil, append_assoc}
use Prim.Native.Nat.{ℕ, zero, suc, ◌+◌, ◌-◌, ◌*◌, ◌/◌, ◌≤◌, ◌<◌}
use native.Mathlib.Numerals.{add-one}
use native.Mathlib.Omega.{arith}
use lib.ListN.{length, get_or, take, drop, length-append}
use lib.Seq.{take-suc, take_at, drop_at, drop-drop, length-take-le}
use Rattle.std.specs.List.{prefix_len}
use Rattle.std.specs.Slice.Iter.{chunks_exact_rest, chunks_exact_size, chunks_exact_steps}
use Rattle.std.specs.declared.slice.ChunksExact.{ChunksExact}
use Rattle.std.proofs.lemmas.Iterator.{YieldsList}
use Rattle.std.proofs.lemmas.Iterator.Splits.{YieldsList-from_shown_while}
use Rattle.common.specs.Lists.{over_front, over_places_where, passing}
use Rattle.common.proofs.PassingLaws.{passing_is, passing_front}
use Rattle.common.proofs.StoreLaws.{store_next}
use Rattle.ccl.specs.Line.{line_of, good_line}
use Rattle.ccl.specs.ListText.{line_at, good_lines, lines_of}
use Rattle.ccl.proofs.LineLaws.{length_line}

-- ---- a line of a text

-- the part of the text from place 32 * i on to place 32 * i + 32
pub part_line : (text : List ℕ) (i : ℕ) → take (32 * i + 32 - 32 * i) (drop (32 * i) text) ≡ line_at text i
unfolding line_at
part_line text i = let e : 32 * i + 32 - 32 * i ≡ 32 = omega arith in rw e

-- the whole lines of a text, the first n and all
abbrev pub lines_from : ℕ → List ℕ → List (List ℕ)
lines_from zero text = []
lines_from (suc n) text = take 32 text ∷ lines_from n (drop 32 text)

abbrev pub whole_lines : List ℕ → List (List ℕ)
whole_lines text = lines_from (length text / 32) text

length_lines : (n : ℕ) (text : List ℕ) → length (lines_from n text) ≡ n
length_lines zero text = refl
length_lines (suc n) text = ap suc (length_lines n (drop 32 text))

pub length_whole : (text : List ℕ) → length (whole_lines text) ≡ length text / 32
length_whole text = length_lines (length text / 32) text

next_line : (text : List ℕ) (i : ℕ) → line_at (drop 32 text) i ≡ line_at text (suc i)
unfolding line_at
next_line text i =
    let e : 32 + 32 * i ≡ 32 * suc i = omega arith in
    ap (take 32) (drop-drop (32 * i) 32 text ∙ ap (λ (m : ℕ). drop m text) e)

line_from : (n : ℕ) (text : List ℕ) (i : ℕ) (d : List ℕ) → i < n → get_or (lines_from n text) i d ≡ line_at text i
unfolding line_at
line_from zero text i d h = absurd (omega arith)
line_from (suc n) text zero d h = refl
line_from (suc n) text (suc i) d h = line_from n (drop 32 text) i d (omega arith) ∙ next_line text i

pub whole_line : (text : List ℕ) (i : ℕ) (d : List ℕ) → i < length text / 32 → get_or (whole_lines text) i d ≡ line_at text i
whole_line text = line_from (length text / 32) text

-- a line more in front
whole_more : (l w r : List ℕ) → l ≡ w ++ r → length w ≡ 32 → whole_lines l ≡ w ∷ whole_lines r
whole_more l w r e n =
    let m : length (w ++ r) / 32 ≡ suc (length r / 32) = omega (arith, length-append w r, n) in
    ap whole_lines e ∙ rw (m, take_at w r 32 n, drop_at w r 32 n)

-- they are what `chunks_exact` gives
pub chunks_lines : (s : ChunksExact ℕ) (text : List ℕ) → chunks_exact_rest s ≡ text → chunks_exact_size s ≡ 32 → YieldsList chunks_exact_steps (λ l. l.now) s (whole_lines text)
chunks_lines s text e size =
    subst (λ (t : List ℕ). YieldsList chunks_exact_steps (λ l. l.now) s (whole_lines t)) e
    (YieldsList-from_shown_while chunks_exact_steps (λ l. l.now) (λ t. whole_lines (chunks_exact_rest t)) (λ t. chunks_exact_size t ≡ 32)
    (λ t u p h. length_whole (chunks_exact_rest t) ∙ omega (arith, p, h.1.0))
    (λ t x u p h. (h.0 ∙ p, whole_more (chunks_exact_rest t) x.now (chunks_exact_rest u) h.1.0 (h.1.1 ∙ p))) s size)

-- how many of them are good before the first that is not
passing_ext : (n : ℕ) {f g : ℕ → Bool} → ((i : ℕ) → f i ≡ g i) → passing n f ≡ passing n g
unfolding passing
passing_ext zero h = refl
passing_ext (suc n) h = rw (passing_ext n h, h n)

first_good : (n : ℕ) (text : List ℕ) → prefix_len good_line (lines_from n text) ≡ passing n (λ i. good_line (line_at text i))
unfolding passing line_at
first_good zero text = refl
first_good (suc n) text =
    let one : 1 + prefix_len good_line (lines_from n (drop 32 text)) ≡ suc (prefix_len good_line (lines_from n (drop 32 text))) = omega arith in
    ap (λ (k : ℕ). cond (good_line (take 32 text)) k 0) (one ∙ ap suc (first_good n (drop 32 text) ∙ passing_ext n (λ i. ap good_line (next_line text i))))
    ∙ sym (passing_front n (λ i. good_line (line_at text i)))

pub good_most : (text : List ℕ) → good_lines text ≤ length text / 32
unfolding good_lines
good_most text = (passing_is (length text / 32) (λ i. good_line (line_at text i))).most

pub good_front : (text : List ℕ) → prefix_len good_line (whole_lines text) ≡ good_lines text
unfolding good_lines
good_front text = first_good (length text / 32) text

-- ---- the text of keys

-- 32 bytes a key
pub length_text : (keys : List ℕ) → length (lines_of keys) ≡ 32 * length keys
unfolding lines_of
length_text [] = refl
length_text (key ∷ keys) = rw (length-append, length_line key, length_text keys) (omega arith)

-- the length of the text of the first i keys
pub length_first : (keys : List ℕ) (i : ℕ) → i ≤ length keys → length (lines_of (take i keys)) ≡ 32 * i
length_first keys i h = rw (length_text, length-take-le i keys h)

pub text_append : (a b : List ℕ) → lines_of (a ++ b) ≡ lines_of a ++ lines_of b
unfolding lines_of
text_append [] b = refl
text_append (key ∷ a) b = rw (text_append a b, append_assoc)

text_more : (keys : List ℕ) (i : ℕ) → i < length keys → lines_of (take (i + 1) keys) ≡ lines_of (take i keys) ++ line_of (get_or keys i 0)
unfolding lines_of
text_more keys i h = rw (add-one, take-suc keys i 0 h, text_append (take i keys) (get_or keys i 0 ∷ []), append-nil)

-- the text of the first i keys stands in front, and the line of key i is stored after it
pub line_over : (keys d : List ℕ) (i : ℕ) {l s : List ℕ} → i < length keys → 32 * i + 32 ≤ length d → l ≡ over_front (lines_of (take i keys)) d
    → s ≡ line_of (get_or keys i 0) → over_places_where l (32 * i) s ≡ over_front (lines_of (take (i + 1) keys)) d
line_over keys d i h room p q =
    let e = length_first keys i (omega arith) in
    rw (text_more keys i h, q) (store_next (lines_of (take i keys)) (line_of (get_or keys i 0)) d p (sym e) (rw (e, length_line) room))
