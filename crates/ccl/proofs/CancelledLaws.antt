-- The list as text and the list in which a key is looked up (`Key::listed` of crate card, which the session calls): a
-- key is found cancelled exactly where its line stands in the text that was read.
-- Assumes nothing.
use mathlib.Core.Path.{◌≡◌, sym, ◌∙◌}
use mathlib.Core.Bool.{true}
use mathlib.Core.Logic.{◌↔◌}
use mathlib.Core.List.{List}
use Prim.Native.Nat.{ℕ, ◌+◌, ◌*◌, ◌≤◌, ◌<◌}
use native.Mathlib.Omega.{arith}
use lib.ListN.{length}
use Rattle.common.specs.Lists.{is_in}
use Rattle.common.proofs.ListsLaws.{length-list_of, get_or_list_of}
use Rattle.common.proofs.MemberLaws.{StandsIn, in_at, in_where}
use Rattle.ccl.specs.Line.{key_limit, line_of}
use Rattle.ccl.specs.ListText.{well_formed, good_lines, key_at, line_at}
use Rattle.ccl.proofs.ListTextLaws.{keys_of, found}

-- The line of the key is one of the text's lines.
abbrev pub LineStands : ℕ → List ℕ → Type 0
LineStands key text = (i : ℕ) × (32 * i + 32 ≤ length text) × (line_at text i ≡ line_of key)

-- a place among the keys that were read is a line of the text
place_line : (text : List ℕ) (key : ℕ) → StandsIn key (keys_of text) → (i : ℕ) × (i < good_lines text) × (key_at text i ≡ key)
place_line text key p =
    let h : p.0 < good_lines text = omega (arith, p.1, length-list_of (good_lines text) (key_at text)) in
    (p.0, h, sym (get_or_list_of (good_lines text) (key_at text) p.0 h) ∙ p.2)

line_place : (text : List ℕ) (key : ℕ) → (i : ℕ) × (i < good_lines text) × (key_at text i ≡ key) → StandsIn key (keys_of text)
line_place text key p = (p.0, omega (arith, p.1, length-list_of (good_lines text) (key_at text)), get_or_list_of (good_lines text) (key_at text) p.0 p.1 ∙ p.2)

pub listed_line : (text : List ℕ) → well_formed text ≡ true → (key : ℕ) → key < key_limit → (is_in key (keys_of text) ≡ true) ↔ LineStands key text
listed_line text well key small =
    (λ e. (found text well key small).0 (place_line text key (in_where key (keys_of text) e)), λ p. in_at key (keys_of text) (line_place text key ((found text well key small).1 p)))
