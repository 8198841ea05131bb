-- Lines put together with a 0A after each are cut into the same lines. Assumes nothing.
use mathlib.Core.Path.{◌≡◌, sym, ap, ◌∙◌}
use mathlib.Core.Bool.{false}
use mathlib.Core.List.{List, [], ◌∷◌, ◌++◌, append_assoc, append-nil}
use Prim.Native.Nat.{ℕ}
use lib.Dec.{eqb}
use Rattle.common.proofs.PlaceLaws.{NoEnd}
use Rattle.gate_lines.specs.Input.{Cut, cut_byte, cut, last_line, lines_in}

-- An input with these lines, a 0A after each.
abbrev pub joined : List (List ℕ) → List ℕ
joined [] = []
joined (l ∷ ls) = l ++ (0x0A ∷ joined ls)

-- No line has a 0A of its own.
abbrev pub Lines : List (List ℕ) → Type 0
Lines [] = Unit
Lines (l ∷ ls) = NoEnd l × Lines ls

abbrev at : List (List ℕ) → List ℕ → Cut
at ls r = record { lines = ls; rest = r }

-- bytes that are no 0A are kept
byte_kept : (b : ℕ) (ls : List (List ℕ)) (r : List ℕ) → eqb b 0x0A ≡ false → cut_byte (at ls r) b ≡ at ls (r ++ (b ∷ []))
byte_kept b ls r e = rw e

cut_run : (l s : List ℕ) (ls : List (List ℕ)) (r : List ℕ) → NoEnd l → cut (at ls r) (l ++ s) ≡ cut (at ls (r ++ l)) s
unfolding cut
cut_run [] s ls r n = ap (λ (x : List ℕ). cut (at ls x) s) (sym (append-nil r))
cut_run (b ∷ l) s ls r n =
    ap (λ (c : Cut). cut c (l ++ s)) (byte_kept b ls r n.0) ∙ cut_run l s ls (r ++ (b ∷ [])) n.1
    ∙ ap (λ (x : List ℕ). cut (at ls x) s) (append_assoc r (b ∷ []) l)

-- each 0A ends a line
cut_joined : (ls done : List (List ℕ)) (s : List ℕ) → Lines ls → cut (at done []) (joined ls ++ s) ≡ cut (at (done ++ ls) []) s
unfolding cut
cut_joined [] done s n = ap (λ (x : List (List ℕ)). cut (at x []) s) (sym (append-nil done))
cut_joined (l ∷ ls) done s n =
    ap (cut (at done [])) (append_assoc l (0x0A ∷ joined ls) s) ∙ cut_run l (0x0A ∷ (joined ls ++ s)) done [] n.0 ∙ cut_joined ls (done ++ (l ∷ [])) s n.1
    ∙ ap (λ (x : List (List ℕ)). cut (at x []) s) (append_assoc done (l ∷ []) ls)

-- the lines of such an input; and of one with a last line that lacks its 0A
abbrev lines_of : Cut → List (List ℕ)
lines_of c = c.lines ++ last_line c.rest

pub lines_joined : (ls : List (List ℕ)) → Lines ls → lines_in (joined ls) ≡ ls
unfolding lines_in cut
lines_joined ls n =
    ap (λ (x : List ℕ). lines_of (cut (at [] []) x)) (sym (append-nil (joined ls))) ∙ ap lines_of (cut_joined ls [] [] n) ∙ append-nil ls

pub lines_unended : (ls : List (List ℕ)) (b : ℕ) (l : List ℕ) → Lines ls → NoEnd (b ∷ l) → lines_in (joined ls ++ (b ∷ l)) ≡ ls ++ ((b ∷ l) ∷ [])
unfolding lines_in cut
lines_unended ls b l n k =
    ap lines_of (cut_joined ls [] (b ∷ l) n ∙ ap (cut (at ls [])) (sym (append-nil (b ∷ l))) ∙ cut_run (b ∷ l) [] ls [] k)
