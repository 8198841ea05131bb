-- A `for` over an iterator and its places, `.enumerate()`: which place and which item a turn has, and how many turns
-- there were at the end.
-- Assumes nothing.
use mathlib.Core.Path.{◌≡◌, ap, ◌∙◌}
use mathlib.Core.List.{List}
use Prim.Native.Nat.{ℕ, ◌+◌, ◌<◌}
use native.Mathlib.Nat.{zero-add}
use native.Mathlib.Omega.{arith}
use lib.ListN.{length, get_or}
use Rattle.std.specs.Prelude.{Option, Some, None}
use Rattle.std.specs.Iterator.{Yields}
use Rattle.std.specs.Iterator.Adapters.{enumerate_source, enumerate_count, enumerate_steps}
use Rattle.std.specs.declared.iter.Enumerate.{Enumerate}
use Rattle.std.proofs.lemmas.Iterator.{YieldsList}
use Rattle.std.proofs.lemmas.Iterator.Consumers.{YieldsList-from_enumerate, YieldsList-turn, YieldsList-end}
use Rattle.std.proofs.lemmas.List.FromFn.{length-enumerate_from, get_or-enumerate_from}

-- the item x of a turn, after the items xs, of an iterator that gives the list
pub record TurnOf {A B : Type 0} (v : A → B) (all : List B) (xs : List (ℕ × A)) (x : ℕ × A) : Type 0 where
  pub place : x.0 ≡ length xs
  pub inside : length xs < length all
  pub item : v x.1 ≡ get_or all (length xs) (v x.1)

module _ {S A B : Type 0} {steps : S → Option A → S → Type 0} {v : A → B} {all : List B} (s : Enumerate S) (road : YieldsList steps v (enumerate_source s) all) (start : enumerate_count s ≡ 0)
    (xs : List (ℕ × A)) (t : Enumerate S) (so_far : Yields (enumerate_steps steps) s xs t) (r : Option (ℕ × A)) (u : Enumerate S)
  where
    pub turn_of : (x : ℕ × A) → r ≡ Some x → enumerate_steps steps t r u → TurnOf v all xs x
    turn_of x e p =
        let k = YieldsList-turn (YieldsList-from_enumerate road start) xs t so_far r u x e p in
        let h : length xs < length all = omega (arith, k.0, length-enumerate_from 0 all) in
        let q : ◌≡◌ {A = ℕ × B} (x.0, v x.1) (0 + length xs, get_or all (length xs) (v x.1)) = k.1 ∙ get_or-enumerate_from 0 all (length xs) (x.0, v x.1) h in
        record { place = ap (λ (z : ℕ × B). z.0) q ∙ zero-add (length xs); inside = h; item = ap (λ (z : ℕ × B). z.1) q }

    pub turns_end : r ≡ None → enumerate_steps steps t r u → length xs ≡ length all
    turns_end e p = (YieldsList-end (YieldsList-from_enumerate road start) xs t so_far r u e p).1 ∙ length-enumerate_from 0 all
