-- `common::slice::find` meets its contract: no x stands in the blocks that are passed, and `position` looks through the
-- rest. Assumes nothing.
use Rattle.std.proofs.Common.{◌≡◌, refl, ◌∙◌, Bool, true, false, Option, Some, None, ℕ, ◌+◌, ◌-◌, ◌≤◌, ◌<◌, List, cond, length, take, drop, eqb, not, length-drop, rules, arith, tests}
use native.Mathlib.Nat.{add-zero}
use lib.Dec.{ltb}
use lib.ListN.{drop_of_length-le}
use lib.Seq.{take_all}
use Rattle.std.specs.List.{position_or_len}
use Rattle.std.proofs.lemmas.List.Sums.{prefix_len-le-length}
use Rattle.std.proofs.lemmas.List.Recursion.{is_position_or_len}
use Rattle.std.proofs.lemmas.Iterator.{YieldsList-from_slice}
use Rattle.std.proofs.lemmas.Iterator.Search.{position_from_yields_List}
use Rattle.common.specs.Bytes.{index_after, index_of}
use Rattle.common.proofs.slice.find.Goals as goal

-- past the end there is nothing
none : (x : ℕ) (s : List ℕ) (from : ℕ) → length s < from → from ≡ from + index_of x (drop from s)
unfolding index_of
none x s from h = let e : length s ≤ from = omega arith in rw (drop_of_length-le s e, add-zero)

-- one place more, where the first byte is another
after_is : (t : Bool) (n : ℕ) → index_after t n ≡ cond t 0 (1 + n)
unfolding index_after
after_is true n = refl
after_is false n = omega arith

-- the library's word for the place
place_is : (x : ℕ) (s : List ℕ) → index_of x s ≡ position_or_len (λ b. eqb b x) s
unfolding index_of
place_is x s = is_position_or_len (index_of x) (λ b. eqb b x) refl (λ b l. after_is (eqb b x) (index_of x l)) s

-- what is looked through is all that follows
to_end : (s : List ℕ) (i : ℕ) → take (length s - i) (drop i s) ≡ drop i s
to_end s i = take_all (length s - i) (drop i s) (omega (arith, length-drop i s))

-- what `position` returns, by its two cases
found : (n m k : ℕ) (r : Option ℕ) → r ≡ cond (ltb n m) (Some n) None → r ≡ Some k → k ≡ n
found n m k r e h = grind arith

missing : (n m : ℕ) (r : Option ℕ) → r ≡ cond (ltb n m) (Some n) None → r ≡ None → m ≤ n
missing n m r e h = grind arith

pub returns-then-s-from-clause-is : goal.returns-then-s-from-clause-is
returns-then-s-from-clause-is c = none c.args.x c.args.s.now c.args.from c.if-s-from.true

pub returns-in-Some-clause-is : goal.returns-in-Some-clause-is
returns-in-Some-clause-is c =
    let rest = drop c.past_blocks-i.result c.args.s.now in
    let all = c.iter.ensures.rest ∙ to_end c.args.s.now c.past_blocks-i.result in
    let k = found _ _ c.in-Some.k _ (position_from_yields_List (λ b. eqb b c.args.x) _ _ c.position.result c.position.ensures.ran (YieldsList-from_slice rest all) (λ x b q k. search (rules, tests))) c.in-Some.is in
    omega (arith, k, place_is c.args.x rest, c.past_blocks-i.ensures.is)

pub returns-in-None-clause-is : goal.returns-in-None-clause-is
returns-in-None-clause-is c =
    let rest = drop c.past_blocks-i.result c.args.s.now in
    let all = c.iter.ensures.rest ∙ to_end c.args.s.now c.past_blocks-i.result in
    let k = missing _ _ _ (position_from_yields_List (λ b. eqb b c.args.x) _ _ c.position.result c.position.ensures.ran (YieldsList-from_slice rest all) (λ x b q k. search (rules, tests))) c.in-None.is in
    omega (arith, k, place_is c.args.x rest, length-drop c.past_blocks-i.result c.args.s.now, c.past_blocks-i.ensures.is, c.past_blocks-i.ensures.inside, prefix_len-le-length (λ b. not (eqb b c.args.x)) rest)
