-- `common::slice::past_blocks` meets its contract: the chain counts the blocks before the first in which x stands. Assumes nothing.
use mathlib.Core.Path.{◌≡◌, refl, sym, ap, subst, ◌∙◌}
use mathlib.Core.Bool.{Bool, true, false, cond, not}
use mathlib.Core.List.{List, [], ◌∷◌, ◌++◌}
use Prim.Native.Nat.{ℕ, zero, suc, ◌+◌, ◌-◌, ◌*◌, ◌/◌, ◌≤◌}
use native.Mathlib.Nat.{zero-add}
use native.Mathlib.Omega.{arith}
use borrow.Author.Tests.{not-true, tests}
use lib.Dec.{eqb}
use lib.ListN.{length, take, drop, length-append, length-drop, take-append-drop}
use lib.Seq.{drop-drop, take_all, take_at, drop_at, length-take-le}
use Rattle.std.specs.List.{list_all, prefix_len}
use Rattle.std.specs.Iterator.Adapters.{take_while_source}
use Rattle.std.specs.Slice.Iter.{chunks_exact_rest, chunks_exact_size, chunks_exact_steps}
use Rattle.std.specs.declared.slice.ChunksExact.{ChunksExact}
use Rattle.std.proofs.Common.{rules}
use Rattle.std.proofs.lemmas.Iterator.{YieldsList}
use Rattle.std.proofs.lemmas.Iterator.Consumers.{count_from_yields_List}
use Rattle.std.proofs.lemmas.Iterator.Search.{YieldsList-from_take_while}
use Rattle.std.proofs.lemmas.Iterator.Splits.{YieldsList-from_shown_while}
use Rattle.std.proofs.lemmas.List.Folds.{length-prefix_len}
use Rattle.common.proofs.TestLaws.{and_parts}
use Rattle.common.specs.Bytes.{index_after, index_of}
use Rattle.common.proofs.slice.past_blocks.Goals as goal
use Rattle.common.proofs.slice.past_blocks.Goals.{After-count-passed}

-- none of the bytes is x
abbrev absent : ℕ → List ℕ → Bool
absent x s = list_all (λ b. not (eqb b x)) s

-- bytes none of which is x
passed : (x : ℕ) (p s : List ℕ) → absent x p ≡ true → index_of x (p ++ s) ≡ length p + index_of x s
unfolding index_of index_after
passed x [] s e = sym (zero-add (index_of x s))
passed x (b ∷ p) s e =
    let q = and_parts (not (eqb b x)) (absent x p) e in
    rw (not-true (eqb b x) q.0) (omega (arith, passed x p s q.1))

-- so many at the front
block : (x n : ℕ) (s : List ℕ) → n ≤ length s → absent x (take n s) ≡ true → index_of x s ≡ n + index_of x (drop n s)
block x n s h e =
    ap (index_of x) (sym (take-append-drop n s)) ∙ passed x (take n s) (drop n s) e
    ∙ ap (λ (m : ℕ). m + index_of x (drop n s)) (length-take-le n s h)

-- the blocks of some bytes, the first n and all
abbrev blocks_from : ℕ → List ℕ → List (List ℕ)
blocks_from zero s = []
blocks_from (suc n) s = take 32 s ∷ blocks_from n (drop 32 s)

abbrev blocks : List ℕ → List (List ℕ)
blocks s = blocks_from (length s / 32) s

length_from : (n : ℕ) (s : List ℕ) → length (blocks_from n s) ≡ n
length_from zero s = refl
length_from (suc n) s = ap suc (length_from n (drop 32 s))

-- a block more in front
more : (l w r : List ℕ) → l ≡ w ++ r → length w ≡ 32 → blocks l ≡ w ∷ blocks r
more l w r e n =
    let m : length (w ++ r) / 32 ≡ suc (length r / 32) = omega (arith, length-append w r, n) in
    ap blocks e ∙ rw (m, take_at w r 32 n, drop_at w r 32 n)

-- they are what `chunks_exact` gives
given : (i : ChunksExact ℕ) (s : List ℕ) → chunks_exact_rest i ≡ s → chunks_exact_size i ≡ 32 → YieldsList chunks_exact_steps (λ l. l.now) i (blocks s)
given i s e size =
    subst (λ (t : List ℕ). YieldsList chunks_exact_steps (λ l. l.now) i (blocks t)) e
    (YieldsList-from_shown_while chunks_exact_steps (λ l. l.now) (λ t. blocks (chunks_exact_rest t)) (λ t. chunks_exact_size t ≡ 32)
    (λ t u p h. length_from (length (chunks_exact_rest t) / 32) (chunks_exact_rest t) ∙ omega (arith, p, h.1.0))
    (λ t x u p h. (h.0 ∙ p, more (chunks_exact_rest t) x.now (chunks_exact_rest u) h.1.0 (h.1.1 ∙ p))) i size)

-- no x stands in the blocks before the first in which one does
before : (x n : ℕ) (s : List ℕ) → 32 * n ≤ length s
    → index_of x s ≡ 32 * prefix_len (absent x) (blocks_from n s) + index_of x (drop (32 * prefix_len (absent x) (blocks_from n s)) s)
before x zero s h = sym (zero-add (index_of x s))
before x (suc n) s h = by (before x n (drop 32 s) (omega (arith, h, length-drop 32 s))) (absent x (take 32 s)) refl
  where
    k : ℕ
    k = prefix_len (absent x) (blocks_from n (drop 32 s))

    by : index_of x (drop 32 s) ≡ 32 * k + index_of x (drop (32 * k) (drop 32 s)) → (t : Bool) → absent x (take 32 s) ≡ t → index_of x s ≡ 32 * cond t (1 + k) 0 + index_of x (drop (32 * cond t (1 + k) 0) s)
    by p false e = sym (zero-add (index_of x s))
    by p true e =
        let m : 32 + 32 * k ≡ 32 * (1 + k) = omega arith in
        let at = drop-drop (32 * k) 32 s ∙ ap (λ (i : ℕ). drop i s) m in
        omega (arith, block x 32 s (omega (arith, h)) e, p, ap (index_of x) at)

-- at most all of them
few : (x n : ℕ) (s : List ℕ) → prefix_len (absent x) (blocks_from n s) ≤ n
few x zero s = omega arith
few x (suc n) s = by (few x n (drop 32 s)) (absent x (take 32 s))
  where
    by : prefix_len (absent x) (blocks_from n (drop 32 s)) ≤ n → (t : Bool) → cond t (1 + prefix_len (absent x) (blocks_from n (drop 32 s))) 0 ≤ suc n
    by p false = omega arith
    by p true = omega (arith, p)

-- the chain counts them
counted : (c : After-count-passed) → c.count-passed.result ≡ prefix_len (absent c.args.x) (blocks (drop c.args.from c.args.s.now))
counted c =
    let s = drop c.args.from c.args.s.now in
    let all = take_all (length c.args.s.now - c.args.from) s (omega (arith, length-drop c.args.from c.args.s.now)) in
    let e = c.take_while.ensures.source in
    let given = given (take_while_source c.take_while.result) s (ap chunks_exact_rest e ∙ c.chunks_exact.ensures.rest ∙ all) (ap chunks_exact_size e ∙ c.chunks_exact.ensures.size) in
    count_from_yields_List c.take_while.result c.count-passed.result c.count-passed.ensures.ran (YieldsList-from_take_while _ (absent c.args.x) given c.take_while.ensures.closure c.take_while.ensures.done (λ x b q k. search (rules, tests)))
    ∙ length-prefix_len (absent c.args.x) (blocks s)

-- they lie within s
within : (c : After-count-passed) → c.args.from + 32 * c.count-passed.result ≤ length c.args.s.now
within c =
    let s = drop c.args.from c.args.s.now in
    omega (arith, counted c, few c.args.x (length s / 32) s, length-drop c.args.from c.args.s.now, c.requires)

pub overflow_mul-result : goal.overflow_mul-result
overflow_mul-result c = omega (arith, within (goal.at.overflow_mul-result c).After-count-passed)

pub overflow_add-result : goal.overflow_add-result
overflow_add-result c = omega (arith, within (goal.at.overflow_add-result c).After-count-passed)

pub returns : goal.returns
returns c =
    let at = (goal.at.returns c).After-count-passed in
    let s = drop c.args.from c.args.s.now in
    let k = prefix_len (absent c.args.x) (blocks s) in
    let moved : drop (32 * k) s ≡ drop (c.args.from + 32 * k) c.args.s.now = drop-drop (32 * k) c.args.from c.args.s.now in
    record {
      is = rw (counted at) (omega (arith, before c.args.x (length s / 32) s (omega arith), ap (index_of c.args.x) moved));
      inside = within at;
    }
