-- `session::arrays::array` meets its contract: where the bytes fit they stand at the front. Assumes nothing.
use native.Mathlib.Omega.{arith}
use mathlib.Core.Path.{◌∙◌}
use Prim.Native.Nat.{ℕ}
use lib.ListN.{replicate, length-replicate}
use Rattle.common.proofs.StoreLaws.{store_first, front_all}
use Rattle.session.proofs.arrays.array.Goals as goal

pub returns-clause-front : goal.returns-clause-front
returns-clause-front g c e = c.store.ensures ∙ store_first _ _ (omega (arith, e, length-replicate {A = ℕ}))

pub returns-clause-whole : goal.returns-clause-whole
returns-clause-whole g c e =
    c.store.ensures ∙ store_first _ _ (omega (arith, e, length-replicate {A = ℕ})) ∙ front_all c.args.s.now (replicate g.row.N 0) (omega (arith, length-replicate {A = ℕ}))
