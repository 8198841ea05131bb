-- `ccl::merge::put_merged` meets its contract: a turn stores a key, and what is left is left of both lists. Assumes nothing.
use mathlib.Core.Path.{◌≡◌, refl, ap, ◌∙◌}
use Prim.Native.Nat.{◌+◌}
use native.Mathlib.Omega.{arith}
use lib.ListN.{length, length-append, length-drop}
use Rattle.common.proofs.LoopLaws.{writing_none}
use Rattle.ccl.specs.Merge.{merged}
use Rattle.ccl.proofs.MergeCodeLaws.{next_stored, rest_stored}
use Rattle.ccl.proofs.merge.put_merged.Goals as goal
use Rattle.ccl.proofs.merge.put_merged.Goals.{In_default}

pub loop-key-init : goal.loop-key-init
loop-key-init c = (writing_none (omega arith), refl)

pub loop-key-preserved : goal.loop-key-preserved
loop-key-preserved c = next_stored (merged c.args.a.now c.args.b.now) c.loop-key.invariant.0 c.loop-key.invariant.1 c.in-Some.ensures

-- what is left of the two is left of the merged list
left : (c : goal.In_default) → c.loop-key.n + length c.next.new.self.a.now + length c.next.new.self.b.now ≡ length (merged c.args.a.now c.args.b.now)
left c =
    omega (arith, c.loop-key.invariant.0.most, length-drop c.loop-key.n (merged c.args.a.now c.args.b.now), ap length (c.loop-key.invariant.1 ∙ c.in_default.ensures) ∙ length-append c.next.new.self.a.now c.next.new.self.b.now)

pub slice_bounds-copy_from_slice-end : goal.slice_bounds-copy_from_slice-end
slice_bounds-copy_from_slice-end c = omega (arith, left (goal.at.slice_bounds-copy_from_slice-end c).In_default)

pub slice_bounds-copy_from_slice-end-2 : goal.slice_bounds-copy_from_slice-end-2
slice_bounds-copy_from_slice-end-2 c = omega (arith, left (goal.at.slice_bounds-copy_from_slice-end-2 c).In_default)

pub returns : goal.returns
returns c = rest_stored (merged c.args.a.now c.args.b.now) c.loop-key.invariant.0 (c.loop-key.invariant.1 ∙ c.in_default.ensures) c.copy_from_slice.ensures.after c.copy_from_slice-2.ensures.after
