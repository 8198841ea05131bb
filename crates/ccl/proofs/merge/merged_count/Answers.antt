-- `ccl::merge::merged_count` meets its contract: a turn counts a key, and what is left is left of both lists. Assumes nothing.
use mathlib.Core.Path.{◌≡◌, ap, ◌∙◌}
use Prim.Native.Nat.{◌+◌}
use native.Mathlib.Omega.{arith}
use lib.ListN.{length, length-append}
use Rattle.ccl.specs.Merge.{merged}
use Rattle.ccl.proofs.MergeCodeLaws.{merged_most}
use Rattle.ccl.proofs.merge.merged_count.Goals as goal
use Rattle.ccl.proofs.merge.merged_count.Goals.{In_default}

pub loop-n-preserved : goal.loop-n-preserved
loop-n-preserved c = omega (arith, c.loop-n.invariant, ap length c.in-Some.ensures)

-- what is left of the two is left of the merged list
left : (c : goal.In_default) → c.loop-n.n + length c.next.new.self.a.now + length c.next.new.self.b.now ≡ length (merged c.args.a.now c.args.b.now)
left c = omega (arith, c.loop-n.invariant, ap length c.in_default.ensures ∙ length-append c.next.new.self.a.now c.next.new.self.b.now)

pub returns : goal.returns
returns c = left (goal.at.returns c).In_default

pub overflow_add-n : goal.overflow_add-n
overflow_add-n c = omega (arith, c.loop-n.invariant, ap length c.in-Some.ensures, merged_most c.args.a.now c.args.b.now)

pub overflow_add-result : goal.overflow_add-result
overflow_add-result c = omega (arith, left (goal.at.overflow_add-result c).In_default, merged_most c.args.a.now c.args.b.now)

pub overflow_add-result-2 : goal.overflow_add-result-2
overflow_add-result-2 c = omega (arith, left (goal.at.overflow_add-result-2 c).In_default, merged_most c.args.a.now c.args.b.now)
