-- `gate_stream::run_block` meets its contract: a turn uses a part of the block, and adds what that prints. Assumes nothing.
use mathlib.Core.Path.{refl, ap₂, ◌∙◌}
use mathlib.Core.List.{List}
use Prim.Native.Nat.{ℕ, ◌≤◌}
use native.Mathlib.Omega.{arith}
use Rattle.append.specs.Append.{added}
use Rattle.gate_lines.specs.Input.{input_after, text_of_input}
use Rattle.gate_stream.specs.Stream.{out_size}
use Rattle.gate_stream.proofs.StreamLaws.{fed_part, part_added}
use Rattle.gate_stream.proofs.run_block.Goals as goal

pub loop-used-init : goal.loop-used-init
unfolding input_after text_of_input
loop-used-init c = (omega arith, refl, c.clear.ensures)

pub loop-used-preserved : goal.loop-used-preserved
loop-used-preserved c =
    let onward = c.feed_line-fed.ensures.onward c.loop-used-test.true in
    let h : c.loop-used.used ≤ c.feed_line-fed.result.used = omega (arith, onward) in
    let text = c.as_bytes.ensures ∙ c.feed_line-fed.ensures.prints in (
      onward.1,
      fed_part _ _ _ c.args.block.now _ _ h c.loop-used.invariant.1 c.feed_line-fed.ensures.state,
      c.add.ensures ∙ ap₂ (λ (s t : List ℕ). added out_size s t) c.loop-used.invariant.2 text
          ∙ part_added c.args.gate.now c.loop-used.gate c.args.block.now c.loop-used.used c.feed_line-fed.result.used h c.requires c.loop-used.invariant.1,
    )
