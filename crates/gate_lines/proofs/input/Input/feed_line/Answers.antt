-- `gate_lines::input::Input::feed_line` meets its contract: a part of a block is held, or ends a line. Assumes nothing.
use native.Mathlib.Omega.{arith}
use Rattle.append.proofs.AppendLaws.{added_inside}
use Rattle.gate_lines.specs.Input.{most_held}
use Rattle.gate_lines.proofs.FeedLaws.{none_fed, run_fed, line_fed, none_used, run_used, line_used}
use Rattle.gate_lines.proofs.input.Input.feed_line.Goals as goal

pub invariant_of-self : goal.invariant_of-self
invariant_of-self c = rw c.add.ensures (added_inside most_held c.self.inside.line _)

pub invariant_of-self-2 : goal.invariant_of-self-2
invariant_of-self-2 c = rw c.add.ensures (added_inside most_held c.self.inside.line _)

pub returns-then-block-from : goal.returns-then-block-from
returns-then-block-from c =
    let f = none_fed c.args.self.now c.args.block.now c.new.result c.args.from c.new.ensures in
    record {
      state = f.state;
      prints = f.prints;
      used_value = none_used c.args.block.now c.args.from (omega (arith, c.if-block-from.true));
      onward = λ h. absurd (omega (arith, h, c.if-block-from.true));
      for_every_input = f.for_every_input;
    }

pub returns-then-end-block : goal.returns-then-end-block
returns-then-end-block c =
    let f =
    run_fed c.self.inside.gate c.self.inside.line c.add.new.self c.args.block.now c.new-then-end-block.result c.args.from c.find-end.result c.self.view_is c.self.invariant c.find-end.ensures.is c.add.ensures
    c.new-then-end-block.ensures in
    record {
      state = f.state;
      prints = f.prints;
      used_value = run_used c.args.block.now c.args.from c.find-end.result c.find-end.ensures.is (omega (arith, c.if-end-block.true));
      onward = λ h. (omega (arith, h, c.if-end-block.true), omega (arith, c.if-end-block.true));
      for_every_input = f.for_every_input;
    }

pub returns : goal.returns
returns c =
    let inside = c.find-end.ensures.inside (omega arith) in
    let f =
    line_fed c.self.inside.gate c.self.inside.line c.add.new.self c.args.block.now c.line_done-text.result c.args.from c.find-end.result c.self.view_is c.self.invariant c.find-end.ensures.is
    (omega (arith, inside, c.if-end-block.false)) c.add.ensures c.line_done-text.ensures.state c.line_done-text.ensures.prints in
    record {
      state = f.state;
      prints = f.prints;
      used_value = line_used c.args.block.now c.args.from c.find-end.result c.find-end.ensures.is (omega (arith, inside, c.if-end-block.false));
      onward = λ h. (omega (arith, c.find-end.ensures.is), omega (arith, inside, c.if-end-block.false));
      for_every_input = f.for_every_input;
    }
