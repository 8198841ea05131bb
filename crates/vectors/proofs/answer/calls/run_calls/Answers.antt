-- `vectors::answer::calls::run_calls` meets its contract: a turn makes a call. Assumes nothing.
use mathlib.Core.Path.{ap, sym, ◌∙◌}
use Prim.Native.Nat.{◌+◌}
use native.Mathlib.Omega.{arith}
use native.Mathlib.Nat.{le_refl}
use borrow.Author.Tests.{eqb-true, eqb-false}
use lib.ListN.{length, length-drop}
use Rattle.append.proofs.AppendLaws.{added_none, adding_end}
use Rattle.vectors.specs.CallsText.{call_texts, call_head_size}
use Rattle.vectors.proofs.CallsLaws.{no_call, call_made, all_made, fitting}
use Rattle.vectors.proofs.answer.calls.run_calls.Goals as goal

pub loop-left-init : goal.loop-left-init
loop-left-init c = record { turn = 0; so_far = no_call _ _ (sym (added_none _ _ (omega (arith, c.len.ensures.is, c.if-prove.false)))); room = omega arith }

pub run_first-session-requires : goal.run_first-session-requires
run_first-session-requires c = fitting c.loop-left.invariant.so_far.fits

pub loop-left-smaller : goal.loop-left-smaller
loop-left-smaller c =
    let some = eqb-false _ _ (sym c.is_empty.ensures ∙ c.loop-left-test.true) in
    omega (arith, some, ap length c.after-left.ensures, length-drop (call_head_size + c.argument_count.result) c.loop-left.left.now)

pub loop-left-preserved : goal.loop-left-preserved
loop-left-preserved c =
    let some = eqb-false _ _ (sym c.is_empty.ensures ∙ c.loop-left-test.true) in
    call_made c.loop-left.invariant (omega (arith, some)) c.run_first-session.ensures.text c.run_first-session.ensures.host c.argument_count.ensures.is c.after-left.ensures

pub returns : goal.returns
unfolding call_texts
returns c =
    let made = all_made c.loop-left.invariant (eqb-true _ _ (sym c.is_empty.ensures ∙ c.loop-left-test.false)) in
    record {
      text = adding_end made.texts (le_refl _) made.fits;
      host = made.host_is;
    }
