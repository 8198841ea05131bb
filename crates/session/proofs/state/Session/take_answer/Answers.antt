-- `session::state::Session::take_answer` meets its contract: the data is appended, or the cause ends the reading. Assumes nothing.
use mathlib.Core.Path.{◌≡◌, sym, ◌∙◌}
use Prim.Native.Nat.{◌+◌, ◌-◌, ◌≤◌}
use native.Mathlib.Omega.{arith}
use borrow.Author.Tests.{eq-eqb, eqb-false}
use lib.ListN.{length}
use Rattle.common.specs.Lists.{over_places}
use Rattle.common.proofs.StoreLaws.{store_fits}
use Rattle.session.specs.Tables.{object_size}
use Rattle.session.specs.Operation.{cause_never_zero, joined_in, answer_taken_session, answer_taken_buffer}
use Rattle.session.proofs.FigureLaws.{base_fits, object_small}
use Rattle.session.proofs.RuleLaws.{rule_fits, rules_taken, rules_stopped, appended_next, appended_judged}
use Rattle.session.proofs.state.Session.take_answer.Goals as goal
use Rattle.session.proofs.state.Session.take_answer.Goals.{After-base_of-base, After-store}

end_fits : (c : goal.After-base_of-base) → c.base_of-base.result + c.args.self.progress.filled + length c.args.bytes.now ≤ object_size
end_fits c = omega (arith, base_fits c.args.self.opening.mode c.args.self.progress.step, c.base_of-base.ensures, rule_fits _ _ _ _ _ (rules_taken c.args.self c.status_of.result (length c.args.bytes.now) c.in-Ok.ensures).0)

pub next_after-requires : goal.next_after-requires
next_after-requires c = omega (arith, base_fits c.args.self.opening.mode c.args.self.progress.step, object_small, c.requires)

pub overflow_add-at : goal.overflow_add-at
overflow_add-at c = omega (arith, object_small, end_fits (goal.at.overflow_add-at c).After-base_of-base)

-- what is stored fits
stored : (c : goal.After-store) → c.store.new.out ≡ over_places c.args.object.now (c.base_of-base.result + c.args.self.progress.filled) c.args.bytes.now
stored c =
    let fits : c.base_of-base.result + c.args.self.progress.filled + length c.args.bytes.now ≤ object_size =
    omega (arith, base_fits c.args.self.opening.mode c.args.self.progress.step, c.base_of-base.ensures, rule_fits _ _ _ _ _ (rules_taken c.args.self c.status_of.result (length c.args.bytes.now) c.in-Ok.ensures).0) in
    c.store.ensures ∙ store_fits c.args.object.now c.args.bytes.now (c.base_of-base.result + c.args.self.progress.filled) (omega (arith, fits, c.requires.0))

pub continued-requires : goal.continued-requires
continued-requires c = omega (arith, base_fits c.args.self.opening.mode c.args.self.progress.step, object_small, c.requires)

pub overflow_add-at-in-None : goal.overflow_add-at-in-None
overflow_add-at-in-None c = omega (arith, object_small, end_fits (goal.at.overflow_add-at-in-None c).After-base_of-base)

pub slice_bounds-judge-end : goal.slice_bounds-judge-end
slice_bounds-judge-end c =
    omega (arith, end_fits (goal.at.slice_bounds-judge-end c).After-base_of-base, c.requires.0)

pub returns-in-Some : goal.returns-in-Some
unfolding answer_taken_session answer_taken_buffer
returns-in-Some c =
    let r = rules_taken c.args.self c.status_of.result (length c.args.bytes.now) c.in-Ok.ensures in
    record { value = rw (← c.status_of.ensures, eq-eqb _ _ r.0) (c.continued.ensures ∙ appended_next c.status_of.result c.args.self _ _ _ (sym r.1 ∙ c.in-Some.is)); object_after = rw (← c.status_of.ensures, eq-eqb _ _ r.0, ← c.base_of-base.ensures) (stored (goal.at.returns-in-Some c).After-store) }

pub returns-in-None : goal.returns-in-None
unfolding answer_taken_session answer_taken_buffer joined_in
returns-in-None c =
    let e : c.base_of-base.result + c.args.self.progress.filled + length c.args.bytes.now - c.base_of-base.result ≡ c.args.self.progress.filled + length c.args.bytes.now = omega arith in
    let r = rules_taken c.args.self c.status_of.result (length c.args.bytes.now) c.in-Ok.ensures in
    record { value = rw (← c.status_of.ensures, eq-eqb _ _ r.0, ← c.base_of-base.ensures, ← stored (goal.at.returns-in-None c).After-store, ← e) (c.judge.ensures ∙ appended_judged c.status_of.result c.args.self _ _ _ (sym r.1 ∙ c.in-None.is)); object_after = rw (← c.status_of.ensures, eq-eqb _ _ r.0, ← c.base_of-base.ensures) (stored (goal.at.returns-in-None c).After-store) }

pub returns-in-Err : goal.returns-in-Err
unfolding answer_taken_session answer_taken_buffer
returns-in-Err c =
    let some = cause_never_zero c.in-Err.cause in
    let k = rules_stopped c.args.self c.status_of.result (length c.args.bytes.now) c.in-Err.ensures (eqb-false _ 0 some) in
    record { value = rw (← c.status_of.ensures, ← k, some, ← c.number-cause.ensures, ← c.status_shown-sw1.ensures, ← c.status_shown-sw2.ensures) c.stopped.ensures; object_after = rw (← c.status_of.ensures, ← k, some) }
