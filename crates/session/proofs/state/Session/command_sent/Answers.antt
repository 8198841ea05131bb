-- `session::state::Session::command_sent` meets its contract: the command is written, or refused. Assumes nothing.
use mathlib.Core.Path.{◌≡◌, sym, ap, ◌∙◌}
use mathlib.Core.Bool.{false}
use Prim.Native.Nat.{ℕ}
use borrow.Author.Tests.{not-false}
use Rattle.std.proofs.lemmas.Result.{err_from_is_err_and}
use Rattle.session.specs.Ranges.{out_of_range}
use Rattle.session.specs.declared.state.Session.{Session}
use Rattle.session.proofs.SendLaws.{command_out_of_range, command_none, command_sent, command_not_sent}
use Rattle.session.proofs.state.Session.command_sent.Goals as goal
use Rattle.session.proofs.state.Session.command_sent.Goals.{Else-out_of_range}

pub returns-then-out_of_range : goal.returns-then-out_of_range
returns-then-out_of_range c =
    let e = command_out_of_range c.args.self.now c.args.out.now (sym c.out_of_range.ensures ∙ c.if-out_of_range.true) in
    record { number = ap (λ (x : ℕ × ℕ × Session). x.0) e.0; count = ap (λ (x : ℕ × ℕ × Session). x.1) e.0; out_after = e.1 }

-- past the first test the session is in range
in_range_lem : (c : goal.Else-out_of_range) → out_of_range c.args.self.now ≡ false
in_range_lem c = sym c.out_of_range.ensures ∙ c.if-out_of_range.false

pub returns-then-nothing_to_send : goal.returns-then-nothing_to_send
returns-then-nothing_to_send c =
    let e = command_none c.args.self.now c.args.out.now (in_range_lem (goal.at.returns-then-nothing_to_send c).Else-out_of_range) (sym c.nothing_to_send.ensures ∙ c.if-nothing_to_send.true) in
    record { number = ap (λ (x : ℕ × ℕ × Session). x.0) e.0; count = ap (λ (x : ℕ × ℕ × Session). x.1) e.0; out_after = e.1 }

pub write_command-requires : goal.write_command-requires
write_command-requires c = not-false _ (in_range_lem (goal.at.write_command-requires c).Else-out_of_range)

pub returns-in_err-count : goal.returns-in_err-count
returns-in_err-count c =
    let e = command_not_sent c.args.self.now c.args.out.now _ c.in_err-count.field-0.0 (in_range_lem (goal.at.returns-in_err-count c).Else-out_of_range) (sym c.nothing_to_send.ensures ∙ c.if-nothing_to_send.false) c.in_err-count.ensures in
    let p = err_from_is_err_and c.from_residual.result c.from_residual.ensures.1 in
    rw (p.1, p.2) (record { number = ap (λ (x : ℕ × ℕ × Session). x.0) e.0; count = ap (λ (x : ℕ × ℕ × Session). x.1) e.0; out_after = e.1 })

pub returns : goal.returns
returns c =
    let e = command_sent c.args.self.now c.args.out.now _ (in_range_lem (goal.at.returns c).Else-out_of_range) (sym c.nothing_to_send.ensures ∙ c.if-nothing_to_send.false) c.in_ok-count.ensures in
    record { number = ap (λ (x : ℕ × ℕ × Session). x.0) e.0; count = ap (λ (x : ℕ × ℕ × Session). x.1) e.0; out_after = e.1 }
