-- `session::state::Session::step2_end` meets its contract: all is read, or the object is malformed. Assumes nothing.
use mathlib.Core.Path.{◌≡◌, ap}
use mathlib.Core.List.{List}
use Prim.Native.Nat.{ℕ}
use native.Mathlib.Omega.{arith}
use borrow.Author.Tests.{ne_eqb}
use Rattle.std.proofs.lemmas.Result.{err_from_is_err_and}
use Rattle.card.specs.Object.{no_parts, object_of}
use Rattle.card.specs.declared.object.Part.{Part}
use Rattle.session.specs.Tables.{kind_at}
use Rattle.session.specs.Operation.{good_end_session}
use Rattle.session.proofs.JudgeLaws.{ends_well, ends_ill, object_ill, step2_well}
use Rattle.session.proofs.state.Session.step2_end.Goals as goal

pub returns-in_err-parts : goal.returns-in_err-parts
returns-in_err-parts c =
    let p = err_from_is_err_and c.from_residual.result c.from_residual.ensures.1 in
    let o : (20, no_parts) ≡ object_of (kind_at c.args.self.opening.mode c.args.self.progress.step) c.args.joined.now = rw (← c.kind_at-kind.ensures) c.in_err-parts.ensures in
    rw (p.1, p.2) (ends_ill c.args.self c.args.joined.now c.args.cancelled.now (object_ill c.args.self c.args.joined.now c.requires.0 (ap (λ (x : ℕ × List Part). x.0) o) (λ z. omega arith)) (λ z. omega arith))

pub returns : goal.returns
unfolding good_end_session
returns c =
    let o : (0, c.in_ok-parts.parts) ≡ object_of (kind_at c.args.self.opening.mode c.args.self.progress.step) c.args.joined.now = rw (← c.kind_at-kind.ensures) c.in_ok-parts.ensures in
    ends_well c.args.self c.args.joined.now c.args.cancelled.now (step2_well c.args.self c.args.joined.now c.requires.0 c.requires.1 o)
    (rw (ne_eqb _ _ c.requires.0, ne_eqb _ _ c.requires.1, ← o, ← c.kind_at-kind.ensures, ← c.part_of.ensures, c.at_step.ensures))
