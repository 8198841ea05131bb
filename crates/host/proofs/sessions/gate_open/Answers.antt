-- `host::sessions::gate_open` meets its contract: the session of an accepted opening is saved. Assumes nothing.
use mathlib.Core.Path.{sym, ap, ◌∙◌}
use Prim.Native.Nat.{ℕ}
use Rattle.session.specs.declared.state.Session.{Session}
use Rattle.host.specs.Call.{image_after}
use Rattle.host.proofs.sessions.gate_open.Goals as goal

pub returns : goal.returns
returns c =
    let e = c.open-opened.ensures.result_value in record {
      number = c.keep.ensures.number ∙ ap (λ (x : ℕ × Session). x.0) e;
      is = c.keep.ensures.is ∙ ap (image_after c.args.image.now) (ap (λ (k : ℕ). (k, c.open-opened.result.session)) c.keep.ensures.number ∙ e);
      for_every_list = λ z object. rw (c.keep.ensures.again z) (c.open-opened.ensures.for_every_list (sym c.keep.ensures.number ∙ z) object);
    }
