-- `host::sessions::gate_preview` meets its contract: the preview of the session of the image. Assumes nothing.
use mathlib.Core.Path.{ap, ◌∙◌}
use Prim.Native.Nat.{ℕ}
use Rattle.host.specs.Image.{load_of}
use Rattle.session.proofs.CallPromiseLaws.{preview_promise}
use Rattle.host.proofs.sessions.gate_preview.Goals as goal

pub returns : goal.returns
returns c =
    let s = load_of c.args.image.now in
    let e = rw c.load.ensures at c.preview.ensures.as_two_calls in
    let f = ap (λ (n : ℕ). (n, c.preview.new.out)) c.number.ensures ∙ e in
    record { is = f; for_every_list = preview_promise s c.args.kind c.args.yes c.args.fascn.now c.args.out.now _ f }
