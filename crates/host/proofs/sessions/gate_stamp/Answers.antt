-- `host::sessions::gate_stamp` meets its contract: the stamp of the session of the image. Assumes nothing.
use mathlib.Core.Path.{◌≡◌, ap, ◌∙◌}
use Prim.Native.Nat.{ℕ}
use lib.ListN.{length}
use Rattle.session.specs.declared.state.Session.{Session}
use Rattle.host.specs.Image.{load_of}
use Rattle.session.specs.Operation.{given, stamp_answer, stamp_buffer}
use Rattle.session.proofs.CallPromiseLaws.{stamp_promise}
use Rattle.host.proofs.BoundaryLaws.{stamp_given}
use Rattle.host.proofs.sessions.gate_stamp.Goals as goal

pub returns : goal.returns
returns c =
    let s = load_of c.args.image.now in
    let e : given c.stamp.result ≡ stamp_answer s (length c.args.out.now) = rw c.load.ensures at c.stamp.ensures.result_value in
    let w : c.stamp.new.out ≡ stamp_buffer s c.args.out.now = rw c.load.ensures at c.stamp.ensures.out_after in
    let n = c.number.ensures ∙ ap (λ (x : ℕ × Session). x.0) e in
    record { number = n; is = w; for_every_list = stamp_promise s c.args.out.now _ (stamp_given s (length c.args.out.now) n) w }
