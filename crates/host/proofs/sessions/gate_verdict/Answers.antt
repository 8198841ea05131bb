-- `host::sessions::gate_verdict` meets its contract: the verdict is taken on the session of the image. Assumes nothing.
use mathlib.Core.Path.{◌≡◌}
use Rattle.host.specs.Image.{load_of}
use Rattle.session.specs.Operation.{given, verdict_of}
use Rattle.session.proofs.CallPromiseLaws.{verdict_promise}
use Rattle.host.proofs.BoundaryLaws.{verdict_same, kept}
use Rattle.host.proofs.sessions.gate_verdict.Goals as goal

pub returns : goal.returns
returns c =
    let s = load_of c.args.image.now in
    let e : given c.verdict-answered.result ≡ verdict_of s c.args.kind c.args.yes c.args.fascn.now = rw c.load.ensures at c.verdict-answered.ensures.result_value in
    let k = kept c.args.image.now _ c.verdict-answered.result.session e c.keep.ensures.number c.keep.ensures.is c.keep.ensures.again (verdict_same s c.args.kind c.args.yes c.args.fascn.now) in
    record { number = k.0; is = k.1; for_every_list = verdict_promise s c.args.kind c.args.yes c.args.fascn.now k.2 }
