-- `host::sessions::gate_field` meets its contract: the place in the session of the image. Assumes nothing.
use mathlib.Core.Path.{◌≡◌, refl}
use lib.ListN.{length}
use Rattle.host.specs.Image.{load_of}
use Rattle.session.specs.Operation.{field_place}
use Rattle.session.proofs.CallPromiseLaws.{place_promise}
use Rattle.host.proofs.sessions.gate_field.Goals as goal

pub returns : goal.returns
returns c = let s = load_of c.args.image.now in
    let e : c.place-place.result ≡ field_place s (length c.args.object.now) c.args.tag = rw c.load.ensures at c.place-place.ensures.is in
    record { is = e; for_every_list = place_promise s (length c.args.object.now) c.args.tag e c.args.object.now refl }
