-- `session::state::Session::field` meets its contract: the value is cut out at its place. Assumes nothing.
use mathlib.Core.Path.{ap, ◌∙◌}
use Rattle.card.specs.Object.{bytes_at}
use Rattle.session.proofs.CallLaws.{place_value}
use Rattle.session.proofs.CallPromiseLaws.{field_promise}
use Rattle.session.proofs.state.Session.field.Goals as goal

pub returns : goal.returns
returns c =
    let e = c.cut.ensures ∙ ap (bytes_at c.args.object.now) c.place.ensures.is ∙ place_value c.args.self c.args.object.now c.args.tag in
    record { result_value = e; for_every_list = field_promise c.args.self c.args.object.now c.args.tag _ e }
