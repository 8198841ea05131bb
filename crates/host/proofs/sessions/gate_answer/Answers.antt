-- `host::sessions::gate_answer` meets its contract: the answer is taken on the session of the image. Assumes nothing.
use borrow.Author.Rules.{rules}
use mathlib.Core.Path.{◌≡◌}
use Rattle.host.specs.Image.{load_of}
use Rattle.session.specs.Operation.{given, answer_of, answer_buffer}
use Rattle.session.proofs.CallPromiseLaws.{answer_promise}
use Rattle.host.proofs.BoundaryLaws.{answer_same, kept}
use Rattle.host.proofs.sessions.gate_answer.Goals as goal

pub returns : goal.returns
returns c =
    let s = load_of c.args.image.now in
    let e : given c.answer-answered.result ≡ answer_of s c.args.object.now c.args.answer.now c.args.cancelled.now = rw c.load.ensures at c.answer-answered.ensures.result_value in
    let w : c.answer-answered.new.object ≡ answer_buffer s c.args.object.now c.args.answer.now = rw c.load.ensures at c.answer-answered.ensures.object_after in
    let k = kept c.args.image.now _ c.answer-answered.result.session e c.keep.ensures.number c.keep.ensures.is c.keep.ensures.again (answer_same s c.args.object.now c.args.answer.now c.args.cancelled.now) in
    record { number = k.0; is = k.1; buffer = w; for_every_list = answer_promise s c.args.object.now c.args.answer.now c.args.cancelled.now _ (λ i. search rules) k.2 w }
