-- `host::sessions::gate_command` meets its contract: the command of the session of the image. Assumes nothing.
use mathlib.Core.Path.{◌≡◌, ap, ◌∙◌}
use Prim.Native.Nat.{ℕ}
use lib.ListN.{length}
use Rattle.session.specs.declared.state.Session.{Session}
use Rattle.session.specs.Operation.{command_given, command_of, command_buffer}
use Rattle.session.proofs.CallPromiseLaws.{command_promise}
use Rattle.host.specs.Call.{image_after}
use Rattle.host.specs.Image.{load_of}
use Rattle.host.proofs.BoundaryLaws.{command_kept}
use Rattle.host.proofs.sessions.gate_command.Goals as goal

pub returns : goal.returns
returns c =
    let s = load_of c.args.image.now in
    let room = length c.args.out.now in
    let a = c.command-sent.result in
    let e : command_given a ≡ command_of s room = rw c.load.ensures at c.command-sent.ensures.result_value in
    let w : c.command-sent.new.out ≡ command_buffer s c.args.out.now = rw c.load.ensures at c.command-sent.ensures.out_after in
    let k = command_kept c.args.image.now room c.args.count.now a.reply a.session e c.keep.ensures.number c.write_value.ensures.is c.keep.ensures.is c.keep.ensures.again in
    record {
      number = ap (λ (y : ℕ × ℕ × Session). y.0) k.1;
      counts = k.0;
      is = c.keep.ensures.is ∙ ap (λ (y : ℕ × ℕ × Session). image_after c.args.image.now (c.keep.result, y.2)) e;
      buffer = w;
      for_every_list = command_promise s c.args.out.now _ k.1 w;
    }
