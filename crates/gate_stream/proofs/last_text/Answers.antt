-- `gate_stream::last_text` meets its contract: there is room for both texts. Assumes nothing.
use mathlib.Core.Path.{ap, ◌∙◌}
use mathlib.Core.List.{List}
use lib.ListN.{length}
use native.Mathlib.Omega.{arith}
use Prim.Native.Nat.{ℕ}
use Rattle.append.specs.Append.{added}
use Rattle.gate_lines.specs.Gate.{end_text}
use Rattle.gate_lines.specs.Input.{InputState}
use Rattle.gate_stream.specs.Stream.{out_size}
use Rattle.gate_stream.proofs.StreamLaws.{ending_added}
use Rattle.gate_stream.proofs.last_text.Goals as goal

pub returns : goal.returns
returns c =
    ending_added c.args.gate.now c.clear.new.self c.add.new.self c.as_bytes-2.result.now c.add-2.new.self c.clear.ensures
    (c.add.ensures ∙ ap (λ (t : List ℕ). added out_size c.clear.new.self t) (c.as_bytes.ensures ∙ c.last.ensures.prints))
    (c.as_bytes-2.ensures ∙ c.end_text-end.ensures.is ∙ ap (λ (m : InputState). end_text m.gate.session) c.last.ensures.state)
    (omega (arith, ap length c.as_bytes-2.ensures, c.len.ensures.is, c.if-prove.false)) c.add-2.ensures
