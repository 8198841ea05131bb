-- `gate_stream::run_whole` meets its contract: what was fed, from the start to the end, and the text of the end. Assumes nothing.
use mathlib.Core.Path.{◌≡◌, subst}
use borrow.Author.Rules.{rules}
use Rattle.std.proofs.Common.{Result, Err, OnOk, IfErr, replicate}
use Rattle.std.specs.Io.KnownBytes.{Appends}
use Rattle.session.specs.Tables.{object_size}
use Rattle.gate_stream.specs.Stream.{Fed}
use Rattle.gate_stream.specs.declared.GateError.{GateError}
use Rattle.gate_stream.specs.declared.GateError.TheVariants.{NoEnd}
use Rattle.gate_stream.proofs.StreamLaws.{ends_failed, ends_with}
use Rattle.gate_stream.proofs.run_whole.Goals as goal

pub returns-in_err-fed : goal.returns-in_err-fed
returns-in_err-fed g c =
    let e : c.run_input-fed.result ≡ Err c.in_err-fed.field-0.0 = c.in_err-fed.was in
    let k : c.from_residual.result ≡ Err c.in_err-fed.field-0.0 = search rules in
    let f = subst (λ (r : Result Unit GateError). Fed c.new-gate.result c.run_input-fed.new.gate (g.R.Read.remaining c.args.from.now) (g.R.Read.remaining c.run_input-fed.new.from)
    (g.W.Write.contents c.args.to.now) (g.W.Write.contents c.run_input-fed.new.to) r) e c.run_input-fed.ensures in
    record { for_every_list = rw k (ends_failed (replicate object_size 0) _ _ _ _ _ _ _ c.in_err-fed.field-0.0 c.new-gate.ensures f c.clear.ensures) }

pub returns : goal.returns
returns g c =
    let f = subst (λ (r : Result Unit GateError). Fed c.new-gate.result c.run_input-fed.new.gate (g.R.Read.remaining c.args.from.now) (g.R.Read.remaining c.run_input-fed.new.from)
    (g.W.Write.contents c.args.to.now) (g.W.Write.contents c.run_input-fed.new.to) r) c.in_ok-fed.was c.run_input-fed.ensures in
    let w : OnOk c.map_err.result (Appends (g.W.Write.contents c.run_input-fed.new.to) (g.W.Write.contents c.write_all.new.self) c.last_text.new.out) = search rules in
    let n : IfErr c.map_err.result (λ (why : GateError). why ≡ NoEnd) = search rules in
    record { for_every_list = ends_with (replicate object_size 0) _ _ _ _ _ _ _ _ c.map_err.result c.new-gate.ensures f c.last_text.ensures w n }
