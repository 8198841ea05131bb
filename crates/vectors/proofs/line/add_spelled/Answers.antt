-- `vectors::line::add_spelled` meets its contract: the bytes that are read are those that the digits spell. Assumes nothing.
use mathlib.Core.Path.{◌≡◌, sym, ap, ap₂, ◌∙◌}
use mathlib.Core.List.{List}
use Prim.Native.Nat.{ℕ, ◌/◌}
use native.Mathlib.Omega.{arith}
use lib.ListN.{length, take, replicate, length-replicate}
use Rattle.common.specs.Lists.{written}
use Rattle.text.specs.Hex.{bytes_in, byte_at}
use Rattle.text.proofs.HexLaws.{front_bytes}
use Rattle.vectors.specs.Answer.{named_text}
use Rattle.vectors.specs.Out.{with_text}
use Rattle.vectors.proofs.line.add_spelled.Goals as goal

pub returns-in-Some : goal.returns-in-Some
unfolding named_text
returns-in-Some c =
    let b : List ℕ = replicate 65536 0 in
    let half : c.read-n.result ≡ length c.args.digits.now / 2 = omega (arith, length-replicate {0} {A = ℕ} 65536 0) in
    let spelled : take c.read-n.result c.read-n.new.out ≡ bytes_in c.args.digits.now =
    ap (λ (l : List ℕ). take c.read-n.result l) c.read-n.ensures.stores ∙ ap (λ (i : ℕ). take i (written b 0 i (byte_at c.args.digits.now))) half ∙ front_bytes c.args.digits.now b in
    c.answer.ensures ∙ ap (with_text c.args.out.now) (ap₂ named_text (sym c.in-Some.is ∙ c.call_of.ensures) spelled)
