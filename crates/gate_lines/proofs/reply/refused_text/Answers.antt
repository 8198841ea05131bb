-- `gate_lines::reply::refused_text` meets its contract: three parts, of which the second is the number's digits. Assumes nothing.
use mathlib.Core.Path.{◌≡◌, ap, ◌∙◌}
use mathlib.Core.List.{List, ◌++◌}
use Prim.Native.Nat.{ℕ}
use native.Mathlib.Omega.{arith}
use Rattle.append.specs.Append.{number_text}
use Rattle.session.specs.Tables.{stamp_size}
use Rattle.gate_lines.specs.Gate.{refused_head, closing, decimal_text, refused_text, text_size}
use Rattle.gate_lines.proofs.ReplyTextLaws.{number_decimal, three_parts, refused_fits}
use Rattle.gate_lines.proofs.reply.refused_text.Goals as goal

pub returns : goal.returns
unfolding refused_text text_size stamp_size
returns c =
    let n = c.args.n in
    let digits : number_text c.from.result ≡ decimal_text n = ap number_text c.from.ensures ∙ number_decimal n (omega arith) in
    three_parts text_size refused_head (number_text c.from.result) closing c.new-text.ensures c.add.ensures c.add_decimal.ensures c.add-2.ensures (rw digits (refused_fits n))
    ∙ ap (λ (l : List ℕ). refused_head ++ l ++ closing) digits
