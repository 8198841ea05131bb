-- `host::lists::gate_list_write` meets its contract: the answer, its number and its value. Assumes nothing.
use mathlib.Core.Path.{refl}
use Rattle.common.specs.Refusal.{value_in}
use Rattle.ccl.specs.ListText.{write_number, write_never_zero}
use Rattle.host.proofs.AnswerLaws.{written_where}
use Rattle.host.proofs.lists.gate_list_write.Goals as goal

pub returns : goal.returns
returns c =
    let w = written_where write_number write_never_zero (value_in 0) (λ v. refl) c.args.count.now c.write.result c.write.ensures.result_value c.write_value.ensures.number c.write_value.ensures.is in
    record { number = w.0; counts = w.1; is = c.write.ensures.out_after }
