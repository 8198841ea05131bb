-- `host_examples::line::add_numbers` meets its contract: a turn adds a number. Assumes nothing.
use lib.ListN.{length, get_or}
use Rattle.append.proofs.AppendLaws.{AddedSoFar}
use Rattle.host_examples.specs.LineText.{number_part}
use Rattle.host_examples.proofs.line.add_numbers.Given as goal

abbrev pub invariant-loop-n : goal.invariant-loop-n
invariant-loop-n l = AddedSoFar 512 l.initial.out (length l.numbers) (λ j. number_part (get_or l.numbers j 0)) l.n-index l.out
