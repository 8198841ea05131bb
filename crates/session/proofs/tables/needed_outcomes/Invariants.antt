-- `session::tables::needed_outcomes` meets its contract: a turn writes one outcome. Assumes nothing.
use Rattle.common.proofs.LoopLaws.{WrittenSoFar}
use Rattle.session.specs.Tables.{checks, needed_at}
use Rattle.session.proofs.tables.needed_outcomes.Given as goal

abbrev pub invariant-loop-i : goal.invariant-loop-i
invariant-loop-i l = WrittenSoFar l.initial.outcome-items 0 checks (needed_at l.mode) l.i l.outcome-items
