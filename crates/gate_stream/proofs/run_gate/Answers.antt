-- `gate_stream::run_gate` meets its contract: it hands on how the run ended. Assumes nothing.
use Rattle.gate_stream.proofs.StreamLaws.{all_written}
use Rattle.gate_stream.proofs.run_gate.Goals as goal

pub returns-in_default-clause-whole : goal.returns-in_default-clause-whole
returns-in_default-clause-whole g c = all_written _ _ _ _ _ _ _ c.run_whole-end.ensures.for_every_list
