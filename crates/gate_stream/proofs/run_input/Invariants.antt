-- `gate_stream::run_input` meets its contract: block after block is fed, each of a byte or more, and its text written. Assumes nothing.
use Rattle.gate_stream.proofs.StreamLaws.{FedBy}
use Rattle.gate_stream.proofs.run_input.Given as goal

abbrev pub invariant-loop : goal.invariant-loop
invariant-loop g l =
    FedBy l.counter l.initial.gate l.gate (g.R.Read.remaining l.initial.from) (g.R.Read.remaining l.from) (g.W.Write.contents l.initial.to) (g.W.Write.contents l.to)
