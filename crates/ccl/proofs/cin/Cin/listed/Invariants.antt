-- `ccl::cin::Cin::listed` meets its contract: a turn passes a line. Assumes nothing.
use mathlib.Core.Path.{◌≡◌}
use Prim.Native.Nat.{◌+◌, ◌≤◌}
use lib.ListN.{length}
use Rattle.ccl.specs.Visual.{text_lines, lookup_of}
use Rattle.ccl.specs.VisualCode.{pass_over}
use Rattle.ccl.proofs.cin.Cin.listed.Given as goal

abbrev pub invariant-loop-rest : goal.invariant-loop-rest
invariant-loop-rest l = (l.lines + length l.rest ≤ length l.text) × (pass_over l.self.0 l.lines l.met (text_lines l.rest) ≡ lookup_of l.self.0 l.text)

abbrev pub decreases-loop-rest : goal.decreases-loop-rest
decreases-loop-rest l = length l.rest
