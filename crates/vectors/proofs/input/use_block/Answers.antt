-- `vectors::input::use_block` meets its contract: what is moved to the front is what the lines leave. Assumes nothing.
use mathlib.Core.Path.{ap, ◌∙◌}
use Prim.Native.Nat.{◌≤◌}
use native.Mathlib.Omega.{arith}
use lib.ListN.{length, length-take}
use Rattle.vectors.proofs.InputLaws.{kept_is}
use Rattle.vectors.proofs.input.use_block.Goals as goal
use Rattle.vectors.proofs.input.use_block.Goals.{After-text_of_lines-used}

-- the lines end within the bytes that are used
used_inside : (c : goal.After-text_of_lines-used) → c.text_of_lines-used.result ≤ c.args.end
used_inside c = omega (arith, c.text_of_lines-used.ensures.inside, ap length c.front.ensures, length-take c.args.end c.args.block.now)

pub copy_within-requires : goal.copy_within-requires
copy_within-requires c =
    let inside = used_inside (goal.at.copy_within-requires c).After-text_of_lines-used in
    record { start_le_end = inside; in_bounds = c.requires; dest_in_bounds = omega (arith, c.requires, inside); not_exhausted = tt }

pub returns : goal.returns
returns c =
    let is = kept_is c.args.block.now c.text_of_lines-used.result c.args.end c.requires (used_inside (goal.at.returns c).After-text_of_lines-used) (rw c.front.ensures at c.text_of_lines-used.ensures.rest) in
    record { text = rw c.front.ensures at c.text_of_lines-used.ensures.text; holds = c.copy_within.ensures.after ∙ is.0; held = (is.1, omega arith) }
