-- `common::slice::before_first` meets its contract: it is looked for from the first place on. Assumes nothing.
use mathlib.Core.Path.{◌∙◌}
use Prim.Native.Nat.{zero-le}
use native.Mathlib.Nat.{zero-add}
use Rattle.common.proofs.slice.before_first.Goals as goal

pub returns : goal.returns
returns c = record { is = c.find.ensures.is ∙ zero-add _; inside = c.find.ensures.inside zero-le }
