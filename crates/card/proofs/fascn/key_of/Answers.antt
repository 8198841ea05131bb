-- `card::fascn::key_of` meets its contract: the first digits are copied. Assumes nothing.
use mathlib.Core.Path.{◌≡◌, ◌∙◌}
use mathlib.Core.List.{List}
use Prim.Native.Nat.{ℕ}
use lib.ListN.{take}
use lib.Seq.{get_or-take}
use Rattle.card.specs.Fascn.{key_of}
use Rattle.common.proofs.NumberLaws.{number_ext}
use Rattle.card.proofs.fascn.key_of.Goals as goal

-- the key is that of the first digits
first : (d : List ℕ) → key_of (take 16 d) ≡ key_of d
unfolding key_of
first d = number_ext 10 16 (λ i h. get_or-take 16 d i 0 h)

pub returns : goal.returns
returns c = c.key_from.ensures ∙ rw c.copy_from_slice.ensures.after (first c.args.d)
