-- `card::fascn::characters::character_of` meets its contract: the sum is the number of its five bits. Assumes nothing.
use mathlib.Core.Path.{◌≡◌}
use mathlib.Core.List.{[], ◌∷◌}
use Prim.Native.Nat.{ℕ, ◌+◌, ◌*◌, ◌/◌, ◌%◌}
use native.Mathlib.Omega.{arith}
use lib.ListN.{get_or}
use Rattle.common.specs.Lists.{number}
use Rattle.card.specs.Fascn.{char_bit}
use Rattle.card.specs.FascnCode.{char_of}
use native.Mathlib.Nat.{div-one}
use Rattle.card.proofs.fascn.characters.character_of.Goals as goal

five : (a b c d p : ℕ) → 16 * a + 8 * b + 4 * c + 2 * d + p ≡ number 2 5 (λ j. get_or (a ∷ b ∷ c ∷ d ∷ p ∷ []) j 0)
unfolding number
five a b c d p = omega arith

pub returns : goal.returns
unfolding char_of char_bit number
returns c =
    rw div-one (five (c.args.x % 2) (c.args.x / 2 % 2) (c.args.x / 4 % 2) (c.args.x / 8 % 2) ((1 + c.args.x % 2 + c.args.x / 2 % 2 + c.args.x / 4 % 2 + c.args.x / 8 % 2) % 2))
