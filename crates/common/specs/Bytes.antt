-- Where a byte stands in a list: words that the library `bytes` of an older Rattle had, which contracts cite.
-- Assumes nothing.
use Rattle.std.specs.Prelude.{Bool, true, false, List, [], ◌∷◌, ℕ, suc, eqb}

-- 0 where the first byte is the one that is looked for, else one more than the place in the rest
unfoldable pub index_after : Bool → ℕ → ℕ
index_after true n = 0
index_after false n = suc n

-- the place of the first x in a list, its length where there is none
unfoldable pub index_of : ℕ → List ℕ → ℕ
index_of x [] = 0
index_of x (b ∷ s) = index_after (eqb b x) (index_of x s)
