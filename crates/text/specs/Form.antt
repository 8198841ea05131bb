-- Strings in which decimal digits stand at given places. Such strings are told from others by two of them: the one with
-- 0 at every such place, and the one with 9. A string has the form exactly where each of its bytes lies between theirs:
-- it is theirs where the two agree, and a digit where they do not.
-- Assumes nothing.
use Rattle.std.specs.Prelude.{Bool, ◌&&◌, List, ℕ, eqb, leb, length, get_or}
use Rattle.common.specs.Lists.{all}

-- Each byte of s lies between those of the two strings, and there are as many.
unfoldable pub between_at : List ℕ → List ℕ → List ℕ → ℕ → Bool
between_at lowest highest s i = leb (get_or lowest i 0) (get_or s i 0) && leb (get_or s i 0) (get_or highest i 0)

unfoldable pub between : List ℕ → List ℕ → List ℕ → Bool
between lowest highest s =
    eqb (length s) (length lowest) && eqb (length s) (length highest) && all (length s) (between_at lowest highest s)
