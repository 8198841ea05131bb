-- The object buffer: data stored after what a step holds is held with it, and what stands before stays.
-- Assumes nothing.
use mathlib.Core.Path.{◌≡◌, sym, ap, ◌∙◌}
use mathlib.Core.List.{List, ◌++◌, append_assoc}
use Prim.Native.Nat.{ℕ, ◌+◌, ◌≤◌}
use native.Mathlib.Omega.{arith}
use lib.ListN.{length, take, drop}
use lib.Seq.{take-append_seam, take-append-add, take-add, take-append-le, drop_at, length-take-le, take-take}
use Rattle.common.proofs.ListsLaws.{length_over}
use Rattle.common.specs.Lists.{over_places}

-- data that is stored after what is held
module _ (m j xs : List ℕ) (base : ℕ) (fits : base + length j + length xs ≤ length m) (held : take (length j) (drop base m) ≡ j) where
  pub holds_more : take (length j + length xs) (drop base (over_places m (base + length j) xs)) ≡ j ++ xs
  unfolding over_places
  holds_more =
      rw (take-add base (length j) m, held, append_assoc, append_assoc, drop_at (take base m) (j ++ (xs ++ drop (base + length j + length xs) m)) base (length-take-le base m (omega arith)), take-append-add, take-append_seam)

-- what stands before the place that is written stays
front_stays : (m xs : List ℕ) (n at : ℕ) → n ≤ at → at ≤ length m → take n (over_places m at xs) ≡ take n m
unfolding over_places
front_stays m xs n at h k =
    let l : length (take at m) ≡ at = length-take-le at m k in
    rw append_assoc (take-append-le n (take at m) (xs ++ drop (at + length xs) m) (omega arith) ∙ take-take n at m h)

-- a part of a list as the end of what the list begins with
part_end : (base n : ℕ) (l : List ℕ) → base ≤ length l → take n (drop base l) ≡ drop base (take (base + n) l)
part_end base n l h = sym (ap (drop base) (take-add base n l) ∙ drop_at (take base l) (take n (drop base l)) base (length-take-le base l h))

pub before_stays : (m xs : List ℕ) (base n at : ℕ) → base + n ≤ at → at + length xs ≤ length m → take n (drop base (over_places m at xs)) ≡ take n (drop base m)
before_stays m xs base n at h k =
    part_end base n (over_places m at xs) (omega (arith, length_over m xs at k)) ∙ ap (drop base) (front_stays m xs (base + n) at h (omega arith))
    ∙ sym (part_end base n m (omega arith))
