-- The figures of documents 01 and 02: what is to be known of the object buffer's size, of where each step's data begins in it and how much it may hold; and, as the papers write them, the
-- ceilings on answers (document 02, requests 1 and 7) and the sizes of a stamp.
-- Assumes nothing.
use mathlib.Core.Path.{◌≡◌, refl}
use mathlib.Core.Bool.{Bool, true, false, cond, ◌&&◌}
use Prim.Native.Nat.{ℕ, ◌+◌, ◌*◌, ◌≤◌, ◌<◌}
use native.Mathlib.Omega.{arith}
use lib.Dec.{eqb}
use Rattle.session.specs.Tables.{before, since, mode_in_range, mode_opens, object_size, reads_picture, usual_capacity, picture_capacity, base_of, capacity, answers_most, stamp_size}

-- what a step may hold fits the object buffer
pub base_fits : (mode step : ℕ) → base_of step + capacity mode step ≤ object_size
unfolding base_of capacity object_size
base_fits mode step = go (eqb step 2) (reads_picture mode)
  where
    go : (two picture : Bool) → cond two usual_capacity 0 + cond (two && picture) picture_capacity usual_capacity ≤ object_size
    go true true = omega arith
    go true false = omega arith
    go false picture = omega arith

pub base_inside : (step : ℕ) → base_of step ≤ object_size
base_inside step = let fits = base_fits 0 step in omega (arith, fits)

-- the data of every step but step 2 begins where step 1's does
pub base_by : (step : ℕ) → base_of step ≡ cond (eqb step 2) (base_of 2) (base_of 1)
unfolding base_of
base_by step = refl

-- step 1's data lies before step 2's
pub steps_apart : (mode : ℕ) → base_of 1 + capacity mode 1 ≤ base_of 2
unfolding base_of capacity
steps_apart mode = omega arith

-- the object buffer is far smaller than the numbers of the code
pub object_small : object_size < 65536
unfolding object_size
object_small = omega arith

-- a stamp has a second byte
pub stamp_long : 1 < stamp_size since
unfolding stamp_size
stamp_long = omega arith

-- the object buffer has 8,192 bytes before the picture modes, 20,480 since
pub object_sizes : (before.object_size ≡ 8192) × (since.object_size ≡ 20480)
unfolding object_size
object_sizes = (refl, refl)

-- a stamp has 45 bytes before the picture modes, 46 since
pub stamp_sizes : (stamp_size before ≡ 45) × (stamp_size since ≡ 46)
unfolding stamp_size
stamp_sizes = (refl, refl)

-- the ceiling: 8,196 answers in a step, but 32,772 in step 2 of a mode that reads the picture; 24,588 in all, but 49,164 in such a mode
pub answers_figures : (mode step : ℕ) → (answers_most mode step ≡ cond (eqb step 2 && reads_picture mode) 32772 8196)
    × (answers_most mode 0 + answers_most mode 1 + answers_most mode 2 ≡ cond (reads_picture mode) 49164 24588)
unfolding capacity
answers_figures mode step = (by_step (eqb step 2 && reads_picture mode), in_all (reads_picture mode))
  where
    by_step : (b : Bool) → 2 * (cond b picture_capacity usual_capacity + 2) ≡ cond b 32772 8196
    by_step true = refl
    by_step false = refl

    in_all : (b : Bool) → 2 * (usual_capacity + 2) + 2 * (usual_capacity + 2) + 2 * (cond b picture_capacity usual_capacity + 2) ≡ cond b 49164 24588
    in_all true = refl
    in_all false = refl

-- a mode that may be opened is in range
pub opens_in_range : (mode : ℕ) → mode_opens since mode ≡ true → mode_in_range since mode ≡ true
opens_in_range mode e = e
