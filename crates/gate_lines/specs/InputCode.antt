-- How far a call of `feed_line` uses a block, and the part of the block that it has used; the public contracts cite
-- both.
-- Assumes nothing.
use Rattle.std.specs.Prelude.{cond, List, ℕ, ◌+◌, ◌-◌, ltb, length, take, drop}
use Rattle.common.specs.Bytes.{index_of}

-- How far a block is used, from place `from` on: to the place after the first 0A, or to the block's end where no 0A
-- comes. Where `from` is the block's end or past it, nothing is used, and the place is `from` itself.
unfoldable pub used_after : List ℕ → ℕ → ℕ
used_after block from = let end = from + index_of 0x0A (drop from block) in cond (ltb end (length block)) (end + 1) end

-- The part of a block from a place on to another, which is fed at once: `feed_line` takes it to the first 0A with it, or to the end.
unfoldable pub part_from : List ℕ → ℕ → ℕ → List ℕ
part_from block from used = take (used - from) (drop from block)
