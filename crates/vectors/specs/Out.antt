-- The buffer that the texts of a block are added to.
-- Assumes nothing.
use Rattle.std.specs.Prelude.{List, ℕ}
use Rattle.append.specs.Append.{added}

-- The most bytes of text of a block.
abbrev pub text_size : ℕ
text_size = 1310720

-- The text s after what stands in the buffer.
abbrev pub with_text : List ℕ → List ℕ → List ℕ
with_text before s = added text_size before s
