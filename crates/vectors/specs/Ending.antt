-- Why the program ends before its input does.
-- Assumes nothing.
use Rattle.std.specs.Prelude.{List, [], ◌∷◌, ◌++◌, ℕ, codes}
use Rattle.vectors.specs.declared.VectorsError.{VectorsError}
use Rattle.vectors.specs.declared.VectorsError.TheVariants.{LongLine, LongText, NoInput, NoOutput}

-- The line on standard error that says so.
abbrev pub reason_of : VectorsError → List ℕ
reason_of LongLine = codes "vectors: a line does not fit the buffer" ++ (0x0A ∷ [])
reason_of LongText = codes "vectors: the text of a block does not fit the buffer" ++ (0x0A ∷ [])
reason_of NoInput = codes "vectors: standard input is not read" ++ (0x0A ∷ [])
reason_of NoOutput = codes "vectors: standard output is not written" ++ (0x0A ∷ [])
