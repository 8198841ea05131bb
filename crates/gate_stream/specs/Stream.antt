-- What was fed to the program, what it wrote, and what is printed at the end.
-- Assumes nothing.
use Rattle.std.specs.Prelude.{◌≡◌, List, [], ◌∷◌, ◌++◌, ℕ, ◌-◌, ◌*◌, ◌^◌, ◌≤◌, ◌⊎◌, Option, Result, Ok, Err, OnOk, length, take, codes}
use Rattle.std.specs.Io.KnownBytes.{Consumes, IsAtEnd, Appends, Keeps}
use Rattle.gate_lines.specs.Gate.{fresh, end_text}
use Rattle.gate_lines.specs.Run.{SinceOpen, since_open, printed_for, end_for}
use Rattle.gate_lines.specs.Input.{lines_in, InputState, input_after, text_of_input, last_gate, last_text, printed_of}
use Rattle.gate_stream.specs.declared.GateError.{GateError}
use Rattle.gate_stream.specs.declared.GateError.TheVariants.{NoInput, NoOutput, NoEnd}

-- How many bytes are read at once.
abbrev pub read_size : ℕ
read_size = 16384

-- The most that one byte of the input prints: `(refused 255)` and 0A, where the byte is the 0A of a line. And the room
-- for what a block prints.
abbrev pub reply_most : ℕ
reply_most = 14

abbrev pub out_size : ℕ
out_size = read_size * reply_most

-- Before the end of the input: every write was taken, or one was not, of which the library says nothing. The text of
-- the end is not written yet.
abbrev pub WhereTaken : Result Unit GateError → Type 0 → Type 0
WhereTaken (Ok done) p = p
WhereTaken (Err NoInput) p = p
WhereTaken (Err NoOutput) p = Unit
WhereTaken (Err NoEnd) p = ⊥

-- The input was read to its end, or so many bytes were read that no run comes to it.
abbrev pub ReadWhole : Option (List ℕ) → List ℕ → Type 0
ReadWhole left bytes = IsAtEnd left ⊎ (2 ^ 64 - 1 ≤ length bytes)

-- One block: the first n bytes of the buffer are those that a read gave, none only at the end of the input. The second
-- state is what the first becomes by just these bytes, and the text is just what they print.
pub record BlockFed (m m' : InputState) (left left' : Option (List ℕ)) (buffer text : List ℕ) (n : ℕ) : Type 0 where
  pub within : n ≤ length buffer
  pub read : Consumes left left' (take n buffer)
  pub whole : n ≡ 0 → IsAtEnd left'
  pub state : m' ≡ input_after m (take n buffer)
  pub prints : text ≡ text_of_input m (take n buffer)

-- One block that failed. Where its read did, nothing was fed or written, and the text stands as it was. Where the write
-- did, it was read and fed; of what was written the library says nothing.
abbrev pub BlockFails : GateError → (m m' : InputState) (left left' held held' : Option (List ℕ)) (buffer before text : List ℕ)
    → Type 0
BlockFails NoInput m m' left left' held held' buffer before text = Keeps left left' × (m' ≡ m) × (held' ≡ held) × (text ≡ before)
BlockFails NoOutput m m' left left' held held' buffer before text = (n : ℕ) × BlockFed m m' left left' buffer text n
BlockFails NoEnd m m' left left' held held' buffer before text = ⊥

-- The second state is what the first becomes by some bytes: those that the reader had first, of which `left` were left
-- before and `left'` are now. What the definitions print for them was added to what the writer held. Where the reader's
-- or the writer's bytes are not known, as those of the system, this leaves open which bytes were read or written.
pub record Fed (m n : InputState) (left left' held held' : Option (List ℕ)) (r : Result Unit GateError) : Type 0 where
  pub bytes : List ℕ
  pub is : n ≡ input_after m bytes
  pub read : Consumes left left' bytes
  pub whole : OnOk r (ReadWhole left' bytes)
  pub wrote : WhereTaken r (Appends held held' (text_of_input m bytes))

-- What is printed at the end of the input: the text of a last line without 0A, and the stamp or its refusal.
unfoldable pub ending_text : InputState → List ℕ
ending_text m = last_text m ++ end_text (last_gate m).session

-- What the program prints for the bytes of the whole input by the reading: the answers to their lines, and at the end
-- demand 3's stamp or its refusal.
abbrev pub output_for : List ℕ → List ℕ → List ℕ
output_for object bytes = printed_for (fresh object) SinceOpen.none (lines_in bytes) ++ end_for (since_open (fresh object) (lines_in bytes))

-- What is handed on at the end, by how the program ended. After what the reading gives the whole lines, it makes up
-- what the reading gives all the lines and, at the end, demand 3's stamp or its refusal. Nothing is handed on where a
-- read failed, or a write before the end.
abbrev pub EndsWith : List ℕ → List ℕ → List ℕ → Type 0
EndsWith object bytes text = printed_of object bytes ++ text ≡ output_for object bytes

abbrev pub EndsBy : Result Unit GateError → List ℕ → List ℕ → List ℕ → Type 0
EndsBy (Ok done) object bytes text = EndsWith object bytes text
EndsBy (Err NoEnd) object bytes text = EndsWith object bytes text
EndsBy (Err NoInput) object bytes text = text ≡ []
EndsBy (Err NoOutput) object bytes text = text ≡ []

-- The input was read whole where neither a read nor a write before the end failed.
abbrev pub ReadBy : Result Unit GateError → Option (List ℕ) → List ℕ → Type 0
ReadBy (Ok done) left bytes = ReadWhole left bytes
ReadBy (Err NoEnd) left bytes = ReadWhole left bytes
ReadBy (Err NoInput) left bytes = Unit
ReadBy (Err NoOutput) left bytes = Unit

-- What was written in all, by how the program ended.
abbrev pub WroteBy : Result Unit GateError → Option (List ℕ) → Option (List ℕ) → List ℕ → List ℕ → Type 0
WroteBy (Ok done) held held' object bytes = Appends held held' (output_for object bytes)
WroteBy (Err NoInput) held held' object bytes = Appends held held' (printed_of object bytes)
WroteBy (Err NoOutput) held held' object bytes = Unit
WroteBy (Err NoEnd) held held' object bytes = Unit

-- The end of the program, for some bytes: those that the reader had first, all of them where neither a read nor a write
-- before the end failed. The object buffer had any content at first.
pub record EndsFor (object : List ℕ) (left left' held held' : Option (List ℕ)) (text : List ℕ) (r : Result Unit GateError) : Type 0 where
  pub bytes : List ℕ
  pub read : Consumes left left' bytes
  pub whole : ReadBy r left' bytes
  pub is : EndsBy r object bytes text
  pub wrote : WroteBy r held held' object bytes

-- The line on standard error that says why there is no stamp.
abbrev pub reason_of : GateError → List ℕ
reason_of NoInput = codes "gate: the input cannot be read, so there is no stamp" ++ (0x0A ∷ [])
reason_of NoOutput = codes "gate: standard output takes no more, so there is no stamp" ++ (0x0A ∷ [])
reason_of NoEnd = codes "gate: standard output takes no more, so there is no stamp" ++ (0x0A ∷ [])
