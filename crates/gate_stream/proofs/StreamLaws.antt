-- What was fed to the program, part by part, and what that prints. Assumes nothing.
use mathlib.Core.Path.{◌≡◌, refl, sym, ap, subst, ◌∙◌}
use mathlib.Core.List.{List, [], ◌∷◌, ◌++◌, append_assoc, append-nil}
use Prim.Native.Nat.{ℕ, ◌+◌, ◌-◌, ◌*◌, ◌^◌, ◌≤◌, ◌<◌}
use native.Mathlib.Omega.{arith}
use Prim.Native.Nat.{zero-le}
use lib.Dec.{eqb, ltb}
use lib.ListN.{length, take, drop, length-append, length-take}
use lib.Seq.{take-add}
use Rattle.std.proofs.Common.{inl, inr, Option, None, Some, IfSome, Result, Ok, Err, OnOk, IfErr}
use Rattle.std.specs.Io.KnownBytes.{Consumes, IsAtEnd, Appends, Keeps}
use Rattle.std.proofs.KnownBytes.{Consumes-nil, Consumes-trans, Consumes-kept, Appends-nil, Appends-trans}
use Rattle.common.proofs.TestLaws.{either}
use Rattle.append.specs.Append.{added}
use Rattle.append.proofs.AppendLaws.{added_all}
use Rattle.gate_lines.specs.Line.{line_in}
use Rattle.gate_lines.specs.Gate.{Reply, fresh, end_text, reply_to, reply_text, refused_head, closing, refused_text, decimal_text}
use Rattle.gate_lines.specs.Input.{InputState, input_after_byte, input_after, text_of_byte, text_of_input, cut, input_start, last_gate, last_text, printed_of}
use Rattle.gate_lines.specs.InputCode.{part_from}
use Rattle.gate_lines.specs.Run.{printed_for}
use Rattle.gate_lines.proofs.InputLaws.{feed_append, text_append, feed_promise, whole_reading}
use Rattle.gate_stream.specs.Stream.{read_size, reply_most, out_size, ReadWhole, BlockFed, BlockFails, Fed, ending_text, output_for, EndsFor}
use Rattle.gate_stream.specs.declared.GateError.{GateError}
use Rattle.gate_stream.specs.declared.GateError.TheVariants.{NoInput, NoOutput, NoEnd}

-- ---- a block, part by part

-- a part after the first
take_on : (u v : ℕ) (l : List ℕ) → u ≤ v → take v l ≡ take u l ++ take (v - u) (drop u l)
take_on u v l h = let e : v ≡ u + (v - u) = omega arith in ap (λ (n : ℕ). take n l) e ∙ take-add u (v - u) l

pub fed_part : (m n o : InputState) (block : List ℕ) (u v : ℕ) → u ≤ v → n ≡ input_after m (take u block) → o ≡ input_after n (part_from block u v) → o ≡ input_after m (take v block)
unfolding part_from
fed_part m n o block u v h p q =
    q ∙ ap (λ (x : InputState). input_after x (take (v - u) (drop u block))) p ∙ sym (feed_append (take u block) (take (v - u) (drop u block)) m) ∙ ap (input_after m) (sym (take_on u v block h))

pub text_part : (m n : InputState) (block : List ℕ) (u v : ℕ) → u ≤ v → n ≡ input_after m (take u block)
    → text_of_input m (take u block) ++ text_of_input n (part_from block u v) ≡ text_of_input m (take v block)
unfolding part_from
text_part m n block u v h p =
    ap (λ (x : InputState). text_of_input m (take u block) ++ text_of_input x (take (v - u) (drop u block))) p
    ∙ sym (text_append (take u block) (take (v - u) (drop u block)) m) ∙ ap (text_of_input m) (sym (take_on u v block h))

-- ---- how long a text is

pub reply_small : (r : Reply) → length (reply_text r) ≤ reply_most
unfolding reply_text refused_text decimal_text
reply_small Reply.ok = omega arith
reply_small Reply.bad = omega arith
reply_small (Reply.refused n) =
    either (λ (d : List ℕ). length (refused_head ++ d ++ closing) ≤ reply_most) (ltb n 10) (omega arith)
    (either (λ (d : List ℕ). length (refused_head ++ d ++ closing) ≤ reply_most) (ltb n 100) (omega arith) (omega arith))

pub text_small : (s : List ℕ) (m : InputState) → length (text_of_input m s) ≤ reply_most * length s
unfolding text_of_input
text_small [] m = zero-le
text_small (b ∷ s) m =
    let rest = text_small s (input_after_byte m b) in
    let one : length (text_of_byte m b) ≤ reply_most = either (λ (t : List ℕ). length t ≤ reply_most) (eqb b 0x0A) (reply_small (reply_to m.gate (line_in m.held))) zero-le in
    rw length-append (omega (arith, rest, one))

-- the buffer has room for the text of a block, so that the text of a part is added whole
pub part_added : (m n : InputState) (block : List ℕ) (u v : ℕ) → u ≤ v → length block ≤ read_size → n ≡ input_after m (take u block)
    → added out_size (text_of_input m (take u block)) (text_of_input n (part_from block u v)) ≡ text_of_input m (take v block)
part_added m n block u v h l p =
    let both = text_part m n block u v h p in
    let room : length (text_of_input m (take u block)) + length (text_of_input n (part_from block u v)) ≤ out_size =
    omega (arith, length-append (text_of_input m (take u block)) (text_of_input n (part_from block u v)), ap length both, text_small (take v block) m, length-take v block, l) in
    added_all out_size _ _ room ∙ both

-- ---- block after block

-- as many turns were made as is said, each of which fed a byte or more, and every write was taken
pub record FedBy (turns : ℕ) (m n : InputState) (left left' held held' : Option (List ℕ)) : Type 0 where
  pub bytes : List ℕ
  pub is : n ≡ input_after m bytes
  pub read : Consumes left left' bytes
  pub wrote : Appends held held' (text_of_input m bytes)
  pub each : turns ≤ length bytes

pub fed_start : (m : InputState) (left held : Option (List ℕ)) → FedBy 0 m m left left held held
unfolding input_after text_of_input
fed_start m left held = record { bytes = []; is = refl; read = Consumes-nil left; wrote = Appends-nil held; each = zero-le }

-- one block more
pub fed_block : (turns next : ℕ) (m n o : InputState) (left mid left' held was held' : Option (List ℕ)) (text block : List ℕ) → FedBy turns m n left mid held was → o ≡ input_after n block
    → Consumes mid left' block → text ≡ text_of_input n block → Appends was held' text → next ≤ turns + length block → FedBy next m o left left' held held'
fed_block turns next m n o left mid left' held was held' text block f e r t w h =
    record {
      bytes = f.bytes ++ block;
      is = e ∙ ap (λ (x : InputState). input_after x block) f.is ∙ sym (feed_append f.bytes block m);
      read = Consumes-trans left mid left' f.bytes block f.read r;
      wrote = rw (text_append f.bytes block m, ← f.is, ← t) (Appends-trans held was held' (text_of_input m f.bytes) text f.wrote w);
      each = omega (arith, f.each, length-append f.bytes block, h);
    }

-- the same of a block that was read and written
pub fed_on : (turns next : ℕ) (m n o : InputState) (left mid left' held was held' : Option (List ℕ)) (buffer text : List ℕ) (k : ℕ) → FedBy turns m n left mid held was
    → BlockFed n o mid left' buffer text k → Appends was held' (text_of_input n (take k buffer)) → next ≤ turns + k → FedBy next m o left left' held held'
fed_on turns next m n o left mid left' held was held' buffer text k f b w h =
    fed_block turns next m n o left mid left' held was held' (text_of_input n (take k buffer)) (take k buffer) f b.state b.read refl w (omega (arith, length-take k buffer, b.within, h))

-- the input was read whole
pub fed_whole : (turns : ℕ) (m n : InputState) (left left' held held' : Option (List ℕ)) → FedBy turns m n left left' held held' → IsAtEnd left' → Fed m n left left' held held' (Ok tt)
fed_whole turns m n left left' held held' f h = record { bytes = f.bytes; is = f.is; read = f.read; whole = inl h; wrote = f.wrote }

-- a read failed, which leaves what the reader has
pub fed_unread : (turns : ℕ) (m n : InputState) (left mid left' held held' : Option (List ℕ)) → FedBy turns m n left mid held held' → Keeps mid left' → Fed m n left left' held held' (Err NoInput)
fed_unread turns m n left mid left' held held' f k = record { bytes = f.bytes; is = f.is; read = Consumes-kept left mid left' f.bytes f.read k; whole = tt; wrote = f.wrote }

-- the text of a block was not taken
pub fed_untaken : (turns : ℕ) (m n o : InputState) (left mid left' held was held' : Option (List ℕ)) (block : List ℕ) → FedBy turns m n left mid held was → o ≡ input_after n block
    → Consumes mid left' block → Fed m o left left' held held' (Err NoOutput)
fed_untaken turns m n o left mid left' held was held' block f e r =
    record {
      bytes = f.bytes ++ block;
      is = e ∙ ap (λ (x : InputState). input_after x block) f.is ∙ sym (feed_append f.bytes block m);
      read = Consumes-trans left mid left' f.bytes block f.read r;
      whole = tt;
      wrote = tt;
    }

-- a block failed, by its read or by its write
pub fed_failed : (turns : ℕ) (m n o : InputState) (left mid left' held was held' : Option (List ℕ)) (buffer before text : List ℕ) (why : GateError) → FedBy turns m n left mid held was
    → BlockFails why n o mid left' was held' buffer before text → Fed m o left left' held held' (Err why)
fed_failed turns m n o left mid left' held was held' buffer before text NoInput f (kept, same, unwritten, t) = rw (same, unwritten) (fed_unread turns m n left mid left' held was f kept)
fed_failed turns m n o left mid left' held was held' buffer before text NoOutput f (k, b) = fed_untaken turns m n o left mid left' held was held' (take k buffer) f b.state b.read
fed_failed turns m n o left mid left' held was held' buffer before text NoEnd f b = absurd b

-- ---- the end

last_small : (m : InputState) → length (last_text m) ≤ reply_most
unfolding last_text
last_small m = either (λ (t : List ℕ). length t ≤ reply_most) (eqb (length m.held) 0) zero-le (reply_small (reply_to m.gate (line_in m.held)))

-- the buffer has room for the texts of the end
pub ending_added : (m : InputState) (none one end all : List ℕ) → none ≡ [] → one ≡ added out_size none (last_text m) → end ≡ end_text (last_gate m).session → length end ≤ 101
    → all ≡ added out_size one end → all ≡ ending_text m
unfolding ending_text
ending_added m none one end all e f g h k =
    let first : one ≡ last_text m = f ∙ ap (λ (x : List ℕ). added out_size x (last_text m)) e ∙ added_all out_size [] (last_text m) (omega (arith, last_small m)) in
    k ∙ ap (λ (x : List ℕ). added out_size x end) first ∙ added_all out_size (last_text m) end (omega (arith, last_small m, h)) ∙ ap (λ (x : List ℕ). last_text m ++ x) g

-- all that is printed for the bytes of whole lines is what the reading gives them
pub printed_is : (object bytes : List ℕ) → text_of_input (input_start (fresh object)) bytes ≡ printed_of object bytes
unfolding input_after cut printed_for
printed_is object bytes = feed_promise (input_start (fresh object)) bytes (text_of_input (input_start (fresh object)) bytes) refl object [] refl

-- and with the text of the end it is what the reading gives the whole input
pub ending_is : (object bytes : List ℕ) (e : InputState) → e ≡ input_after (input_start (fresh object)) bytes → text_of_input (input_start (fresh object)) bytes ++ ending_text e ≡ output_for object bytes
unfolding ending_text
ending_is object bytes e p =
    let m = input_after (input_start (fresh object)) bytes in
    ap (λ (x : InputState). text_of_input (input_start (fresh object)) bytes ++ (last_text x ++ end_text (last_gate x).session)) p
    ∙ sym (append_assoc (text_of_input (input_start (fresh object)) bytes) (last_text m) (end_text (last_gate m).session)) ∙ whole_reading object bytes

-- the text of the end is handed on, and taken or not; m is the program at its start
ends_taken : (object : List ℕ) (m e : InputState) (left left' held was held' : Option (List ℕ)) (text : List ℕ) → m ≡ input_start (fresh object) → Fed m e left left' held was (Ok tt)
    → text ≡ ending_text e → Appends was held' text → EndsFor object left left' held held' text (Ok tt)
ends_taken object m e left left' held was held' text p f k w =
    let f' : Fed (input_start (fresh object)) e left left' held was (Ok tt) = subst (λ (x : InputState). Fed x e left left' held was (Ok tt)) p f in
    let before = text_of_input (input_start (fresh object)) f'.bytes in
    let all : before ++ text ≡ output_for object f'.bytes = ap (λ (t : List ℕ). before ++ t) k ∙ ending_is object f'.bytes e f'.is in
    record {
      bytes = f'.bytes;
      read = f'.read;
      whole = f'.whole;
      is = ap (λ (t : List ℕ). t ++ text) (sym (printed_is object f'.bytes)) ∙ all;
      wrote = subst (λ (t : List ℕ). Appends held held' t) all (Appends-trans held was held' before text f'.wrote w);
    }

ends_untaken : (object : List ℕ) (m e : InputState) (left left' held was held' : Option (List ℕ)) (text : List ℕ) → m ≡ input_start (fresh object) → Fed m e left left' held was (Ok tt)
    → text ≡ ending_text e → EndsFor object left left' held held' text (Err NoEnd)
ends_untaken object m e left left' held was held' text p f k =
    let f' : Fed (input_start (fresh object)) e left left' held was (Ok tt) = subst (λ (x : InputState). Fed x e left left' held was (Ok tt)) p f in
    let before = text_of_input (input_start (fresh object)) f'.bytes in
    record {
      bytes = f'.bytes;
      read = f'.read;
      whole = f'.whole;
      is = ap (λ (t : List ℕ). t ++ text) (sym (printed_is object f'.bytes)) ∙ ap (λ (t : List ℕ). before ++ t) k ∙ ending_is object f'.bytes e f'.is;
      wrote = tt;
    }

-- a read failed, or a write before the end
pub ends_failed : (object : List ℕ) (m e : InputState) (left left' held held' : Option (List ℕ)) (text : List ℕ) (why : GateError) → m ≡ input_start (fresh object) → Fed m e left left' held held' (Err why)
    → text ≡ [] → EndsFor object left left' held held' text (Err why)
ends_failed object m e left left' held held' text NoInput p f k =
    record {
      bytes = f.bytes;
      read = f.read;
      whole = tt;
      is = k;
      wrote = subst (λ (t : List ℕ). Appends held held' t) (ap (λ (x : InputState). text_of_input x f.bytes) p ∙ printed_is object f.bytes) f.wrote;
    }
ends_failed object m e left left' held held' text NoOutput p f k = record { bytes = f.bytes; read = f.read; whole = tt; is = k; wrote = tt }
ends_failed object m e left left' held held' text NoEnd p f k = absurd f.wrote

pub ends_with : (object : List ℕ) (m e : InputState) (left left' held was held' : Option (List ℕ)) (text : List ℕ) (r : Result Unit GateError) → m ≡ input_start (fresh object)
    → Fed m e left left' held was (Ok tt) → text ≡ ending_text e → OnOk r (Appends was held' text) → IfErr r (λ (why : GateError). why ≡ NoEnd) → EndsFor object left left' held held' text r
ends_with object m e left left' held was held' text (Ok done) p f k w n = ends_taken object m e left left' held was held' text p f k w
ends_with object m e left left' held was held' text (Err why) p f k w n =
    subst (λ (x : GateError). EndsFor object left left' held held' text (Err x)) (sym n) (ends_untaken object m e left left' held was held' text p f k)

-- a reader whose bytes are known, fewer than no run comes to: all of them were read, and all that the reading gives them was written
pub all_written : (object : List ℕ) (left left' held held' : Option (List ℕ)) (text : List ℕ) (r : Result Unit GateError) → EndsFor object left left' held held' text r
    → OnOk r (IfSome left (λ (all : List ℕ). length all < 2 ^ 64 - 1 → Appends held held' (output_for object all)))
all_written object None left' held held' text (Ok done) e = tt
all_written object (Some all) None held held' text (Ok done) e = absurd e.read
all_written object (Some all) (Some rest) held held' text (Ok done) e = by e.whole
  where
    by : ReadWhole (Some rest) e.bytes → length all < 2 ^ 64 - 1 → Appends held held' (output_for object all)
    by (inl none) h = subst (λ (x : List ℕ). Appends held held' (output_for object x)) (sym (e.read ∙ ap (λ (x : List ℕ). e.bytes ++ x) none ∙ append-nil e.bytes)) e.wrote
    by (inr long) h = absurd (omega (arith, long, h, ap length e.read, length-append e.bytes rest))
all_written object left left' held held' text (Err why) e = tt
