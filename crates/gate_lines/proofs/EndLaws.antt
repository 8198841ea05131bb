-- What is printed at the end, by the answer of a stamp call. Assumes nothing.
use mathlib.Core.Path.{◌≡◌}
use mathlib.Core.List.{List}
use Prim.Native.Nat.{ℕ}
use lib.ListN.{replicate}
use Rattle.std.specs.Prelude.{Ok, Err}
use Rattle.session.specs.Tables.{stamp_size}
use Rattle.session.specs.Operation.{refusal_number, refusal_never_zero, given, stamp_answer, stamp_buffer}
use Rattle.session.specs.declared.state.Session.{Session}
use Rattle.session.specs.declared.state.Answered.{Answered}
use Rattle.session.specs.declared.state.Refusal.{Refusal}
use Rattle.gate_lines.specs.Gate.{end_text, stamp_text, refused_text}
use Rattle.gate_lines.proofs.LineRunLaws.{refused_number, accepted_number}

-- the stamp, where the call is accepted
pub stamp_ends : (s : Session) (a : Answered Unit) (out text : List ℕ) (x : Unit) → given a ≡ stamp_answer s 46 → out ≡ stamp_buffer s (replicate 46 0) → a.reply ≡ Ok x → text ≡ stamp_text out → text ≡ end_text s
unfolding end_text stamp_size
stamp_ends s a out text x p q r t = rw (accepted_number a _ p r, ← q) t

-- the number by which it is refused
pub refused_ends : (s : Session) (a : Answered Unit) (e : Refusal) (text : List ℕ) → given a ≡ stamp_answer s 46 → a.reply ≡ Err e → text ≡ refused_text (refusal_number e) → text ≡ end_text s
unfolding end_text stamp_size
refused_ends s a e text p r t = rw (refused_number a _ p r, refusal_never_zero e) t
