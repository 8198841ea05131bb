-- The reply of a call, and what an answer line's two calls give. Assumes nothing.
use mathlib.Core.Path.{◌≡◌, refl, sym, ap, ◌∙◌}
use mathlib.Core.List.{List}
use Rattle.std.specs.Prelude.{Result, Ok, Err}
use Rattle.std.specs.Result.{IsErrAnd}
use Rattle.common.specs.Refusal.{number_in}
use Prim.Native.Nat.{ℕ}
use Rattle.session.specs.Operation.{refusal_number, refusal_never_zero, given, command_of, answer_of, answer_buffer}
use Rattle.session.specs.declared.state.Refusal.{Refusal}
use Rattle.session.specs.declared.state.Session.{Session}
use Rattle.session.specs.declared.state.Answered.{Answered}
use Rattle.gate_lines.specs.Line.{GateLine}
use Rattle.gate_lines.specs.Gate.{Gate, Reply, gate_after, command_room, reply_by, reply_to}
use Rattle.gate_lines.specs.GateCode.{reply_of}
use Rattle.gate_lines.specs.declared.state.LineError.{LineError}
use Rattle.gate_lines.specs.declared.state.LineError.TheVariants.{Refused}

-- ---- a call's reply

-- a refused call is told by its number, which is not 0
refused_reply : (e : Refusal) → Reply.refused (refusal_number e) ≡ reply_by (refusal_number e)
refused_reply e = rw (refusal_never_zero e)

pub err_reply : (r : Result Unit LineError) (e : Refusal) → IsErrAnd r (λ x. x ≡ Refused e) → reply_of r ≡ reply_by (refusal_number e)
err_reply (Ok x) e h = absurd h
err_reply (Err x) e h = ap (λ (y : LineError). reply_of (Err y)) h ∙ refused_reply e

-- the number of what a call hands back
pub refused_number : (a : Answered Unit) (v : ℕ × Session) {e : Refusal} → given a ≡ v → a.reply ≡ Err e → v.0 ≡ refusal_number e
refused_number a v p q = ap (λ (x : ℕ × Session). x.0) (sym p) ∙ ap (number_in refusal_number) q

pub accepted_number : (a : Answered Unit) (v : ℕ × Session) {x : Unit} → given a ≡ v → a.reply ≡ Ok x → v.0 ≡ 0
accepted_number a v p q = ap (λ (x : ℕ × Session). x.0) (sym p) ∙ ap (number_in refusal_number) q

-- ---- each kind

-- the answer call, on the session that the command call hands back: h is the program's state as its fields say it
pub answer_gives : (g h : Gate) (s : Session) (v : ℕ × Session) (bytes object : List ℕ) → h ≡ g → s ≡ (command_of h.session command_room).2 → v ≡ answer_of s h.object bytes h.keys
    → object ≡ answer_buffer s h.object bytes
    → (record { session = v.1; keys = h.keys; object = object } ≡ gate_after g (GateLine.answer bytes)) × (reply_by v.0 ≡ reply_to g (GateLine.answer bytes))
unfolding gate_after reply_to
answer_gives g h s v bytes object e f p q = rw (← e, p, q, f) (refl, refl)
