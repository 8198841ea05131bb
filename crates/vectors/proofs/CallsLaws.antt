-- Lists of direct calls: a host by its parts, and what is done after so many calls of a line.
-- Assumes nothing.
use mathlib.Core.Path.{◌≡◌, refl, ap, ap₂, ◌∙◌, sym}
use mathlib.Core.Bool.{Bool, true, false, cond}
use mathlib.Core.List.{List, [], ◌∷◌}
use Prim.Native.Nat.{ℕ, zero, suc, ◌+◌, ◌-◌, ◌≤◌, ◌<◌}
use native.Mathlib.Numerals.{add-one}
use native.Mathlib.Omega.{arith}
use lib.Dec.{eqb}
use lib.ListN.{length, drop, length-drop}
use Rattle.session.specs.Operation.{answer_refusal, answer_buffer}
use Rattle.session.specs.Promise.{Host}
use Rattle.session.specs.declared.state.Session.{Session}
use Rattle.append.specs.Append.{added}
use Rattle.append.proofs.AppendLaws.{added_inside, AddedSoFar, adding_none, adding_more}
use Rattle.vectors.specs.CallsText.{call_head_size, argument_count, later_calls, first_text, after_first, calls_left, host_at}
use Rattle.vectors.specs.Out.{with_text}

-- ---- hosts

abbrev pub host : Session → List ℕ → Host
host s object = record { session = s; object = object }

pub same_host : {s t : Session} {o p : List ℕ} → s ≡ t → o ≡ p → host s o ≡ host t p
same_host e f = ap₂ host e f

-- a refused answer leaves the object buffer as it was
pub left_by_answer : (s : Session) (object bytes : List ℕ) → answer_buffer s object bytes ≡ cond (eqb (answer_refusal s (length object) (length bytes)) 0) (answer_buffer s object bytes) object
unfolding answer_buffer
left_by_answer s object bytes = go (eqb (answer_refusal s (length object) (length bytes)) 0) _
  where
    go : (b : Bool) (x : List ℕ) → cond b x object ≡ cond b (cond b x object) object
    go true x = refl
    go false x = refl

-- ---- call after call

-- of the calls of s, made from the host h on, the first i are made: the text d stands in the buffer, and a list is left of s
pub record CallsSoFar (b : List ℕ) (h : Host) (s : List ℕ) (i : ℕ) (d : List ℕ) (now : Host) (left : List ℕ) : Type 0 where
  pub texts : AddedSoFar 1310720 b (length s) (λ j. first_text (host_at h s j) (calls_left s j)) i d
  pub host_is : now ≡ host_at h s i
  pub left_is : left ≡ calls_left s i
  pub fits : added 1310720 d [] ≡ d

pub no_call : {b : List ℕ} (h : Host) (s : List ℕ) → added 1310720 b [] ≡ b → CallsSoFar b h s 0 b h s
unfolding host_at calls_left
no_call h s e = record { texts = adding_none; host_is = refl; left_is = refl; fits = e }

-- what stands in the buffer fits it
pub fitting : {d : List ℕ} → added 1310720 d [] ≡ d → length d ≤ 1310720
fitting {d} e = rw e at (added_inside 1310720 d [])

pub one_call : {b d e : List ℕ} {i n : ℕ} {h u v : Host} {s left rest : List ℕ} → CallsSoFar b h s i d u left → i < length s → e ≡ with_text d (first_text u left) → v ≡ after_first u left
    → n ≡ argument_count left → rest ≡ drop (call_head_size + n) left → CallsSoFar b h s (i + 1) e v rest
unfolding host_at calls_left
one_call {b} {d} {e} {i} {n} {h} {u} {v} {s} {left} c l p q r t =
    let named : e ≡ added 1310720 d (first_text (host_at h s i) (calls_left s i)) = p ∙ ap (with_text d) (ap₂ first_text c.host_is c.left_is) in
    let more = adding_more c.texts l named in
    record {
      texts = more;
      host_is = rw add-one (q ∙ ap₂ after_first c.host_is c.left_is);
      left_is = rw add-one (t ∙ ap (λ (k : ℕ). drop (call_head_size + k) left) r ∙ ap later_calls c.left_is);
      fits = more.fits (omega arith);
    }

-- so many calls are made, and a list is left with a byte for each turn to come
pub record CallsMade (b : List ℕ) (h : Host) (s d : List ℕ) (now : Host) (left : List ℕ) : Type 0 where
  pub turn : ℕ
  pub so_far : CallsSoFar b h s turn d now left
  pub room : turn + length left ≤ length s

pub call_made : {b d e : List ℕ} {n : ℕ} {h u v : Host} {s left rest : List ℕ} → CallsMade b h s d u left → 0 < length left → e ≡ with_text d (first_text u left) → v ≡ after_first u left
    → n ≡ argument_count left → rest ≡ drop (call_head_size + n) left → CallsMade b h s e v rest
call_made {n = n} {left = left} c l p q r t =
    record {
      turn = c.turn + 1;
      so_far = one_call c.so_far (omega (arith, l, c.room)) p q r t;
      room = omega (arith, l, c.room, ap length t, length-drop (call_head_size + n) left);
    }

-- once no byte is left the turns to come make no call
rest_made : (k : ℕ) {b d : List ℕ} {i : ℕ} {h u : Host} {s : List ℕ} → i + k ≡ length s → CallsSoFar b h s i d u [] → CallsSoFar b h s (length s) d u []
unfolding first_text after_first
rest_made zero {i = i} {s = s} e c = let z : i ≡ length s = omega (arith, e) in rw z at c
rest_made (suc k) {i = i} {s = s} e c =
    let z : (i + 1) + k ≡ length s = omega (arith, e) in
    rest_made k z (one_call c (omega (arith, e)) (sym c.fits) refl refl refl)

pub all_made : {b d : List ℕ} {h u : Host} {s left : List ℕ} → CallsMade b h s d u left → length left ≡ 0 → CallsSoFar b h s (length s) d u []
all_made {s = s} {left = []} c e = rest_made (length s - c.turn) (omega (arith, c.room)) c.so_far
all_made {left = x ∷ l} c e = absurd (omega (arith, e))
