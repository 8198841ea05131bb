-- `vectors::answer::calls::run_first` meets its contract: the call that the bytes spell, with the buffer that it is lent. Assumes nothing.
use mathlib.Core.Path.{◌≡◌, refl, sym, ap, ◌∙◌}
use mathlib.Core.Bool.{Bool, false, cond}
use mathlib.Core.List.{List, []}
use Prim.Native.Nat.{ℕ}
use lib.Dec.{eqb}
use lib.ListN.{length, get_or, take, drop, replicate}
use Rattle.std.specs.Prelude.{Option, Some, None}
use Rattle.common.proofs.ListsLaws.{take_most}
use Rattle.session.specs.Promise.{Host}
use Rattle.append.proofs.AppendLaws.{added_none}
use Rattle.vectors.specs.CallsText.{direct_call, call_head_size, argument_bytes, most_room, lent_for, direct_text, after_call, named_text, after_named, first_text, after_first}
use Rattle.vectors.specs.declared.answer.calls.DirectCall.{DirectCall}
use Rattle.vectors.specs.Out.{with_text}
use Rattle.vectors.proofs.answer.calls.run_first.Goals as goal

-- the first call of some bytes is the one that its byte names
text_is : (h : Host) (s : List ℕ) {call : Option DirectCall} → eqb (length s) 0 ≡ false → call ≡ direct_call (get_or s 0 0) → named_text call h (argument_bytes s) ≡ first_text h s
unfolding first_text
text_is h s e p =
    ap (λ (x : Option DirectCall). named_text x h (argument_bytes s)) p
    ∙ sym (ap (λ (b : Bool). cond b [] (named_text (direct_call (get_or s 0 0)) h (argument_bytes s))) e)

host_is : (h : Host) (s : List ℕ) {call : Option DirectCall} → eqb (length s) 0 ≡ false → call ≡ direct_call (get_or s 0 0) → after_named call h (argument_bytes s) ≡ after_first h s
unfolding after_first
host_is h s e p =
    ap (λ (x : Option DirectCall). after_named x h (argument_bytes s)) p
    ∙ sym (ap (λ (b : Bool). cond b h (after_named (direct_call (get_or s 0 0)) h (argument_bytes s))) e)

-- what goes by the arguments of a call and the buffer that it is lent
by_parts : {A : Type 0} (f : List ℕ → List ℕ → A) (call : DirectCall) {a a' out : List ℕ} → a ≡ a' → out ≡ lent_for call a → f a out ≡ f a' (lent_for call a')
by_parts f call q r = rw (r, q)

pub returns-then-is_empty : goal.returns-then-is_empty
unfolding first_text after_first
returns-then-is_empty c =
    let e = sym c.is_empty.ensures ∙ c.if-is_empty.true in
    rw e (record { text = added_none _ _ c.requires; host = refl })

pub returns-in_default : goal.returns-in_default
unfolding named_text after_named
returns-in_default c =
    let h : Host = record { session = c.args.session; object = c.args.object.now } in
    let e = sym c.is_empty.ensures ∙ c.if-is_empty.false in
    let p = sym c.in_default.is ∙ c.direct_call.ensures ∙ ap direct_call c.byte.ensures in
    record { text = c.add.ensures ∙ ap (with_text c.args.out.now) (text_is h c.args.s.now {call = None} e p); host = host_is h c.args.s.now {call = None} e p }

pub returns : goal.returns
unfolding named_text after_named
returns c =
    let h : Host = record { session = c.args.session; object = c.args.object.now } in
    let e = sym c.is_empty.ensures ∙ c.if-is_empty.false in
    let call = c.in-Some.call in
    let p = sym c.in-Some.is ∙ c.direct_call.ensures ∙ ap direct_call c.byte.ensures in
    let q = c.part-a.ensures ∙ ap (λ (n : ℕ). take n (drop call_head_size c.args.s.now)) c.argument_count.ensures.is in
    let r = take_most _ _ (replicate most_room 0xFF) c.min.ensures ∙ ap (λ (n : ℕ). take n (replicate most_room 0xFF)) c.room_in.ensures in
    record {
      text = c.run_call.ensures.text
          ∙ ap (with_text c.args.out.now) (by_parts (λ a out. direct_text call h a out) call q r ∙ text_is h c.args.s.now {call = Some call} e p);
      host = c.run_call.ensures.host ∙ by_parts (λ a out. after_call call h a out) call q r ∙ host_is h c.args.s.now {call = Some call} e p;
    }
