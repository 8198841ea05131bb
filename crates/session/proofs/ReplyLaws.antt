-- The answers of the calls: no two have one number, so that the number, which the contracts give, says the case: 0 the accepted one,
-- which no refusal has, and 1 to 14 the refusals.
-- Assumes nothing.
use mathlib.Core.Path.{◌≡◌, refl, sym, ap, ◌∙◌}
use mathlib.Core.List.{List, [], ◌∷◌}
use Prim.Native.Nat.{ℕ}
use borrow.Author.Tests.{eqb-false}
use lib.ListN.{get_or}
use Rattle.std.specs.Prelude.{Result, Ok, Err}
use Rattle.common.specs.Refusal.{number_in}
use Rattle.session.specs.Operation.{refusal_number, refusal_never_zero}
use Rattle.session.specs.declared.state.Refusal.{Refusal}
use Rattle.session.specs.declared.state.Refusal.TheVariants as refusals

-- the cases in the order of their numbers; none has the number 0
abbrev cases : List Refusal
cases =
    refusals.WrongMode ∷ refusals.WrongMode ∷ refusals.UnrealDate ∷ refusals.WrongAid ∷ refusals.OutOfRange ∷ refusals.OutOfTurn ∷ refusals.ShortBuffer ∷ refusals.WrongObjectBuffer ∷ refusals.WrongAnswerLength ∷ refusals.NotAllRead ∷ refusals.UnknownKind ∷ refusals.UnknownVerdict ∷ refusals.WrongFascn ∷ refusals.NotNeeded ∷ refusals.AlreadyGiven ∷ []

-- a case stands in the place of its number
back : (r : Refusal) → get_or cases (refusal_number r) refusals.WrongMode ≡ r
back refusals.WrongMode = refl
back refusals.UnrealDate = refl
back refusals.WrongAid = refl
back refusals.OutOfRange = refl
back refusals.OutOfTurn = refl
back refusals.ShortBuffer = refl
back refusals.WrongObjectBuffer = refl
back refusals.WrongAnswerLength = refl
back refusals.NotAllRead = refl
back refusals.UnknownKind = refl
back refusals.UnknownVerdict = refl
back refusals.WrongFascn = refl
back refusals.NotNeeded = refl
back refusals.AlreadyGiven = refl

pub refusal_is : (a b : Refusal) → refusal_number a ≡ refusal_number b → a ≡ b
refusal_is a b e = sym (back a) ∙ ap (λ (k : ℕ). get_or cases k refusals.WrongMode) e ∙ back b

pub not_zero : (r : Refusal) → refusal_number r ≡ 0 → ⊥
not_zero r = eqb-false (refusal_number r) 0 (refusal_never_zero r)

-- An answer is told by its number, as a refusal is.
pub reply_is : (a b : Result Unit Refusal) → number_in refusal_number a ≡ number_in refusal_number b → a ≡ b
reply_is (Ok _) (Ok _) p = refl
reply_is (Ok _) (Err e) p = absurd (not_zero e (sym p))
reply_is (Err e) (Ok _) p = absurd (not_zero e p)
reply_is (Err e) (Err f) p = ap Err (refusal_is e f p)
