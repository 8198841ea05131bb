-- What a call gives through a pointer, by its answer: the value where it is accepted, and the number of a malformed line
-- beside its own number.
-- Assumes nothing.
use mathlib.Core.Path.{◌≡◌, sym, ap, ◌∙◌}
use mathlib.Core.Bool.{false}
use Prim.Native.Nat.{ℕ}
use lib.Dec.{eqb}
use Rattle.std.specs.Prelude.{Result, Ok, Err}
use Rattle.common.specs.Refusal.{number_in, value_in}
use Rattle.host.specs.Call.{where_number}

-- an accepted call's value is written, and where it is refused what was there is left
pub written_where : {T E : Type 0} (number : E → ℕ) → ((e : E) → eqb (number e) 0 ≡ false) → (beside : Result T E → T) → ((v : T) → beside (Ok v) ≡ v)
    → (old : T) (r : Result T E) {n : ℕ} {new : T} {x : ℕ × T} → (number_in number r, beside r) ≡ x → n ≡ number_in number r → new ≡ value_in old r
    → (n ≡ x.0) × (new ≡ where_number 0 n x.1 old)
written_where {T} number z beside ok old (Ok v) e f g = (f ∙ ap (λ (y : ℕ × T). y.0) e, rw f (g ∙ sym (ok v) ∙ ap (λ (y : ℕ × T). y.1) e))
written_where {T} number z beside ok old (Err d) e f g = (f ∙ ap (λ (y : ℕ × T). y.0) e, rw (f, z d) g)
