-- The object DFC108 (document 02, request 7): a picture of every length that the paper allows is accepted.
-- Assumes nothing.
use mathlib.Core.Path.{◌≡◌, refl}
use mathlib.Core.List.{List, [], ◌∷◌, ◌++◌}
use Prim.Native.Nat.{ℕ, ◌≤◌}
use native.Mathlib.Omega.{arith}
use borrow.Author.Tests.{lt-ltb}
use lib.ListN.{length}
use Rattle.card.specs.Tlv.{fits_form, encoded}
use Rattle.card.specs.Object.{data_object_tag, biometric_tag, end_tag, optional, rows_of, object_of, Made, no_rows, left_out, given}
use Rattle.card.specs.declared.object.Kind.TheVariants.{Picture}
use Rattle.card.proofs.MadeLaws.{made_accepted}
use Rattle.card.proofs.OlderLaws.{made_fits}

-- "BC (1 to 16,000 bytes), then FE (0 bytes, may be absent)": the object with such a BC is accepted, without FE and
-- with it. That no other length is accepted is `picture_lengths`.
pub picture_accepted : (value : List ℕ) → 1 ≤ length value → length value ≤ 16000
    → ((object_of Picture (encoded 3 data_object_tag (encoded 3 biometric_tag value ++ []))).0 ≡ 0)
    × ((object_of Picture (encoded 3 data_object_tag (encoded 3 biometric_tag value ++ (encoded 1 end_tag [] ++ [])))).0 ≡ 0)
unfolding rows_of fits_form
picture_accepted value low high =
    let f = lt-ltb (length value) 65536 (omega (arith, high)) in
    let without : Made (rows_of Picture) (encoded 3 biometric_tag value ++ []) (value ∷ [] ∷ []) = given 3 value low high f (left_out refl no_rows) in
    let with_end : Made (rows_of Picture) (encoded 3 biometric_tag value ++ (encoded 1 end_tag [] ++ [])) (value ∷ [] ∷ []) =
    given 3 value low high f (given {r = optional end_tag 0 0} 1 [] (omega arith) (omega arith) refl no_rows) in
    (made_accepted Picture 3 without (made_fits Picture without), made_accepted Picture 3 with_end (made_fits Picture with_end))
