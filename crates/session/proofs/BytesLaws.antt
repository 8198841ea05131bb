-- Bytes: parts and joined lists of bytes are bytes.
-- Assumes nothing.
use mathlib.Core.List.{List, [], ◌∷◌, ◌++◌}
use Prim.Native.Nat.{ℕ, zero, suc, ◌+◌}
use native.Mathlib.Omega.{arith}
use lib.ListN.{take, drop}
use lib.Seq.{get_or-drop}
use Rattle.card.specs.Object.{field_part, field_value, bytes_at}
use Rattle.card.specs.declared.object.Kind.{Kind}
use Rattle.session.specs.Promise.{Bytes}

-- bytes after bytes
pub append_bytes : (xs ys : List ℕ) → Bytes xs → Bytes ys → Bytes (xs ++ ys)
append_bytes [] ys a b i = b i
append_bytes (x ∷ xs) ys a b zero = a 0
append_bytes (x ∷ xs) ys a b (suc i) = append_bytes xs ys (λ j. a (suc j)) b i

-- the front of bytes is bytes
take_bytes : (n : ℕ) (s : List ℕ) → Bytes s → Bytes (take n s)
take_bytes zero s b i = omega arith
take_bytes (suc n) [] b i = omega arith
take_bytes (suc n) (x ∷ s) b zero = b 0
take_bytes (suc n) (x ∷ s) b (suc i) = take_bytes n s (λ k. b (suc k)) i

-- a part of bytes is bytes
pub part_bytes_lem : (n a : ℕ) (s : List ℕ) → Bytes s → Bytes (take n (drop a s))
part_bytes_lem n a s b = take_bytes n (drop a s) (λ i. rw get_or-drop (b (a + i)))

-- so a field's value is bytes
pub field_bytes : (k : Kind) (tag : ℕ) (s : List ℕ) → Bytes s → Bytes (field_value k tag s)
unfolding field_value bytes_at
field_bytes k tag s b = part_bytes_lem (field_part k tag s).len (field_part k tag s).start s b
