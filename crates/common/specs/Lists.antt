-- Lists, tests and numbers made of f 0, f 1, .., f (n - 1); a list over the places of another; lists one after another; a number in a list, and lists compared.
-- Assumes nothing.
use Rattle.std.specs.Prelude.{Bool, true, false, cond, ◌&&◌, ◌||◌, List, [], ◌∷◌, ◌++◌, ℕ, zero, suc, ◌+◌, ◌*◌, eqb, leb, length, get_or, take, drop}
use Rattle.std.specs.Int.Bits.{bit_xor}

-- f 0, f 1, .., f (n - 1)
unfoldable pub list_of : ℕ → (ℕ → ℕ) → List ℕ
list_of zero f = []
list_of (suc n) f = list_of n f ++ (f n ∷ [])

-- the n numbers of l from place i on
unfoldable pub slice_of : ℕ → ℕ → List ℕ → List ℕ
slice_of i n l = list_of n (λ j. get_or l (i + j) 0)

-- the list l with the n places from place at on written anew, f 0 first
unfoldable pub written : List ℕ → ℕ → ℕ → (ℕ → ℕ) → List ℕ
written l at n f = take at l ++ list_of n f ++ drop (at + n) l

-- the list s over the front of l, and over the places from place at on
unfoldable pub over_front : List ℕ → List ℕ → List ℕ
over_front s l = s ++ drop (length s) l

unfoldable pub over_places : List ℕ → ℕ → List ℕ → List ℕ
over_places l at s = take at l ++ s ++ drop (at + length s) l

-- the same where all of it fits, and l as it is where it does not
unfoldable pub over_places_where : List ℕ → ℕ → List ℕ → List ℕ
over_places_where l at s = cond (leb (at + length s) (length l)) (over_places l at s) l

-- lists one after another
abbrev pub concat : List (List ℕ) → List ℕ
concat [] = []
concat (l ∷ ls) = l ++ concat ls

-- the test f passes at each number below n
unfoldable pub all : ℕ → (ℕ → Bool) → Bool
all zero f = true
all (suc n) f = all n f && f n

-- how many of f 0, f 1, .., f (n - 1) pass before the first that does not
unfoldable pub passing : ℕ → (ℕ → Bool) → ℕ
passing zero f = 0
passing (suc n) f = cond (eqb (passing n f) n && f n) (suc n) (passing n f)

-- the digits f 0, f 1, .., f (n - 1) to the base b as one number, f 0 the highest
unfoldable pub number : ℕ → ℕ → (ℕ → ℕ) → ℕ
number b zero f = 0
number b (suc n) f = number b n f * b + f n

-- the exclusive or of the numbers of a list
unfoldable pub xor_of : List ℕ → ℕ
xor_of [] = 0
xor_of (x ∷ l) = bit_xor x (xor_of l)

-- a number is one of a list
abbrev pub is_in : ℕ → List ℕ → Bool
is_in x [] = false
is_in x (y ∷ ys) = eqb x y || is_in x ys

-- two lists have the same bytes, and as many
unfoldable pub same_bytes : List ℕ → List ℕ → Bool
same_bytes a b = eqb (length a) (length b) && all (length a) (λ i. eqb (get_or a i 0) (get_or b i 0))
