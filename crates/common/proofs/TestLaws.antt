-- Tests: what a test of several gives, two tests that pass together, and a choice made on both sides by one test.
-- Assumes nothing.
use mathlib.Core.Path.{◌≡◌, refl, sym, subst}
use mathlib.Core.Bool.{Bool, true, false, cond, ◌&&◌, ◌||◌, and-eq-true_iff}

abbrev Untrue : Bool → Type 0
Untrue true = ⊥
Untrue false = Unit

-- false is not true
pub clash : {P : Type 0} → false ≡ true → P
clash e = absurd (subst Untrue e tt)

-- both tests of two that pass, and each of them
pub and_parts : (a b : Bool) → a && b ≡ true → (a ≡ true) × (b ≡ true)
and_parts a b = (and-eq-true_iff a b).0

pub and_left : (a b : Bool) → a && b ≡ true → a ≡ true
and_left a b e = (and_parts a b e).0

pub and_right : (a b : Bool) → a && b ≡ true → b ≡ true
and_right a b e = (and_parts a b e).1

pub and_both : {a b : Bool} → a ≡ true → b ≡ true → a && b ≡ true
and_both {a} {b} p q = rw (p, q)

pub or_left : (a b : Bool) → a || b ≡ false → a ≡ false
or_left true b e = clash (rw e)
or_left false b e = refl

pub or_right : (a b : Bool) → a || b ≡ false → b ≡ false
or_right true b e = clash (rw e)
or_right false b e = e

-- two tests that pass together
pub same_test : (a b : Bool) → (a ≡ true → b ≡ true) → (b ≡ true → a ≡ true) → a ≡ b
same_test true b f g = sym (f refl)
same_test false true f g = g refl
same_test false false f g = refl

-- a choice that is made on both sides by one test
pub by_test : {A B : Type 0} (P : A → B → Type 0) (x y : A) (u v : B) (b : Bool) → (b ≡ true → P x u) → (b ≡ false → P y v) → P (cond b x y) (cond b u v)
by_test P x y u v true f g = f refl
by_test P x y u v false f g = g refl

-- a choice whose first half has a property where the test passes, and its second where it fails, has it
pub by_case : {A : Type 0} (P : A → Type 0) (x y : A) (b : Bool) → (b ≡ true → P x) → (b ≡ false → P y) → P (cond b x y)
by_case P x y true f g = f refl
by_case P x y false f g = g refl

-- a choice whose second half has a property of false, and whose first has that of x where the test passes, has that of
-- both tests
pub by_and : {A : Type 0} (P : Bool → A → Type 0) (x b : Bool) (q r : A) → P false r → (b ≡ true → P x q) → P (x && b) (cond b q r)
by_and P true true q r m f = f refl
by_and P true false q r m f = m
by_and P false true q r m f = f refl
by_and P false false q r m f = m

-- a choice between two that have a property has it
pub either : {A : Type 0} (P : A → Type 0) (b : Bool) {x y : A} → P x → P y → P (cond b x y)
either P true p q = p
either P false p q = q
