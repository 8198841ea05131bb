-- The stamp: a session's is that of its reading's finding, it has 46 bytes, and two are equal exactly where the findings are.
-- Assumes nothing.
use mathlib.Core.Path.{◌≡◌, refl, sym, ap, ap₂, ◌∙◌}
use mathlib.Core.Bool.{Bool, true, false, not, ◌&&◌}
use mathlib.Core.Logic.{◌↔◌}
use mathlib.Core.Option.{Option}
use mathlib.Core.List.{List, ◌++◌}
use Prim.Native.Nat.{ℕ, ◌+◌, ◌*◌, ◌/◌, ◌%◌, ◌^◌, ◌<◌}
use native.Mathlib.Omega.{arith}
use borrow.Author.Tests.{leb-true, le-leb, lt-leb}
use lib.Dec.{leb}
use lib.ListN.{length, get_or, take, drop, length-append}
use lib.Seq.{take_at, drop_at}
use Rattle.card.specs.Object.{fascn_tag}
use Rattle.card.specs.Fascn.{fascn_bytes, unpack_of}
use Rattle.card.specs.Date.{days_in, real_date}
use Rattle.card.specs.Command.{aid_refused}
use Rattle.card.proofs.FascnLaws.{well_formed_lem, unpack_pack}
use Rattle.card.proofs.DateLaws.{date_real}
use Rattle.session.specs.Tables.{since, mode_in_range, fascn_read, number_size, stamp_size, four_bytes, stamp_layout}
use Rattle.session.specs.Reading.{StepOne, Found, Reading, own_fascn}
use Rattle.session.specs.Finding.{Finding, digits_found, expiry_found, finding, standing, fascn_stamped, expiry_stamped, stamp_of}
use Rattle.session.specs.Operation.{stamp_head, stamp_in}
use Rattle.session.proofs.BytesLaws.{field_bytes}
use Rattle.common.proofs.TestLaws.{clash, and_left, and_right}
use Rattle.session.proofs.Invariant.{session_of, expiry_of, OneHeld, Stage, Invariant}

-- ---- what is shown of the card

-- the digits found pack to the FASC-N that was read
fascn_shown : (mode : ℕ) (f : Option StepOne) (m : List ℕ) → OneHeld mode f m → fascn_stamped (digits_found mode f) ≡ own_fascn mode f
fascn_shown mode Option.none m k = refl
fascn_shown mode (Option.some f) m k =
    ap (λ (p : ℕ × List ℕ). p.1) (unpack_pack (fascn_read mode f.joined) (λ i h. field_bytes _ fascn_tag f.joined k.0.bytes i) k.0.fascn)

expiry_shown : (mode : ℕ) (f : Option StepOne) → expiry_stamped (expiry_found mode f) ≡ expiry_of mode f
expiry_shown mode Option.none = refl
expiry_shown mode (Option.some f) = refl

-- the session's stamp is that of the finding
pub stamp_is : (r : Reading) (m : List ℕ) → Invariant r m → stamp_in (session_of r) ≡ stamp_of (finding r)
unfolding stamp_in stamp_head stamp_of finding
stamp_is r m i =
    rw (i.progress_good.shown1, i.progress_good.shown2, fascn_shown r.opening.mode r.found.step1 m i.one, expiry_shown r.opening.mode r.found.step1) refl

-- its second byte is the standing
pub stamp_second : (f : Finding) → get_or (stamp_of f) 1 0 ≡ standing f
unfolding stamp_of stamp_layout
stamp_second f = refl

-- ---- what is stamped fits

second_of : (a b c d e f : Bool) → a && b && c && d && e && f ≡ true → b ≡ true
second_of a true c d e f p = refl
second_of true false c d e f p = p
second_of false false c d e f p = p

-- a real date is a number of four bytes
real_small : (n : ℕ) → real_date n ≡ true → n < 2 ^ 32
unfolding real_date
real_small n p =
    let y = n / 10000 in
    let m = n / 100 % 100 in
    let d = n % 100 in
    omega (arith, leb-true y 9999 (second_of (leb 1 y) (leb y 9999) (leb 1 m) (leb m 12) (leb 1 d) (leb d (days_in y m)) p))

abbrev has : Option StepOne → Bool
has Option.none = false
has (Option.some f) = true

-- the FASC-N that is stamped has 25 bytes, and both dates fit four
fascn_long : (mode : ℕ) (f : Option StepOne) (m : List ℕ) → OneHeld mode f m → length (own_fascn mode f) ≡ fascn_bytes
fascn_long mode Option.none m k = refl
fascn_long mode (Option.some f) m k = (well_formed_lem (fascn_read mode f.joined) k.0.fascn).long

expiry_small : (mode : ℕ) (f : Option StepOne) (m : List ℕ) → OneHeld mode f m → expiry_of mode f < 2 ^ 32
expiry_small mode Option.none m k = omega arith
expiry_small mode (Option.some f) m k = real_small _ (date_real _ k.0.date)

-- the card is read from step 2 on
read_by : (step : ℕ) (f : Found) → Stage step f → has f.step1 ≡ leb 2 step
read_by step f (Stage.early l e) = ap (λ (x : Found). has x.step1) e ∙ sym (lt-leb 2 step l)
read_by step f (Stage.between l x e) = ap (λ (y : Found). has y.step1) e ∙ sym (le-leb 2 step (omega arith))
read_by step f (Stage.late l x e) = ap has e ∙ sym (le-leb 2 step (omega arith))

date_small : (r : Reading) (m : List ℕ) → Invariant r m → r.opening.date < 2 ^ 32
date_small r m i = real_small r.opening.date (and_right (mode_in_range since r.opening.mode) _ (and_left _ (not (aid_refused r.opening.aid)) i.opening))

layout_length : (a o f : List ℕ) (d x : ℕ) → length (stamp_layout a o d f x) ≡ length a + length o + number_size + length f + number_size
unfolding stamp_layout
layout_length a o f d x = simp length-append

-- a stamp has 46 bytes
pub stamp_length : (r : Reading) (m : List ℕ) → Invariant r m → length (stamp_of (finding r)) ≡ stamp_size since
unfolding stamp_in stamp_head stamp_size
stamp_length r m i =
    rw (← stamp_is r m i, layout_length, i.judged.counted, fascn_long r.opening.mode r.found.step1 m i.one) refl

-- ---- equal stamps

-- four bytes are those of one number
top : (n : ℕ) → n < 2 ^ 32 → n / 16777216 % 256 ≡ n / 16777216
top n h = omega arith

second : (n : ℕ) → n / 65536 ≡ n / 16777216 * 256 + n / 65536 % 256
second n = omega arith

third : (n : ℕ) → n / 256 ≡ n / 65536 * 256 + n / 256 % 256
third n = omega arith

fourth : (n : ℕ) → n ≡ n / 256 * 256 + n % 256
fourth n = omega arith

at : (k : ℕ) {xs ys : List ℕ} → xs ≡ ys → get_or xs k 0 ≡ get_or ys k 0
at k e = ap (λ (l : List ℕ). get_or l k 0) e

-- the next byte of two numbers that agree above it
next : {a b c d x y : ℕ} → x ≡ a * 256 + c → y ≡ b * 256 + d → a ≡ b → c ≡ d → x ≡ y
next p q e f = omega arith

four_same : (n m : ℕ) → n < 2 ^ 32 → m < 2 ^ 32 → four_bytes n ≡ four_bytes m → n ≡ m
four_same n m h k e =
    let t : n / 16777216 ≡ m / 16777216 = sym (top n h) ∙ at 0 e ∙ top m k in
    next (fourth n) (fourth m) (next (third n) (third m) (next (second n) (second m) t (at 1 e)) (at 2 e)) (at 3 e)

-- two lists in a row are the same where the first are as long
halves : (p q r s : List ℕ) → length p ≡ length r → p ++ q ≡ r ++ s → (p ≡ r) × (q ≡ s)
halves p q r s l e = (
  sym (take_at p q (length p) refl) ∙ ap (take (length p)) e ∙ take_at r s (length p) (sym l),
  sym (drop_at p q (length p) refl) ∙ ap (drop (length p)) e ∙ drop_at r s (length p) (sym l),
)

longer : (p q r s : List ℕ) → length p ≡ length r → length q ≡ length s → length (p ++ q) ≡ length (r ++ s)
longer p q r s h k = length-append p q ∙ ap₂ ◌+◌ h k ∙ sym (length-append r s)

-- a layout decides its parts, where these are as long
layout_same : (a o f a' o' f' : List ℕ) (d x d' x' : ℕ) → length a ≡ length a' → length o ≡ length o' → length f ≡ length f' → stamp_layout a o d f x ≡ stamp_layout a' o' d' f' x'
    → (a ≡ a') × (o ≡ o') × (four_bytes d ≡ four_bytes d') × (f ≡ f') × (four_bytes x ≡ four_bytes x')
unfolding stamp_layout
layout_same a o f a' o' f' d x d' x' la lo lf e =
    let l1 = longer a o a' o' la lo in
    let l2 = longer (a ++ o) (four_bytes d) (a' ++ o') (four_bytes d') l1 refl in
    let l3 = longer ((a ++ o) ++ four_bytes d) f ((a' ++ o') ++ four_bytes d') f' l2 lf in
    let h3 = halves (((a ++ o) ++ four_bytes d) ++ f) (four_bytes x) (((a' ++ o') ++ four_bytes d') ++ f') (four_bytes x') l3 e in
    let h2 = halves ((a ++ o) ++ four_bytes d) f ((a' ++ o') ++ four_bytes d') f' l2 h3.0 in
    let h1 = halves (a ++ o) (four_bytes d) (a' ++ o') (four_bytes d') l1 h2.0 in
    let h0 = halves a o a' o' la h1.0 in
    (h0.0, h0.1, h1.1, h2.1, h3.1)

-- the FASC-N and the expiry decide what is found of the card
card_same : (mode mode' : ℕ) (f g : Option StepOne) → has f ≡ has g → own_fascn mode f ≡ own_fascn mode' g → expiry_of mode f ≡ expiry_of mode' g
    → (digits_found mode f ≡ digits_found mode' g) × (expiry_found mode f ≡ expiry_found mode' g)
card_same mode mode' Option.none Option.none e p q = (refl, refl)
card_same mode mode' Option.none (Option.some y) e p q = clash e
card_same mode mode' (Option.some x) Option.none e p q = clash (sym e)
card_same mode mode' (Option.some x) (Option.some y) e p q = (ap (λ (s : List ℕ). Option.some (unpack_of s).1) p, ap (λ (n : ℕ). Option.some n) q)

same_finding : (r s : Reading) (m n : List ℕ) → Invariant r m → Invariant s n → stamp_of (finding r) ≡ stamp_of (finding s) → finding r ≡ finding s
unfolding stamp_in stamp_head finding
same_finding r s m n i j e =
    let f = r.found.step1 in
    let g = s.found.step1 in
    let p = layout_same _ r.outcomes _ _ s.outcomes _ r.opening.date _ s.opening.date _ refl (i.judged.counted ∙ sym j.judged.counted)
    (fascn_long _ f m i.one ∙ sym (fascn_long _ g n j.one)) (stamp_is r m i ∙ e ∙ sym (stamp_is s n j)) in
    let head = p.0 in
    let step : r.progress.step ≡ s.progress.step = at 5 head in
    let c = card_same _ _ f g (read_by _ _ i.stage ∙ ap (leb 2) step ∙ sym (read_by _ _ j.stage)) p.3 (four_same _ _ (expiry_small _ f m i.one) (expiry_small _ g n j.one) p.4) in
    let date = four_same _ _ (date_small r m i) (date_small s n j) p.2 in
    let sw1 : r.progress.sw1 ≡ s.progress.sw1 = sym i.progress_good.shown1 ∙ at 3 head ∙ j.progress_good.shown1 in
    let sw2 : r.progress.sw2 ≡ s.progress.sw2 = sym i.progress_good.shown2 ∙ at 4 head ∙ j.progress_good.shown2 in
    λ t. record { mode = at 0 head t; date = date t; step = step t; cause = at 2 head t; sw1 = sw1 t; sw2 = sw2 t; outcomes = p.1 t; digits = c.0 t; expiry = c.1 t }

-- two stamps are equal exactly where the findings are
pub stamps_iff : (r s : Reading) (m n : List ℕ) → Invariant r m → Invariant s n → (stamp_of (finding r) ≡ stamp_of (finding s)) ↔ (finding r ≡ finding s)
stamps_iff r s m n i j = (same_finding r s m n i j, λ e. ap stamp_of e)
