-- `ccl::cin::read_entry` meets its contract: its tests are those of the definition. Assumes nothing.
use mathlib.Core.Path.{◌≡◌, refl, sym, ap, ◌∙◌}
use mathlib.Core.Bool.{◌&&◌}
use Prim.Native.Nat.{ℕ}
use borrow.Author.Tests.{tests, eqb-true}
use lib.Dec.{eqb, leb}
use lib.ListN.{length}
use Rattle.std.proofs.Common.{rules}
use Rattle.common.specs.Decimal.{spelled}
use Rattle.common.proofs.TestLaws.{and_parts}
use Rattle.ccl.specs.Cin.{cin_digits, cin_of, entry_of}
use Rattle.ccl.proofs.VisualCodeLaws.{entry_test}
use Rattle.ccl.proofs.cin.read_entry.Goals as goal
use Rattle.ccl.proofs.cin.read_entry.Goals.{After-contains}

-- the range's test, in the definition's words
within : (c : After-contains) → c.contains.result ≡ leb 1 c.leading_digits-digits.result.count && leb c.leading_digits-digits.result.count 10
within c = search (rules, tests)

decided : (c : After-contains) → (c.contains.result && eqb c.leading_digits-digits.result.count (length c.args.typed.now)) ≡ cin_digits c.args.typed.now
decided c = rw (within c, c.leading_digits-digits.ensures.count) (entry_test c.args.typed.now)

pub returns-then-contains-n : goal.returns-then-contains-n
unfolding entry_of cin_of
returns-then-contains-n c =
    let typed = c.args.typed.now in
    let whole = eqb-true _ _ (and_parts _ _ c.if-contains-n.true).1 in
    rw (sym (decided (goal.at.returns-then-contains-n c).After-contains) ∙ c.if-contains-n.true) (ap (λ (n : ℕ). (0, n)) (c.leading_digits-digits.ensures.spells ∙ ap (λ (n : ℕ). spelled n typed) whole))

pub returns-else-contains-n : goal.returns-else-contains-n
unfolding entry_of
returns-else-contains-n c = rw (sym (decided (goal.at.returns-else-contains-n c).After-contains) ∙ c.if-contains-n.false) refl
