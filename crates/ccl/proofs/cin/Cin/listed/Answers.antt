-- `ccl::cin::Cin::listed` meets its contract: a turn passes a line. Assumes nothing.
use mathlib.Core.Path.{◌≡◌, sym, ap, ap₂, ◌∙◌}
use mathlib.Core.Bool.{◌||◌}
use mathlib.Core.List.{List}
use Prim.Native.Nat.{ℕ, ◌+◌, ◌<◌}
use native.Mathlib.Nat.{le_of_eq}
use native.Mathlib.Omega.{arith}
use borrow.Author.Tests.{eqb-true, eqb-false}
use lib.Dec.{eqb}
use lib.ListN.{length, drop, length-drop}
use Rattle.ccl.specs.Visual.{text_lines}
use Rattle.ccl.specs.VisualCode.{front_size, front_number, pass_over}
use Rattle.ccl.proofs.VisualCodeLaws.{front_within, pass_on, pass_end, pass_stop, lookup_is}
use Rattle.ccl.proofs.cin.Cin.listed.Goals as goal
use Rattle.ccl.proofs.cin.Cin.listed.Goals.{In-loop-rest}

pub loop-rest-init : goal.loop-rest-init
loop-rest-init c = (omega arith, lookup_is c.args.self.0 c.args.text.now)

-- a byte is left
left : (c : goal.In-loop-rest) → 0 < length c.loop-rest.rest.now
left c = omega (arith, eqb-false (length c.loop-rest.rest.now) 0 (sym c.is_empty.ensures ∙ c.loop-rest-test.true))

pub returns-in_default : goal.returns-in_default
returns-in_default c =
    sym (pass_stop c.args.self.0 c.loop-rest.lines c.loop-rest.met c.loop-rest.rest.now (left (goal.at.returns-in_default c).In-loop-rest) c.in_default.ensures) ∙ c.loop-rest.invariant.1

pub loop-rest-preserved : goal.loop-rest-preserved
loop-rest-preserved c =
    let s = c.loop-rest.rest.now in
    let l : (c.in-Some.line.size ≡ front_size s) × (c.in-Some.line.number ≡ front_number s) × (0 < c.in-Some.line.size) = c.in-Some.ensures in (
      omega (arith, c.loop-rest.invariant.0, l, front_within s, ap length c.after-rest.ensures, length-drop c.in-Some.line.size s),
      ap₂ (λ (x : ℕ) (r : List ℕ). pass_over c.args.self.0 (c.loop-rest.lines + 1) (c.loop-rest.met || eqb c.args.self.0 x) (text_lines r)) l.1
          (c.after-rest.ensures ∙ ap (λ (m : ℕ). drop m s) l.0)
          ∙ sym (pass_on c.args.self.0 c.loop-rest.lines c.loop-rest.met s (λ z. omega (arith, z, l))) ∙ c.loop-rest.invariant.1,
    )

pub returns : goal.returns
returns c =
    sym (pass_end c.args.self.0 c.loop-rest.lines c.loop-rest.met c.loop-rest.rest.now (le_of_eq (eqb-true (length c.loop-rest.rest.now) 0 (sym c.is_empty.ensures ∙ c.loop-rest-test.false)))) ∙ c.loop-rest.invariant.1
