-- `card::tlv::only` meets its contract: the header's tag and end pick the case. Assumes nothing.
use mathlib.Core.Path.{◌≡◌, sym, ◌∙◌}
use mathlib.Core.Bool.{Bool, true, false, ◌&&◌}
use Prim.Native.Nat.{◌+◌}
use native.Mathlib.Omega.{arith}
use lib.Dec.{eqb}
use lib.ListN.{length}
use Rattle.std.specs.Prelude.{Some}
use Rattle.card.specs.Tlv.{header_of, only_from, only_of}
use Rattle.card.proofs.TlvLaws.{header_inside}
use Rattle.card.proofs.tlv.only.Goals as goal
use Rattle.card.proofs.tlv.only.Goals.{In_ok-header}

-- the header that is there
header_is : (c : goal.In_ok-header) → Some c.in_ok-header.header ≡ header_of c.args.s.now
header_is c = sym c.in_ok-header.was ∙ c.header_of.ensures

pub overflow_add-header : goal.overflow_add-header
overflow_add-header c = omega (arith, header_inside c.args.s.now (header_is (goal.at.overflow_add-header c).In_ok-header))

-- the two tests
abbrev passes : goal.In_ok-header → Bool
passes c = eqb c.in_ok-header.header.tag c.args.wanted && eqb (c.in_ok-header.header.start + c.in_ok-header.header.len) (length c.args.s.now)

pub returns-then-header-wanted : goal.returns-then-header-wanted
unfolding only_of only_from
returns-then-header-wanted c = let both : passes (goal.at.returns-then-header-wanted c).In_ok-header ≡ true = c.if-header-wanted.true in rw (← header_is (goal.at.returns-then-header-wanted c).In_ok-header, both)

pub returns-else-header-wanted : goal.returns-else-header-wanted
unfolding only_of only_from
returns-else-header-wanted c = let not_both : passes (goal.at.returns-else-header-wanted c).In_ok-header ≡ false = c.if-header-wanted.false in rw (← header_is (goal.at.returns-else-header-wanted c).In_ok-header, not_both)

pub returns-in_err-header : goal.returns-in_err-header
unfolding only_of only_from
returns-in_err-header c = c.from_residual.ensures ∙ rw (← sym c.in_err-header.was ∙ c.header_of.ensures)
