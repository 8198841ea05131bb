-- `card::object::next_field` meets its contract: what stands at the place picks the case. Assumes nothing.
use mathlib.Core.Path.{◌≡◌, sym, ap, ◌∙◌}
use mathlib.Core.Bool.{◌&&◌}
use borrow.Author.Tests.{tests}
use lib.Dec.{leb}
use Rattle.std.proofs.Common.{rules}
use Prim.Native.Nat.{◌+◌, ◌≤◌}
use native.Mathlib.Omega.{arith}
use lib.ListN.{length, drop}
use Rattle.std.specs.Prelude.{Some}
use Rattle.card.specs.Tlv.{header_of}
use Rattle.card.specs.ObjectCode.{read_field}
use Rattle.card.proofs.TlvLaws.{known, place_inside}
use Rattle.card.proofs.FieldLaws.{field_none, field_other, field_found, field_unlike}
use Rattle.card.proofs.object.next_field.Goals as goal
use Rattle.card.proofs.object.next_field.Goals.{In-Some, After-contains-allowed}

pub returns-then-byte-row : goal.returns-then-byte-row
returns-then-byte-row c =
    c.then_some-absent.ensures ∙ ap read_field (field_unlike c.args.v.now c.args.base c.args.row c.args.at (omega arith) (λ e. c.if-byte-row.true (c.byte.ensures ∙ e)))

pub returns-in_default : goal.returns-in_default
returns-in_default c =
    c.then_some-absent.ensures ∙ ap read_field (field_none c.args.v.now c.args.base c.args.row c.args.at (known c.in_default.is c.next_header.ensures c.after.ensures))

-- the header of the arm
header_is : (c : goal.In-Some) → Some c.in-Some.header ≡ header_of (drop c.args.at c.args.v.now)
header_is c = known c.in-Some.is c.next_header.ensures c.after.ensures

pub returns-then-header-from : goal.returns-then-header-from
returns-then-header-from c =
    c.then_some-absent.ensures ∙ ap read_field (field_other c.args.v.now c.args.base c.args.row c.args.at (header_is (goal.at.returns-then-header-from c).In-Some) (λ e. c.if-header-from.true (e ∙ sym c.from.ensures)))

-- the test of the length, in the definition's words
allowed : (c : goal.After-contains-allowed) → c.contains-allowed.result ≡ leb c.args.row.least c.in-Some.header.len && leb c.in-Some.header.len c.args.row.most
allowed c = search (rules, tests)

pub returns : goal.returns
returns c =
    c.then_some.ensures
    ∙ rw (allowed (goal.at.returns c).After-contains-allowed) (ap read_field (field_found c.args.v.now c.args.base c.args.row c.args.at (header_is (goal.at.returns c).In-Some) (c.if-header-from.false ∙ c.from.ensures)))

-- the field ends within v
field_fits : (c : goal.In-Some) → c.args.at + c.in-Some.header.start + c.in-Some.header.len ≤ length c.args.v.now
field_fits c = place_inside c.args.v.now c.args.at (header_is c) c.requires.0

pub overflow_add-value : goal.overflow_add-value
overflow_add-value c = omega (arith, field_fits (goal.at.overflow_add-value c).In-Some)

pub overflow_add-base : goal.overflow_add-base
overflow_add-base c = omega (arith, field_fits (goal.at.overflow_add-base c).In-Some)

pub overflow_cast-base : goal.overflow_cast-base
overflow_cast-base c = omega (arith, field_fits (goal.at.overflow_cast-base c).In-Some)

pub overflow_cast-header : goal.overflow_cast-header
overflow_cast-header c = omega (arith, field_fits (goal.at.overflow_cast-header c).In-Some)

pub overflow_add-value-2 : goal.overflow_add-value-2
overflow_add-value-2 c = omega (arith, field_fits (goal.at.overflow_add-value-2 c).In-Some)
