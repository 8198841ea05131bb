-- `card::template::walk` meets its contract. Assumes nothing.
use mathlib.Core.Path.{◌≡◌, refl, sym, ap, ◌∙◌}
use Prim.Native.Nat.{◌+◌}
use native.Mathlib.Omega.{arith}
use lib.ListN.{length, length-drop}
use Rattle.std.specs.Prelude.{Some}
use Rattle.card.specs.Tlv.{header_of}
use Rattle.card.specs.TemplateCode.{walked}
use Rattle.card.specs.declared.template.Aids.TheVariants.{Absent}
use Rattle.card.proofs.TlvLaws.{header_inside, header_start}
use Rattle.card.proofs.TemplateLaws.{walk_end, walk_deep, walk_bad, walk_past, walk_broken, plain_passes, nested_passes, nested_fails}
use Rattle.card.proofs.template.+walk.Goals as goal
use Rattle.card.proofs.template.+walk.Goals.{then-header+in_ok-walk, else-header}

pub loop-rest-init : goal.loop-rest-init
loop-rest-init t c = (refl, omega arith)

pub returns-then-depth-eq0 : goal.returns-then-depth-eq0
returns-then-depth-eq0 t c = sym (c.loop-rest.invariant.0 ∙ walk_deep _ _ _ (grind arith) c.if-depth-eq0.true)

pub returns-in_err-header : goal.returns-in_err-header
returns-in_err-header t c = c.from_residual.ensures ∙ sym (c.loop-rest.invariant.0 ∙ walk_bad _ _ _ (grind arith) c.if-depth-eq0.false (sym c.in_err-header.was ∙ c.next_header.ensures))

pub overflow_add-header : goal.overflow_add-header
overflow_add-header t c =
    let e : Some c.in_ok-header.header ≡ header_of c.loop-rest.rest.now = sym c.in_ok-header.was ∙ c.next_header.ensures in
    omega (arith, header_inside c.loop-rest.rest.now e, c.loop-rest.invariant.1)

pub returns-in_err-walk : goal.returns-in_err-walk
returns-in_err-walk t c =
    c.from_residual-in_err-walk.ensures
    ∙ sym (c.loop-rest.invariant.0 ∙ walk_broken _ _ _ (grind arith) c.if-depth-eq0.false (sym c.in_ok-header.was ∙ c.next_header.ensures)
    (nested_fails _ _ c.if-header.true (c.walk.ensures ∙ ap (walked _ Absent) c.part.ensures) c.in_err-walk.was))

pub returns : goal.returns
returns t c = sym (c.loop-rest.invariant.0 ∙ walk_end _ _ _ (grind arith))

pub loop-rest-smaller : goal.loop-rest-smaller
loop-rest-smaller t c =
    let e : Some c.in_ok-header.header ≡ header_of c.loop-rest.rest.now = sym c.in_ok-header.was ∙ c.next_header.ensures in
    omega (arith, ap length c.after-rest.ensures, length-drop (c.in_ok-header.header.start + c.in_ok-header.header.len) c.loop-rest.rest.now, header_inside c.loop-rest.rest.now e, header_start c.loop-rest.rest.now e)

pub loop-rest-preserved : goal.loop-rest-preserved
loop-rest-preserved t c =
    let e : Some c.in_ok-header.header ≡ header_of c.loop-rest.rest.now = sym c.in_ok-header.was ∙ c.next_header.ensures in (
      c.loop-rest.invariant.0 ∙ rw (c.with-aids.ensures, c.after-rest.ensures) (walk_past _ _ _ (grind arith) c.if-depth-eq0.false e
          (elim c.if-header.branch [
            | then-header+in_ok-walk w ↦ nested_passes _ _ w.if-header.true (w.walk.ensures ∙ ap (walked _ Absent) w.part.ensures) w.in_ok-walk.was
            | else-header w ↦ plain_passes _ _ w.if-header.false
          ])),
      omega (arith, ap length c.after-rest.ensures, length-drop (c.in_ok-header.header.start + c.in_ok-header.header.len) c.loop-rest.rest.now, c.loop-rest.invariant.1),
    )
