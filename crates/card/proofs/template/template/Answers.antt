-- `card::template::template` meets its contract: the TLV 61 is there, and its value is walked, or it is not. Assumes
-- nothing.
use mathlib.Core.Path.{◌≡◌, refl, sym, ap, ◌∙◌}
use mathlib.Core.Bool.{false, cond}
use mathlib.Core.Logic.{◌⊎◌, ⊎_elim}
use Rattle.card.specs.Template.{good_from, template_of, template_number}
use Rattle.common.specs.Refusal.{number_in}
use Rattle.card.specs.declared.template.MalformedTemplate.{MalformedTemplate}
use Rattle.card.specs.TemplateCode.{walked}
use Rattle.std.specs.Prelude.{Some, Result, Ok, Err, IsErr}
use Rattle.card.specs.declared.template.Aids.{Aids}
use Rattle.card.specs.declared.template.Aids.TheVariants.{Absent, Others}
use native.Mathlib.Omega.{arith}
use Rattle.card.proofs.TlvLaws.{some_of, none_of}
use Rattle.card.proofs.TemplateLaws.{found_one, good_is}
use Rattle.card.proofs.template.template.Goals as goal
use Rattle.card.proofs.template.template.Goals.{After-walk}

-- a decline is the papers' number
bad : (r : Result Unit MalformedTemplate) → IsErr r → number_in template_number r ≡ 19
bad (Ok a) h = grind arith
bad (Err e) h = refl

-- after the walk what it found decides
decided : (c : goal.After-walk) → template_of c.args.s.now ≡ cond (found_one c.walk.result) 0 19
unfolding template_of good_from
decided c = rw (← (some_of _ _ (sym c.ok_or.ensures.value ∙ c.in_ok-header.was) ∙ c.only.ensures), good_is _ (c.walk.ensures ∙ ap (walked _ Absent) c.part.ensures))

-- others than just one are refused
refused : {n : Aids} → (n ≡ Absent) ⊎ (n ≡ Others) → found_one (Some n) ≡ false
refused e = ⊎_elim (λ k. rw k) (λ k. rw k) e

pub returns-in-JustOne : goal.returns-in-JustOne
returns-in-JustOne c = sym (decided (goal.at.returns-in-JustOne c).After-walk ∙ rw (sym (some_of _ _ (sym c.ok_or-2.ensures.value ∙ c.in_ok-aids.was)), c.in-JustOne.is))

pub returns-in-Absent : goal.returns-in-Absent
returns-in-Absent c = sym (decided (goal.at.returns-in-Absent c).After-walk ∙ rw (sym (some_of _ _ (sym c.ok_or-2.ensures.value ∙ c.in_ok-aids.was)), refused c.in-Absent.is))

pub returns-in_err-aids : goal.returns-in_err-aids
returns-in_err-aids c =
    bad _ c.from_residual-in_err-aids.ensures.0 ∙ sym (decided (goal.at.returns-in_err-aids c).After-walk ∙ rw (none_of _ _ (sym c.ok_or-2.ensures.value ∙ c.in_err-aids.was)))

pub returns-in_err-header : goal.returns-in_err-header
unfolding template_of good_from
returns-in_err-header c = rw (sym c.only.ensures ∙ none_of _ _ (sym c.ok_or.ensures.value ∙ c.in_err-header.was)) (bad _ c.from_residual.ensures.0)
