-- `session::judge::field_value` meets its contract: the part lies inside. Assumes nothing.
use mathlib.Core.Path.{◌≡◌, ap, ◌∙◌}
use Rattle.card.specs.Object.{field_part, field_value, bytes_at}
use Rattle.card.proofs.ObjectLaws.{part_inside_lem}
use Rattle.session.proofs.judge.field_value.Goals as goal
use Rattle.session.proofs.judge.field_value.Goals.{After-part_of}

part_is : (c : goal.After-part_of) → c.part_of.result ≡ field_part c.args.kind c.args.tag c.args.s.now
part_is c = rw c.requires c.part_of.ensures

pub cut-requires : goal.cut-requires
cut-requires c = rw (part_is (goal.at.cut-requires c).After-part_of) (part_inside_lem _ _ _)

pub returns : goal.returns
unfolding field_value
returns c = c.cut.ensures ∙ ap (bytes_at c.args.s.now) (part_is (goal.at.returns c).After-part_of)
