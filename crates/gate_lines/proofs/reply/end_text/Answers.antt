-- `gate_lines::reply::end_text` meets its contract for every list of lines. Assumes nothing.
use mathlib.Core.Path.{ap, ◌∙◌}
use Rattle.gate_lines.specs.Gate.{refused_text}
use Rattle.gate_lines.proofs.EndLaws.{stamp_ends, refused_ends}
use Rattle.gate_lines.proofs.RunLaws.{end_promise}
use Rattle.gate_lines.proofs.reply.end_text.Goals as goal

pub returns-in-Ok-clause-for_every_list : goal.returns-in-Ok-clause-for_every_list
returns-in-Ok-clause-for_every_list c =
    end_promise _ _ (stamp_ends c.args.session c.stamp-stamped.result c.stamp-stamped.new.out _ _ c.stamp-stamped.ensures.result_value c.stamp-stamped.ensures.out_after c.in-Ok.is c.stamp_text.ensures)

pub returns-in-Err-clause-is : goal.returns-in-Err-clause-is
returns-in-Err-clause-is c =
    refused_ends c.args.session c.stamp-stamped.result c.in-Err.refusal _ c.stamp-stamped.ensures.result_value c.in-Err.is (c.refused_text.ensures ∙ ap refused_text c.number.ensures)

pub returns-in-Err-clause-for_every_list : goal.returns-in-Err-clause-for_every_list
returns-in-Err-clause-for_every_list c =
    end_promise _ _ (refused_ends c.args.session c.stamp-stamped.result c.in-Err.refusal _ c.stamp-stamped.ensures.result_value c.in-Err.is (c.refused_text.ensures ∙ ap refused_text c.number.ensures))
