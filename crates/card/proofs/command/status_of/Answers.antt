-- `card::command::status_of` meets its contract: each pattern is a test of the definition. Assumes nothing.
use mathlib.Core.Path.{◌≡◌}
use native.Mathlib.Omega.{arith}
use lib.ListN.{length}
use Rattle.std.proofs.Common.{rules}
use Rattle.card.proofs.CommandLaws.{status_done, status_more, status_again, status_not_two, status_unlike, status_none}
use Rattle.card.proofs.command.status_of.Goals as goal

pub returns-in-144 : goal.returns-in-144
returns-in-144 c = search (rules, status_done)

pub returns-in-97 : goal.returns-in-97
returns-in-97 c = search (rules, status_more)

pub returns-in-108 : goal.returns-in-108
returns-in-108 c = search (rules, status_again)

pub returns-in_default : goal.returns-in_default
returns-in_default c = search (rules, status_not_two)

pub returns-in_default-2 : goal.returns-in_default-2
returns-in_default-2 c = search (rules, status_unlike)

pub returns-in_default-3 : goal.returns-in_default-3
returns-in_default-3 c = status_none _ (omega arith) (omega arith) (λ k. grind arith) (λ k. grind arith) (λ k. grind arith)

pub returns-in_default-4 : goal.returns-in_default-4
returns-in_default-4 c = status_not_two _ (λ (e : length c.args.s.now ≡ 2). omega arith)
