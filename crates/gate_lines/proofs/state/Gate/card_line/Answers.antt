-- `gate_lines::state::Gate::card_line` meets its contract: by the count of cards there is room, or there is none. Assumes nothing.
use mathlib.Core.Path.{◌≡◌}
use mathlib.Core.Bool.{true, false}
use Prim.Native.Nat.{◌≤◌, ◌<◌}
use native.Mathlib.Omega.{arith}
use borrow.Author.Tests.{lt-ltb}
use lib.Seq.{length-take-le}
use Rattle.gate_lines.specs.Gate.{gate_after, reply_to, has_room, most_cards}
use Rattle.gate_lines.proofs.LentLaws.{card_kept, card_blank}
use Rattle.gate_lines.proofs.state.Gate.card_line.Goals as goal
use Rattle.gate_lines.proofs.state.Gate.card_line.Goals.{Then-self-eq-CARDS, Else-self-eq-CARDS}

full : (c : goal.Then-self-eq-CARDS) → has_room c.args.self.now ≡ false
full c = rw (← c.self.view_is, length-take-le c.self.inside.cards c.self.inside.keys (omega (arith, c.self.told.0, c.if-self-eq-CARDS.true)), c.if-self-eq-CARDS.true)

small : (c : goal.Else-self-eq-CARDS) → c.self.inside.cards < most_cards
small c = let most : c.self.inside.cards ≤ most_cards = c.self.invariant.0 in omega (arith, most, c.if-self-eq-CARDS.false)

room : (c : goal.Else-self-eq-CARDS) → has_room c.args.self.now ≡ true
room c = rw (← c.self.view_is, length-take-le c.self.inside.cards c.self.inside.keys (omega (arith, c.self.told.0, small c)), lt-ltb _ _ (small c))

pub returns-then-self-eq-CARDS-clause-state : goal.returns-then-self-eq-CARDS-clause-state
unfolding gate_after
returns-then-self-eq-CARDS-clause-state c = rw (full (goal.at.returns-then-self-eq-CARDS-clause-state c).Then-self-eq-CARDS)

pub returns-then-self-eq-CARDS-clause-reply : goal.returns-then-self-eq-CARDS-clause-reply
unfolding reply_to
returns-then-self-eq-CARDS-clause-reply c = rw (full (goal.at.returns-then-self-eq-CARDS-clause-reply c).Then-self-eq-CARDS)

pub returns-clause-state : goal.returns-clause-state
unfolding gate_after
returns-clause-state c =
    let e = (goal.at.returns-clause-state c).Else-self-eq-CARDS in
    rw (room e, card_kept c.self.inside.cards c.args.key.0 c.self.inside.keys (omega (arith, c.self.told.0, small e)), ← c.self.view_is)

pub returns-clause-reply : goal.returns-clause-reply
unfolding reply_to
returns-clause-reply c = rw (room (goal.at.returns-clause-reply c).Else-self-eq-CARDS)

pub invariant_of-self : goal.invariant_of-self
invariant_of-self c =
    card_blank most_cards c.self.inside.cards c.args.key.0 c.self.inside.keys c.self.invariant c.self.told.0
    (small (goal.at.invariant_of-self c).Else-self-eq-CARDS)
