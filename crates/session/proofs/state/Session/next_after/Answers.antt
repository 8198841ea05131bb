-- `session::state::Session::next_after` meets its contract: each rule is a test of the code. Assumes nothing.
use borrow.Author.Tests.{lt-ltb, le-ltb}
use Rattle.session.proofs.RuleLaws.{rules_are}
use Rattle.session.proofs.state.Session.next_after.Goals as goal
use Rattle.session.proofs.state.Session.next_after.Goals.{in-Done, in-More-2, in-Again-2}

pub returns-in-More : goal.returns-in-More
returns-in-More c = rw (rules_are c.args.self c.args.status c.args.n, c.in-More.is, ← c.is_response.ensures, c.if-n-is_response.true)

pub returns-in-Again : goal.returns-in-Again
returns-in-Again c = rw (rules_are c.args.self c.args.status c.args.n, c.in-Again.is, ← c.is_sent_again.ensures, c.if-is_sent_again-n.true)

pub returns-in-Other : goal.returns-in-Other
returns-in-Other c = rw (rules_are c.args.self c.args.status c.args.n, c.in-Other.is)

pub returns-then-capacity-self : goal.returns-then-capacity-self
returns-then-capacity-self c =
    let full = lt-ltb _ _ c.if-capacity-self.true in
    elim c.match-status.branch [
      | in-Done w ↦ rw (rules_are c.args.self c.args.status c.args.n, w.in-Done.is, ← c.capacity.ensures, full)
      | in-More-2 w ↦ rw (rules_are c.args.self c.args.status c.args.n, w.in-More-2.is, ← w.is_response.ensures, w.if-n-is_response.false, ← c.capacity.ensures, full)
      | in-Again-2 w ↦ rw (rules_are c.args.self c.args.status c.args.n, w.in-Again-2.is, ← w.is_sent_again.ensures, w.if-is_sent_again-n.false, ← c.capacity.ensures, full)
    ]

pub returns : goal.returns
returns c =
    let fits = le-ltb _ _ c.if-capacity-self.false in
    elim c.match-status.branch [
      | in-Done w ↦ rw (w.after-is, rules_are c.args.self c.args.status c.args.n, w.in-Done.is, ← c.capacity.ensures, fits)
      | in-More-2 w ↦ rw (w.after-is, rules_are c.args.self c.args.status c.args.n, w.in-More-2.is, ← w.is_response.ensures, w.if-n-is_response.false, ← c.capacity.ensures, fits)
      | in-Again-2 w ↦ rw (w.after-is, rules_are c.args.self c.args.status c.args.n, w.in-Again-2.is, ← w.is_sent_again.ensures, w.if-is_sent_again-n.false, ← c.capacity.ensures, fits, w.sent_again.ensures)
    ]
