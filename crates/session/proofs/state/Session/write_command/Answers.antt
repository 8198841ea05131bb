-- `session::state::Session::write_command` meets its contract: by the next command. Assumes nothing.
use mathlib.Core.Path.{◌∙◌}
use Rattle.session.proofs.SendLaws.{initial_next, get_response_next, initial_again_next, get_response_again_next}
use Rattle.session.proofs.state.Session.write_command.Goals as goal

pub returns-in-Initial : goal.returns-in-Initial
returns-in-Initial c =
    c.write_initial.ensures ∙ initial_next c.args.self.now c.args.out.now c.in-Initial.is

pub returns-in-GetResponse : goal.returns-in-GetResponse
returns-in-GetResponse c = c.get_response.ensures ∙ get_response_next _ _ c.in-GetResponse.is

pub returns-in-InitialAgain : goal.returns-in-InitialAgain
returns-in-InitialAgain c =
    c.write_initial-in-InitialAgain.ensures ∙ initial_again_next c.args.self.now c.args.out.now c.in-InitialAgain.is

pub returns-in-GetResponseAgain : goal.returns-in-GetResponseAgain
returns-in-GetResponseAgain c = c.get_response-in-GetResponseAgain.ensures ∙ get_response_again_next _ _ c.in-GetResponseAgain.is
