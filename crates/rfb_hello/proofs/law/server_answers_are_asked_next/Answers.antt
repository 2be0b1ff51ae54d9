use Rattle.rfb_hello.proofs.AnswerLaws.{greeting_read, types_read, result_read, init_read}
use Rattle.rfb_hello.proofs.law.server_answers_are_asked_next.Goals as goal

pub returns-clause-greeting : goal.returns-clause-greeting
returns-clause-greeting c = greeting_read

pub returns-clause-types : goal.returns-clause-types
returns-clause-types c = λ setup limit version max. types_read setup limit max version

pub returns-clause-result : goal.returns-clause-result
returns-clause-result c = λ setup limit version max. result_read setup limit max version

pub returns-clause-init : goal.returns-clause-init
returns-clause-init c = λ setup limit version max shared is. init_read setup limit max version shared is
