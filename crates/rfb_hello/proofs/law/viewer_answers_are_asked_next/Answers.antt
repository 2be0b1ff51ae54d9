use Rattle.rfb_hello.proofs.ViewerAnswerLaws.{greeting_answered, none_answered, types_answered, result_answered}
use Rattle.rfb_hello.proofs.law.viewer_answers_are_asked_next.Goals as goal

pub returns-clause-version : goal.returns-clause-version
returns-clause-version c = greeting_answered

pub returns-clause-none : goal.returns-clause-none
returns-clause-none c = none_answered

pub returns-clause-types : goal.returns-clause-types
returns-clause-types c = types_answered

pub returns-clause-result : goal.returns-clause-result
returns-clause-result c = result_answered
