use Rattle.std.proofs.Common.{rules}
use Rattle.rfb_session.proofs.language.words.read_rect.Goals as goal

pub returns-in_err-read_number-clause-found : goal.returns-in_err-read_number-clause-found
returns-in_err-read_number-clause-found c = search (rules, c.in_err-read_number.ensures)

pub returns-in_err-read_number-2-clause-found : goal.returns-in_err-read_number-2-clause-found
returns-in_err-read_number-2-clause-found c = search (rules, c.in_err-read_number-2.ensures)

pub returns-in_err-read_number-3-clause-found : goal.returns-in_err-read_number-3-clause-found
returns-in_err-read_number-3-clause-found c = search (rules, c.in_err-read_number-3.ensures)

pub returns-in_err-read_number-4-clause-found : goal.returns-in_err-read_number-4-clause-found
returns-in_err-read_number-4-clause-found c = search (rules, c.in_err-read_number-4.ensures)
