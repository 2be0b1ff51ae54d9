use Rattle.rfb_codec.proofs.UpdateWaitLaws.{rect_short, body_got, body_effect, body_waits, body_bad}
use Rattle.rfb_codec.proofs.law.updates.a_rectangle_is_decided_by_its_data.Goals as goal

pub returns-clause-short : goal.returns-clause-short
returns-clause-short c = λ p bytes some short. rect_short p bytes some short

pub returns-clause-got : goal.returns-clause-got
returns-clause-got c =
    λ p head front body rest contents picture awaits got. body_got p head front picture awaits body rest contents got

pub returns-clause-effect : goal.returns-clause-effect
returns-clause-effect c =
    λ p head front body contents picture awaits got. body_effect p head front picture awaits body contents got

pub returns-clause-waits : goal.returns-clause-waits
returns-clause-waits c = λ p head front body picture awaits waits. body_waits p head front picture awaits body waits

pub returns-clause-bad : goal.returns-clause-bad
returns-clause-bad c = λ p head front body fault picture awaits bad. body_bad p head front picture awaits body fault bad
