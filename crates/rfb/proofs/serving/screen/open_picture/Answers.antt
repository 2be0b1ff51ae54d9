use Rattle.rfb.proofs.ServingLemmas.{fails_to_read, some_spelled}
use Rattle.rfb.proofs.serving.screen.open_picture.Goals as goal

pub returns-in-Ok-clause-read : goal.returns-in-Ok-clause-read
returns-in-Ok-clause-read g c = some_spelled c.read_picture.result _ c.read_picture.ensures.read

pub returns-in-Ok-clause-why : goal.returns-in-Ok-clause-why
returns-in-Ok-clause-why g c = fails_to_read c.read_picture.result _ c.read_picture.ensures.refused
