use Rattle.rfb_viewer.proofs.SendingLaws.{format_spelled, encodings_spelled, text_spelled}
use Rattle.rfb_session.proofs.law.messages.messages_of_a_viewer_are_spelled.Goals as goal

pub returns : goal.returns
returns c = record { format = format_spelled; encodings = encodings_spelled; text = text_spelled }
