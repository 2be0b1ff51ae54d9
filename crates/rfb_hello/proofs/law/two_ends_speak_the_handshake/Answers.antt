use Rattle.rfb_hello.proofs.ConversationLaws.{two_ends_speak}
use Rattle.rfb_hello.proofs.law.two_ends_speak_the_handshake.Goals as goal

pub returns : goal.returns
returns c = two_ends_speak
