-- The words so far are the names of the encodings.
use Rattle.std.proofs.Common.{◌≡◌, map, take}
use Rattle.rfb_session.specs.language.Words.{name_of, texts}
use Rattle.rfb_session.proofs.language.words.read_encodings.Given as goal

abbrev pub invariant-loop-word : goal.invariant-loop-word
invariant-loop-word l = texts (take l.word-index l.words) ≡ map name_of l.encodings.items
