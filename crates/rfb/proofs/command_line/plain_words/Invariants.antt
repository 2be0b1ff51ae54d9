-- The words so far, but those that ask for sentences.
use Rattle.std.proofs.Common.{◌≡◌, map, take}
use Rattle.rfb.specs.Options.{plain_of}
use Rattle.rfb.proofs.command_line.plain_words.Given as goal

abbrev pub invariant-loop-word : goal.invariant-loop-word
invariant-loop-word g l =
    map (λ word. g.S.AsStr.text word.now) l.plain.items ≡ plain_of (map g.S.AsStr.text (take l.word-index l.words))
