use Rattle.std.proofs.Common.{refl, sym, subst, codes, Option}
use Rattle.clap.specs.Walk.{Text, rows_of}
use Rattle.clap.specs.Matches.{found_of}
use Rattle.rfb.specs.command.Values.{NamesEncodings}
use Rattle.rfb.proofs.OptionLemmas.{encodings_given, first_is}
use Rattle.rfb.proofs.options.given.encodings_in.Goals as goal

pub returns-in-Some : goal.returns-in-Some
returns-in-Some c =
    encodings_given c.args.otherwise.items (rows_of (found_of c.args.given.now)) c.in-Some.list.now
    c.encodings_named.result
    (first_is (found_of c.args.given.now) (codes "encodings") _ _ c.get_str.ensures c.in-Some.is)
    c.encodings_named.ensures

pub returns-in-None : goal.returns-in-None
returns-in-None c =
    subst (λ (o : Option Text). NamesEncodings c.args.otherwise.items o c.args.otherwise.items)
    (sym (first_is (found_of c.args.given.now) (codes "encodings") _ _ c.get_str.ensures c.in-None.is)) refl
