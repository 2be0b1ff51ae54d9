use Rattle.std.proofs.Common.{sym, subst, refl, Option}
use Rattle.clap.specs.Matches.{found_of}
use Rattle.clap.specs.Walk.{Text}
use Rattle.rfb.specs.command.Values.{NamesWord}
use Rattle.rfb.proofs.OptionLemmas.{first_is}
use Rattle.rfb.proofs.options.given.word_or.Goals as goal

pub returns-in-Some : goal.returns-in-Some
returns-in-Some c =
    subst (λ (o : Option Text). NamesWord c.args.otherwise.now o c.in-Some.word.now)
    (sym (first_is (found_of c.args.given.now) c.args.name.now _ _ c.get_str.ensures c.in-Some.is)) refl

pub returns-in-None : goal.returns-in-None
returns-in-None c =
    subst (λ (o : Option Text). NamesWord c.args.otherwise.now o c.args.otherwise.now)
    (sym (first_is (found_of c.args.given.now) c.args.name.now _ _ c.get_str.ensures c.in-None.is)) refl
