use Rattle.std.proofs.Common.{map}
use Rattle.rfb.proofs.OptionLemmas.{asked_order}
use Rattle.rfb.proofs.options.read_words.Goals as goal

pub returns : goal.returns
returns g c =
    asked_order (map g.S.AsStr.text c.args.words.now) _ c.order_in.result c.in_ok-matches.ensures.fails
    c.in_ok-matches.ensures.asked c.order_in.ensures
