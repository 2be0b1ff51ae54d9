use Rattle.rfb_picture.proofs.PlaceSetLemmas.{fresh_sizes, layered-fresh}
use Rattle.rfb_picture.proofs.place_set.PlaceSet.new.Goals as goal

pub invariant_of-result : goal.invariant_of-result
invariant_of-result c =
    fresh_sizes c.ranges.width.fits c.ranges.height.fits c.div_ceil-columns.ensures c.div_ceil-rows.ensures
    c.in_ok-places.ensures.value c.in_ok-full.ensures.value c.in_ok-used.ensures.value c.in_ok-noted.ensures.value

pub returns-clause-value : goal.returns-clause-value
returns-clause-value c =
    layered-fresh c.args.width c.args.height c.div_ceil-columns.result c.div_ceil-rows.result
    (fresh_sizes c.ranges.width.fits c.ranges.height.fits c.div_ceil-columns.ensures c.div_ceil-rows.ensures
    c.in_ok-places.ensures.value c.in_ok-full.ensures.value c.in_ok-used.ensures.value c.in_ok-noted.ensures.value)
    c.in_ok-places.ensures.value c.in_ok-full.ensures.value c.in_ok-used.ensures.value
