use Rattle.std.proofs.Common.{ap, inl, refl, sym}
use Rattle.rfb_session.specs.declared.owner.order.Order.TheVariants as Order
use Rattle.rfb_session.proofs.OwnerReaderLemmas.{in_place}
use Rattle.rfb_session.proofs.owner.reader.OwnerReader.placed.Goals as goal

pub returns-in-Screen : goal.returns-in-Screen
returns-in-Screen c = record {
  told = inl (ap Order.Line (sym c.in-Screen.is), in_place _ _ c.in-Screen.screen c.if-is_none.ensures c.in-Screen.is);
  known = refl;
  stage = refl;
}
