use Rattle.std.proofs.Common.{◌≡◌, ◌≤◌, ◌∙◌, Option, Some, refl, rules, sym, ap, subst, ℕ}
use Rattle.rfb_pixel.specs.declared.colour.Colour.{Colour}
use Rattle.rfb_picture.specs.Grid.{Grid}
use Rattle.rfb_codec.specs.Effect.{IsAlike}
use Rattle.rfb_viewer.specs.Damage.{damage_of, IsSameOutside}
use Rattle.rfb_viewer.specs.Moved.{moved_of}
use Rattle.rfb_session.specs.declared.share.screen.Screen.{Screen}
use Rattle.rfb_session.specs.Mirrors.{shown_of, seen_by}
use Rattle.rfb_session.specs.ShareScreen.{shown_on}
use Rattle.rfb_session.specs.ShareMoves.{IsRelayed}
use Rattle.rfb_session.specs.ShareWork.{OthersRest}
use Rattle.rfb_session.proofs.FollowLemmas.{AllFollow}
use Rattle.rfb_session.proofs.KinLemmas.{alike_still, still_kept}
use Rattle.rfb_session.proofs.ShareFeedLemmas.{told_rests}
use Rattle.rfb_session.proofs.ShareRelayLemmas.{all_alike, all_relayed, fed_so}
use Rattle.rfb_session.proofs.share.Share.feed.Goals as goal

pub relay-is_told-requires : goal.relay-is_told-requires
relay-is_told-requires c =
    let s = c.args.self.now in
    let m = c.in-Seen.mirror in
    record {
      alike = all_alike (seen_by m.viewer) (seen_by c.feed-fed.new.self.viewer) s.seats
          (subst (λ (x : Screen). AllFollow (λ seat. seat.session) (shown_on x) s.seats) c.in-Seen.is s.follow)
          (record { columns = c.feed-fed.ensures.columns; rows = c.feed-fed.ensures.rows });
    }

pub invariant_of-self-2 : goal.invariant_of-self-2
invariant_of-self-2 c =
    let s = c.args.self.now in
    let m = c.in-Seen.mirror in
    let f = c.feed-fed in
    let r = c.relay-is_told in
    let is = c.in-Seen.is in
    let before = seen_by m.viewer in
    let after = seen_by r.new.mirror.viewer in
    let same : after ≡ seen_by f.new.self.viewer =
    ap (λ (o : Option (Grid Colour)). shown_of o) r.ensures.asked.keeps.picture in
    let wide : after.width ≡ before.width = ap (λ (g : Grid Colour). g.width) same ∙ f.ensures.columns in
    let high : after.height ≡ before.height = ap (λ (g : Grid Colour). g.height) same ∙ f.ensures.rows in
    let damage = damage_of f.new.self.viewer in
    let outside : IsSameOutside damage (Some before) (Some after) =
    subst (λ (g : Grid Colour). IsSameOutside damage (Some before) (Some g)) (sym same) f.ensures.outside in
    let follow : AllFollow (λ seat. seat.session) before s.seats =
    subst (λ (x : Screen). AllFollow (λ seat. seat.session) (shown_on x) s.seats) is s.follow in
    record {
      eight = r.ensures.size ∙ s.eight;
      columns = subst (λ (n : ℕ). n ≤ 4096) (sym wide)
          (subst (λ (x : Screen). (shown_on x).width ≤ 4096) is s.columns);
      rows = subst (λ (n : ℕ). n ≤ 4096) (sym high)
          (subst (λ (x : Screen). (shown_on x).height ≤ 4096) is s.rows);
      follow = all_relayed before after damage (moved_of f.new.self.viewer) s.seats r.new.slots follow r.ensures.told
          (record { columns = wide; rows = high }) outside;
      rest = told_rests r.result before after damage s.seats r.new.slots s.stirred c.stirred_by-self.result
          (r.ensures.size ∙ s.eight) c.stirred_by-self.ensures.all c.stirred_by-self.ensures.same r.ensures.none
          r.ensures.same follow r.ensures.whole (record { columns = wide; rows = high }) outside
          (subst (λ (x : Screen). OthersRest (shown_on x) s.seats s.stirred) is s.rest);
      alike = alike_still s.kin s.seats r.new.slots
          (λ k. still_kept (λ a b. IsRelayed after damage (moved_of f.new.self.viewer) a b) _ _
          (λ a b one. one.keeps) (r.ensures.told k)) s.alike;
    }

pub returns : goal.returns
returns c =
    let s = c.args.self.now in
    let m = c.in-Seen.mirror in
    let f = c.feed-fed in
    let e = c.feed-fed.ensures in
    let r = c.relay-is_told in
    let alike : IsAlike (seen_by f.new.self.viewer) (seen_by m.viewer) =
    record { columns = e.columns; rows = e.rows } in
    record {
      none = search rules;
      kept = search rules;
      fed = (fed_so s _ m r.new.mirror c.args.bytes.now f.new.self.viewer f.result c.in-Seen.is refl refl
          r.ensures.asked alike r.ensures.told e.takes e.fails).0;
      refused = (fed_so s _ m r.new.mirror c.args.bytes.now f.new.self.viewer f.result c.in-Seen.is refl refl
          r.ensures.asked alike r.ensures.told e.takes e.fails).1;
    }
