use Rattle.std.proofs.Common.{◌≤◌, ◌∙◌, refl, sym, ap, subst}
use Rattle.rfb_pixel.specs.declared.colour.Colour.{Colour}
use Rattle.rfb_picture.specs.Grid.{Grid}
use Rattle.rfb_server.specs.Model.{serving_with}
use Rattle.rfb_session.specs.declared.share.screen.Screen.{Screen}
use Rattle.rfb_session.specs.Share.{viewer_of}
use Rattle.rfb_session.specs.ShareScreen.{shown_on, viewer_on}
use Rattle.rfb_session.specs.ShareWork.{OthersRest}
use Rattle.rfb_session.proofs.FollowLemmas.{AllFollow}
use Rattle.rfb_session.proofs.ShareRelayLemmas.{if_viewer}
use Rattle.rfb_session.proofs.share.Share.append.Goals as goal

pub invariant_of-self-2 : goal.invariant_of-self-2
invariant_of-self-2 c =
    let s = c.args.self.now in
    let same = sym (c.append.ensures.shown ∙ ap (λ (x : Screen). shown_on x) (sym c.in-Seen.is)) in
    record {
      eight = s.eight;
      columns = subst (λ (g : Grid Colour). g.width ≤ 4096) same s.columns;
      rows = subst (λ (g : Grid Colour). g.height ≤ 4096) same s.rows;
      follow = subst (λ (g : Grid Colour). AllFollow (λ seat. seat.session) g s.seats) same s.follow;
      rest = subst (λ (g : Grid Colour). OthersRest g s.seats s.stirred) same s.rest;
      alike = s.alike;
    }

pub returns-clause-makes : goal.returns-clause-makes
returns-clause-makes c =
    let s = c.args.self.now in
    let same = c.append.ensures.shown ∙ ap (λ (x : Screen). shown_on x) (sym c.in-Seen.is) in
    if_viewer (viewer_of s) _ c.in-Seen.mirror.viewer (ap (λ (x : Screen). viewer_on x) c.in-Seen.is)
    (record {
      now = c.append.new.self.viewer;
      is_there = refl;
      makes = c.append.ensures.makes;
      screen = same;
      seats = λ k. refl;
      made = ap (λ (g : Grid Colour). serving_with s.offer g.width g.height s.name.items s.text_limit) same;
    })
