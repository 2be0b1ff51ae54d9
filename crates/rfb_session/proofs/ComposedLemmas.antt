-- A composing of a link is one of its state.
use Rattle.std.proofs.Common.{◌≡◌, ◌≢◌, ℕ, List, [], Bool, true, false, ◌++◌, None, Some, inl, inr, refl, sym, ap, ◌∙◌}
use Rattle.std.proofs.Common.{subst}
use Rattle.std.proofs.lemmas.List.{append-nil}
use Rattle.rfb_pixel.specs.declared.colour.Colour.{Colour}
use Rattle.rfb_pixel.specs.Format.{PixelFormat}
use Rattle.rfb_picture.specs.Grid.{Grid}
use Rattle.rfb_picture.specs.Area.{Places}
use Rattle.rfb_server.specs.Server.{ServerState}
use Rattle.rfb_server.specs.Model.{session_fault, notes_in, Notes}
use Rattle.rfb_server.specs.Hints.{hints_in}
use Rattle.rfb_server.specs.UpdateCall.{HasSent, SendsUpdate, OwesUpdate, OwesNone}
use Rattle.rfb_server.proofs.ServerLaws.{session_noted}
use Rattle.rfb_viewer.specs.declared.viewer.Viewer.{Viewer}
use Rattle.rfb_viewer.specs.Model.{StandsFor as ViewerStandsFor}
use Rattle.rfb_session.specs.declared.event.Event.TheVariants.{Compose}
use Rattle.rfb_session.specs.declared.told.Told.{Told}
use Rattle.rfb_session.specs.declared.link.Link.{Link}
use Rattle.rfb_session.specs.Latest.{composing_in}
use Rattle.rfb_session.specs.Link.{server_of}
use Rattle.rfb_session.specs.LinkModel.{LinkDoesOver, ComposesNothingOver}
use Rattle.rfb_session.specs.LinkBytes.{ComposesOver}
use Rattle.rfb_session.proofs.NetworkLemmas.{reached_holds}
use Rattle.rfb_session.proofs.SentLemmas.{sent_link, sent_composes, sent_stands, sent_flies}

-- where a composing composes nothing no update was due
pub idle_not_due : (screen : Grid Colour) (link : Link) → OwesUpdate screen link.session →
    ComposesNothingOver screen link → ⊥
idle_not_due screen link due (e, l, stands, none) =
    let c = stands.carries in
    none (due e.serving (server_of screen l.session) c.server_has c.server_is)

-- a composing of an update, or of none, is one of a link's state
abbrev ComposingDoes : Bool → Type 0
ComposingDoes did = (screen : Grid Colour) (old new : Link) (told : Told) → ComposesOver screen old told new →
    told.moved ≡ 0 → told.refused ≡ None → told.composed ≡ did → LinkDoesOver screen old Compose told new

-- an update was composed, and what it answered was noted
pub composed_does : ComposingDoes true
composed_does screen old new told over none taken did = λ e n made reached here stands.
    let c = stands.carries in
    let s : ServerState = server_of n.screen n.link.session in
    let both = over.composed did in
    let updates : SendsUpdate n.screen old.session new.session old.to_viewer new.to_viewer =
    subst (λ (g : Grid Colour). SendsUpdate g old.session new.session old.to_viewer new.to_viewer) (sym here) both.0 in
    let one : HasSent e.serving s c.server_has (hints_in old.session) n.screen new.session old.to_viewer
    new.to_viewer =
    updates.sent e.serving s c.server_has c.server_is in
    let flies = sent_flies e n.link one _ (reached_holds e n reached) c.flies in
    let areas : (notes_in old.session).area ≡ n.link.session.area =
    ap (λ (notes : Notes). notes.area) (session_noted e.serving n.screen old.session s c.server_has c.server_is) in
    let forms : (notes_in new.session).form ≡ n.link.session.form =
    ap (λ (notes : Notes). notes.form)
    (session_noted e.serving n.screen new.session one.resulting c.server_has one.stands)
    ∙ one.update.composes.same_format in (
      record n { link = sent_link e n.link one },
      (refl, inl (sent_composes e n.link one)),
      record {
        moved = none;
        refused = taken;
        composed = (λ _. one.update.due, λ _. did);
      },
      refl,
      record {
        carries = record {
          server_has = c.server_has;
          viewer_has = c.viewer_has;
          server_is = sent_stands e n.link one;
          viewer_is = subst (λ (v : Viewer). ViewerStandsFor e.viewing v n.link.viewer c.viewer_has)
              (sym over.viewer) c.viewer_is;
          flies = rw (over.to_server, one.update.appended) flies;
        };
        latest_is = sym (both.1 ∙ ap (λ (g : Grid Colour). Some (record {
          screen = g;
          area = (notes_in old.session).area;
          form = (notes_in new.session).form;
        })) (sym here) ∙ ap (λ (a : Places). Some (record {
          screen = n.screen;
          area = a;
          form = (notes_in new.session).form;
        })) areas ∙ ap (λ (f : PixelFormat). Some (record {
          screen = n.screen;
          area = n.link.session.area;
          form = f;
        })) forms);
      },
    )

-- none was due
pub idle_does : ComposingDoes false
idle_does screen old new told over none taken not = λ e n made reached here stands.
    let c = stands.carries in
    let both = over.idle not in
    let stays : OwesNone n.screen old.session new.session old.to_viewer new.to_viewer =
    subst (λ (g : Grid Colour). OwesNone g old.session new.session old.to_viewer new.to_viewer) (sym here) both.0 in
    let never = stays.not_due e.serving _ c.server_has c.server_is in (
      n,
      (refl, inr (never, refl)),
      record {
        moved = none;
        refused = taken;
        composed = (λ did. absurd (apart told.composed did not), λ due. absurd (never due));
      },
      refl,
      record {
        carries = rw (over.viewer, over.to_server, stays.appended) (record {
          server_has = c.server_has;
          viewer_has = c.viewer_has;
          server_is = stays.kept.stands e.serving n.screen _ c.server_has c.server_is;
          viewer_is = c.viewer_is;
          flies = c.flies;
        });
        latest_is = stands.latest_is ∙ sym both.1;
      },
    )
  where
    apart : (b : Bool) → b ≡ true → b ≡ false → ⊥
    apart b one two = cc

-- the places that are asked before a composing, where there is room for them
pub asks_noted : (w : Link) (asked kept : Places) → asked ≡ (notes_in w.session).area →
    asked.asked.width ≡ (notes_in w.session).known.width →
    asked.asked.height ≡ (notes_in w.session).known.height →
    (w.latest.asked.asked.width ≡ asked.asked.width →
    w.latest.asked.asked.height ≡ asked.asked.height → kept ≡ asked) → kept ≡ (notes_in w.session).area
asks_noted w asked kept asks wide high keeps =
    keeps (w.room.asked_columns ∙ sym wide) (w.room.asked_rows ∙ sym high) ∙ asks

-- what was said of a composing by its parts, where none was due
pub idle_over : (screen : Grid Colour) (old new : Link) (told : Told) →
    OwesNone screen old.session new.session old.to_viewer new.to_viewer →
    composing_in new.latest ≡ composing_in old.latest →
    new.viewer ≡ old.viewer → new.to_server ≡ old.to_server → told.composed ≡ false →
    ComposesOver screen old told new
idle_over screen old new told owes same viewer to_server not = record {
  composed = λ did. absurd (apart told.composed did not);
  idle = λ _. (owes, same);
  appended = ([], owes.appended ∙ sym (append-nil old.to_viewer));
  failed = λ _. not;
  viewer = viewer;
  to_server = to_server;
}
  where
    apart : (b : Bool) → b ≡ true → b ≡ false → ⊥
    apart b one two = cc

-- and where one was
pub composed_over : (screen : Grid Colour) (old new : Link) (told : Told) →
    SendsUpdate screen old.session new.session old.to_viewer new.to_viewer →
    composing_in new.latest ≡ Some (record {
      screen = screen;
      area = (notes_in old.session).area;
      form = (notes_in new.session).form;
    }) →
    (bytes : List ℕ) × (new.to_viewer ≡ old.to_viewer ++ bytes) →
    (session_fault old.session ≢ None → told.composed ≡ false) →
    new.viewer ≡ old.viewer → new.to_server ≡ old.to_server → told.composed ≡ true →
    ComposesOver screen old told new
composed_over screen old new told sends noted appended failed viewer to_server did = record {
  composed = λ _. (sends, noted);
  idle = λ not. absurd (apart told.composed did not);
  appended = appended;
  failed = failed;
  viewer = viewer;
  to_server = to_server;
}
  where
    apart : (b : Bool) → b ≡ true → b ≡ false → ⊥
    apart b one two = cc
