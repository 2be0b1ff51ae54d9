-- What the handshake's end refuses, or has no memory for, a viewer does too.
use Rattle.std.proofs.Common.{◌≡◌, ℕ, inl, inr, true, List, [], ◌++◌, Option, Some, None, take, drop, refl, sym, subst}
use Rattle.std.proofs.Common.{◌∙◌, ap, append-nil, append_assoc, take-append-drop}
use Rattle.rfb_pixel.specs.declared.colour.Colour.{Colour}
use Rattle.rfb_picture.specs.Grid.{Grid, uniform}
use Rattle.rfb_wire.specs.stream.Prefix.{Bad}
use Rattle.rfb_wire.specs.stream.Parts.{named}
use Rattle.rfb_wire.specs.stream.Sequel.{First}
use Rattle.rfb_wire.specs.stream.End.{acts, FedBy, RefusedBy, RunsOutBy}
use Rattle.rfb_wire.specs.stream.Grammar.{ReadsAll}
use Rattle.rfb_hello.specs.declared.version.Version.{Version}
use Rattle.rfb_hello.specs.declared.fault.HelloFault.{HelloFault}
use Rattle.rfb_hello.specs.declared.fault.HelloFault.TheVariants.{BadVersion, VersionTooHigh, BadSecurityChoice}
use Rattle.rfb_hello.specs.declared.fault.HelloFault.TheVariants.{NoneNotOffered, Refused, BadSecurityWord}
use Rattle.rfb_hello.specs.declared.fault.HelloFault.TheVariants.{SecurityFailed, ScreenEmpty, ScreenTooLarge}
use Rattle.rfb_hello.specs.declared.fault.HelloFault.TheVariants.{NoMemory as HelloMemory}
use Rattle.rfb_hello.specs.declared.step.ViewerStep.{ViewerStep}
use Rattle.rfb_hello.specs.declared.step.ViewerStep.TheVariants.{Screen, Ready}
use Rattle.rfb_hello.specs.declared.viewer_hello.ViewerHello.{ViewerHello}
use Rattle.rfb_hello.specs.KeptText.{KeptText}
use Rattle.rfb_hello.specs.ServerHandshake.{ServerPoint, AwaitsVersion, AwaitsSecurity, AwaitsResult, AwaitsInit}
use Rattle.rfb_hello.specs.ServerHandshake.{AwaitsName, Begun, ServerItem, ServerInit, SpellsServerItem}
use Rattle.rfb_hello.specs.ServerItems.{server_handshake}
use Rattle.rfb_hello.specs.ViewerEnd.{ViewerSetup, viewer_tells as handshake_tells, viewer_end, AsksMemory as HelloAsks}
use Rattle.rfb_hello.specs.ViewerModel.{StandsFor as HelloStandsFor, is_open}
use Rattle.rfb_hello.proofs.ServerStreamLaws.{server_handshake_spelled}
use Rattle.rfb_hello.proofs.ToldOfLaws.{screen_at, viewer_ready_at}
use Rattle.rfb_viewer.specs.declared.fault.ViewerFault.TheVariants.{NoMemory}
use Rattle.rfb_viewer.specs.steps.Sound.{is_sound}
use Rattle.rfb_viewer.specs.declared.viewer.Viewer.{Viewer}
use Rattle.rfb_viewer.specs.declared.viewer.progress.Progress.{Progress}
use Rattle.rfb_viewer.specs.declared.viewer.progress.Progress.TheVariants.{Handshake}
use Rattle.rfb_viewer.specs.Fault.{fault_of_hello}
use Rattle.rfb_viewer.specs.ServerBytes.{ServerAt, server_bytes}
use Rattle.rfb_viewer.specs.Viewer.{Viewing, viewer, black, AsksInHandshake, AsksAt, AsksMemory}
use Rattle.rfb_viewer.specs.Progress.{IsScreenAt}
use Rattle.rfb_viewer.specs.Model.{StandsFor}
use Rattle.rfb_viewer.proofs.MessageLemmas.{here}
use Rattle.rfb_viewer.proofs.GreetLemmas.{some_taken, none_quiet, at_hello}

module _ (viewing : Viewing) (old : Viewer) where
  abbrev pub greet_bad : (bytes : List ℕ) (fault : HelloFault) → old.progress ≡ Handshake →
      RefusedBy (viewer_end viewing.hello) (HelloStandsFor viewing.hello) old.hello bytes fault →
      RefusedBy (viewer viewing) (StandsFor viewing) old bytes (fault_of_hello fault)
  greet_bad bytes fault was refused s prefix stands =
      let h = at_hello viewing old s.point s.picture prefix (here viewing old Handshake s prefix was stands) in
      let r = refused h.0 prefix h.2 in
      let none = none_quiet viewing.hello h.0 (prefix ++ bytes) r.rest r.items r.reads r.quiet in
      let reads : prefix ++ bytes ≡ r.rest =
      subst (λ (items : List ServerItem). ReadsAll (server_handshake viewing.hello.limit viewing.hello.max_places)
      h.0 (prefix ++ bytes) items r.rest) none r.reads in
      let bad : (server_handshake viewing.hello.limit viewing.hello.max_places).next h.0 r.rest ≡ Bad fault =
      subst (λ (items : List ServerItem). (server_handshake viewing.hello.limit viewing.hello.max_places).next
      (acts (viewer_end viewing.hello) h.0 items) r.rest ≡ Bad fault) none r.bad in
      record {
        items = [];
        rest = r.rest;
        reads = reads;
        quiet = refl;
        bad = ap (λ (a : ServerAt). (server_bytes viewing.form viewing.hello).next a r.rest) h.1
            ∙ ap (named (λ i. First i) fault_of_hello) bad;
      }

  pub asks_too : (p : ServerPoint) (bytes : List ℕ) → HelloAsks viewing.hello p bytes →
      AsksInHandshake viewing.hello p bytes
  asks_too AwaitsVersion bytes a = a
  asks_too (AwaitsSecurity version) bytes a = a
  asks_too (AwaitsResult version) bytes a = a
  asks_too (AwaitsInit version) bytes a = (a.0, a.1, a.2, a.3, a.4)
  asks_too (AwaitsName version width height name_length) bytes a = a
  asks_too (Begun version width height) bytes a = a

  -- bytes that lead its end somewhere, lead the viewer to where that is in the words of its points
  abbrev pub greet_leads : (Asked : ServerPoint → List ℕ → Type 0) (There : ServerAt → List ℕ → Type 0) →
      ((p : ServerPoint) (front : List ℕ) → Asked p front → There (First p) front) → (bytes : List ℕ) →
      old.progress ≡ Handshake →
      RunsOutBy (viewer_end viewing.hello) Asked (HelloStandsFor viewing.hello) old.hello bytes →
      RunsOutBy (viewer viewing) (λ s front. There s.point front) (StandsFor viewing) old bytes
  greet_leads Asked There at bytes was out s prefix stands =
      let h = at_hello viewing old s.point s.picture prefix (here viewing old Handshake s prefix was stands) in
      let r = out h.0 prefix h.2 in
      let none = none_quiet viewing.hello h.0 (prefix ++ bytes) (r.front ++ r.later) r.items r.reads r.quiet in
      let reads : prefix ++ bytes ≡ r.front ++ r.later =
      subst (λ (items : List ServerItem). ReadsAll (server_handshake viewing.hello.limit viewing.hello.max_places)
      h.0 (prefix ++ bytes) items (r.front ++ r.later)) none r.reads in
      let asked : Asked h.0 r.front =
      subst (λ (items : List ServerItem). Asked (acts (viewer_end viewing.hello) h.0 items) r.front) none r.asked in
      record {
        items = [];
        front = r.front;
        later = r.later;
        reads = reads;
        quiet = refl;
        asked = subst (λ (a : ServerAt). There a r.front) (sym h.1) (at h.0 r.front asked);
      }

  abbrev pub greet_starves : (bytes : List ℕ) → old.progress ≡ Handshake →
      RunsOutBy (viewer_end viewing.hello) (HelloAsks viewing.hello) (HelloStandsFor viewing.hello) old.hello bytes →
      RunsOutBy (viewer viewing) (AsksMemory viewing) (StandsFor viewing) old bytes
  greet_starves bytes was out = greet_leads (HelloAsks viewing.hello) (AsksAt viewing.hello) asks_too bytes was out

  -- no memory for a screen, where there was none
  abbrev pub screen_asks : (bytes : List ℕ) (n : ℕ) (after : ViewerHello) (d : ViewerStep) →
      old.progress ≡ Handshake → old.picture ≡ None →
      FedBy (viewer_end viewing.hello) (HelloStandsFor viewing.hello) old.hello (take n bytes) (Some d) after →
      ((p : ServerPoint) (i : ServerItem) → handshake_tells viewing.hello p i ≡ Some d →
      IsScreenAt p None → (version : Version) × (width height name_length : ℕ) × (p ≡ AwaitsInit version)
      × (i ≡ ServerInit width height name_length)) →
      RunsOutBy (viewer viewing) (AsksMemory viewing) (StandsFor viewing) old bytes
  screen_asks bytes n after d was missing fed is s prefix stands =
      let h = at_hello viewing old s.point s.picture prefix (here viewing old Handshake s prefix was stands) in
      let f = fed h.0 prefix h.2 in
      let t = some_taken viewing.hello h.0 f.0 prefix (take n bytes) f.1 d f.3 in
      let front = prefix ++ take n bytes in
      let none : s.picture ≡ None = sym h.5 ∙ missing in
      let i = is h.0 t.0 t.2 (subst (λ (g : Option (Grid Colour)). IsScreenAt h.0 g) none h.6) in
      let found =
      ((server_handshake_spelled viewing.hello.limit viewing.hello.max_places).reads h.0).found front t.0 [] t.1 in
      let spelled : SpellsServerItem viewing.hello.max_places h.0 t.0 front = subst (λ (ys : List ℕ).
      SpellsServerItem viewing.hello.max_places h.0 t.0 ys) (sym (append-nil found.0) ∙ sym found.1) found.2 in
      let init : SpellsServerItem viewing.hello.max_places (AwaitsInit i.0) (ServerInit i.1 i.2 i.3) front =
      subst (λ (j : ServerItem). SpellsServerItem viewing.hello.max_places (AwaitsInit i.0) j front) i.5
      (subst (λ (w : ServerPoint). SpellsServerItem viewing.hello.max_places w t.0 front) i.4 spelled) in
      record {
        items = [];
        front = front;
        later = drop n bytes;
        reads = ap (λ (ys : List ℕ). prefix ++ ys) (sym (take-append-drop n bytes))
            ∙ sym (append_assoc prefix (take n bytes) (drop n bytes));
        quiet = refl;
        asked = subst (λ (a : ServerAt). AsksAt viewing.hello a front)
            (sym (h.1 ∙ ap (λ (w : ServerPoint). First w) i.4)) (i.1, i.2, i.3, init.0, init.1);
      }

-- the steps at which the screen is made
pub screen_told : (setup : ViewerSetup) (width height : ℕ) (p : ServerPoint) (i : ServerItem) →
    handshake_tells setup p i ≡ Some (Screen width height) → IsScreenAt p None →
    (version : Version) × (w h n : ℕ) × (p ≡ AwaitsInit version) × (i ≡ ServerInit w h n)
screen_told setup width height p i told screen =
    let is = screen_at setup p i width height told in
    (is.version, width, height, is.name_length, is.at_point, is.item_is)

pub ready_told : (setup : ViewerSetup) (width height : ℕ)
    (version : Version) (name : KeptText) (name_length : ℕ) (p : ServerPoint) (i : ServerItem) →
    handshake_tells setup p i ≡ Some (Ready width height version name name_length) → IsScreenAt p None →
    (v : Version) × (w h n : ℕ) × (p ≡ AwaitsInit v) × (i ≡ ServerInit w h n)
ready_told setup width height version name name_length p i told screen =
    let is = viewer_ready_at setup p i width height version name name_length told in
    elim is.told_at [
      | inl one ↦ (version, width, height, name_length, one.at_point, one.item_is)
      | inr one ↦
          let there : IsScreenAt (AwaitsName version width height name_length) None =
          subst (λ (w : ServerPoint). IsScreenAt w None) one.at_point screen in
          absurd (no_screen (uniform width height black) there)
    ]
  where
    no_screen : (g : Grid Colour) → None ≡ Some g → ⊥
    no_screen g e = cc

-- what holds of a viewer in the handshake
pub still_open : (hello : ViewerHello) (p : Progress) (picture : Option (Grid Colour)) → p ≡ Handshake →
    is_sound hello p picture ≡ true → is_open hello ≡ true
still_open hello p picture e sound = subst (λ (q : Progress). is_sound hello q picture ≡ true) e sound

pub memory_of : (fault : HelloFault) → fault_of_hello fault ≡ NoMemory → fault ≡ HelloMemory
memory_of BadVersion e = absurd cc
memory_of VersionTooHigh e = absurd cc
memory_of BadSecurityChoice e = absurd cc
memory_of NoneNotOffered e = absurd cc
memory_of (Refused n) e = absurd cc
memory_of BadSecurityWord e = absurd cc
memory_of (SecurityFailed n) e = absurd cc
memory_of ScreenEmpty e = absurd cc
memory_of ScreenTooLarge e = absurd cc
memory_of HelloMemory e = refl
