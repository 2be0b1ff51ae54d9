-- What the steps `Screen` and `Ready` come of.
use Rattle.std.proofs.Common.{◌≡◌, ℕ, zero, suc, inl, inr, Bool, [], Some, refl, ap, sym, ◌∙◌, arith}
use Rattle.arrayvec.specs.ArrayVec.{ArrayVec}
use Rattle.rfb_hello.specs.declared.version.Version.{Version}
use Rattle.rfb_hello.specs.declared.version.Version.TheVariants.{V33, V37, V38}
use Rattle.rfb_hello.specs.declared.step.ServerStep.TheVariants.{Ready as ServerReady}
use Rattle.rfb_hello.specs.declared.step.ViewerStep.TheVariants.{Screen, Ready}
use Rattle.rfb_hello.specs.KeptText.{KeptText, kept_of}
use Rattle.rfb_hello.specs.ClientHandshake.{ClientPoint, AwaitsVersion as AwaitsClientVersion, AwaitsChoice}
use Rattle.rfb_hello.specs.ClientHandshake.{AwaitsInit as AwaitsClientInit, ClientItem}
use Rattle.rfb_hello.specs.ClientHandshake.{ProtocolVersion as ClientVersion, SecurityType, ClientInit}
use Rattle.rfb_hello.specs.ServerHandshake.{ServerPoint, AwaitsVersion, AwaitsSecurity, AwaitsResult, AwaitsInit}
use Rattle.rfb_hello.specs.ServerHandshake.{AwaitsName, ServerItem, ProtocolVersion, SecurityNone, SecurityTypes}
use Rattle.rfb_hello.specs.ServerHandshake.{SecurityResult, ServerInit, Name}
use Rattle.rfb_hello.specs.ServerEnd.{ServerSetup, server_tells}
use Rattle.rfb_hello.specs.ViewerEnd.{ViewerSetup, viewer_tells}
use Rattle.rfb_hello.proofs.TextLemmas.{kept_none}
use Rattle.rfb_hello.specs.ToldOf.{IsReadyAt, IsScreenAt, IsViewerReadyAt}

pub server_ready_at : (setup : ServerSetup) (point : ClientPoint) (item : ClientItem) (reply : ArrayVec ℕ)
    (version : Version) (shared : Bool) → server_tells setup point item ≡ Some (ServerReady reply version shared) →
    IsReadyAt setup point item reply version shared
server_ready_at setup AwaitsClientVersion (ClientVersion v) reply version shared is = cc
server_ready_at setup (AwaitsChoice V33) SecurityType reply version shared is = cc
server_ready_at setup (AwaitsChoice V37) SecurityType reply version shared is = cc
server_ready_at setup (AwaitsChoice V38) SecurityType reply version shared is = cc
server_ready_at setup (AwaitsClientInit v) (ClientInit s) reply version shared is =
    let one : v ≡ version = cc in
    let flag : s ≡ shared = cc in
    record {
      at_point = ap (λ (k : Version). AwaitsClientInit k) one;
      item_is = ap (λ (b : Bool). ClientInit b) flag;
      reply_is = cc;
      after = rw (one, flag) refl;
    }
server_ready_at setup point item reply version shared is = cc

pub screen_at : (setup : ViewerSetup) (point : ServerPoint) (item : ServerItem) (width height : ℕ) →
    viewer_tells setup point item ≡ Some (Screen width height) → IsScreenAt setup point item width height
screen_at setup AwaitsVersion (ProtocolVersion v) width height is = cc
screen_at setup (AwaitsSecurity v) SecurityNone width height is = cc
screen_at setup (AwaitsSecurity v) (SecurityTypes types) width height is = cc
screen_at setup (AwaitsResult v) SecurityResult width height is = cc
screen_at setup (AwaitsInit v) (ServerInit w h zero) width height is = cc
screen_at setup (AwaitsInit v) (ServerInit w h (suc n)) width height is =
    let wide : w ≡ width = cc in
    let high : h ≡ height = cc in
    record {
      version = v;
      name_length = suc n;
      at_point = refl;
      item_is = rw (wide, high) refl;
      named = omega arith;
      after = rw (wide, high) refl;
    }
screen_at setup (AwaitsName v w h n) (Name text) width height is = cc
screen_at setup point item width height is = cc

pub viewer_ready_at : (setup : ViewerSetup) (point : ServerPoint) (item : ServerItem) (width height : ℕ)
    (version : Version) (name : KeptText) (name_length : ℕ) →
    viewer_tells setup point item ≡ Some (Ready width height version name name_length) →
    IsViewerReadyAt setup point item width height version name name_length
viewer_ready_at setup AwaitsVersion (ProtocolVersion v) width height version name name_length is = cc
viewer_ready_at setup (AwaitsSecurity v) SecurityNone width height version name name_length is = cc
viewer_ready_at setup (AwaitsSecurity v) (SecurityTypes types) width height version name name_length is = cc
viewer_ready_at setup (AwaitsResult v) SecurityResult width height version name name_length is = cc
viewer_ready_at setup (AwaitsInit v) (ServerInit w h zero) width height version name name_length is =
    let wide : w ≡ width = cc in
    let high : h ≡ height = cc in
    let one : v ≡ version = cc in
    let none : zero ≡ name_length = cc in
    let kept : name ≡ kept_of setup.text_limit zero [] = cc in
    record {
      told_at = inl (record {
        at_point = rw one refl;
        item_is = rw (wide, high, none) refl;
        name_is = kept ∙ kept_none setup.text_limit;
        unnamed = sym none;
      });
      after = rw (wide, high, one) refl;
    }
viewer_ready_at setup (AwaitsInit v) (ServerInit w h (suc n)) width height version name name_length is = cc
viewer_ready_at setup (AwaitsName v w h n) (Name text) width height version name name_length is =
    let wide : w ≡ width = cc in
    let high : h ≡ height = cc in
    let one : v ≡ version = cc in
    let all : n ≡ name_length = cc in
    record {
      told_at = inr (record { text = text; at_point = rw (one, wide, high, all) refl; item_is = refl; name_is = cc });
      after = rw (one, wide, high) refl;
    }
viewer_ready_at setup point item width height version name name_length is = cc
