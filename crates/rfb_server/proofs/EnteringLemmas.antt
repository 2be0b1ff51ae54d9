-- A session that lacks the memory of its places.
use Rattle.std.proofs.Common.{◌≡◌, ℕ, ◌+◌, ◌<◌, ◌≤◌, true, false, Option, None, List, length, take}
use Rattle.std.proofs.Common.{Result, Ok, Err, IfOk}
use Rattle.std.proofs.Common.{refl, sym, subst, ◌∙◌, arith}
use Rattle.rfb_pixel.specs.declared.colour.Colour.{Colour}
use Rattle.rfb_pixel.specs.Format.{PixelFormat}
use Rattle.rfb_picture.specs.Grid.{Grid}
use Rattle.rfb_picture.specs.Area.{Places, no_places}
use Rattle.rfb_picture.proofs.GridLaws.{whole-changed, whole-uniform, width-changed, height-changed}
use Rattle.rfb_picture.proofs.GridLaws.{width-uniform, height-uniform}
use Rattle.rfb_picture.proofs.AreaLaws.{area-no_places}
use Rattle.rfb_hello.specs.declared.server_hello.ServerHello.{ServerHello}
use Rattle.rfb_hello.specs.declared.server_hello.progress.Progress.{Progress}
use Rattle.rfb_hello.specs.declared.server_hello.progress.Progress.TheVariants.{Version as VersionPart}
use Rattle.rfb_hello.specs.declared.server_hello.progress.Progress.TheVariants.{Choice, Init, Done, Failed}
use Rattle.rfb_hello.specs.ServerModel.{is_open, left_of}
use Rattle.rfb_hello.specs.ServerProgress.{is_open as goes_on, least_left}
use Rattle.rfb_hello.specs.declared.fed.Fed.{Fed}
use Rattle.rfb_server.specs.declared.event.ServerEvent.{ServerEvent}
use Rattle.rfb_server.specs.declared.fault.ServerFault.{ServerFault}
use Rattle.rfb_server.specs.declared.session.Session.{Session}
use Rattle.rfb_server.specs.declared.drawing.notice.Notice.{Notice}
use Rattle.rfb_server.specs.declared.late.entrance.Entrance.{Entrance}
use Rattle.rfb_server.specs.KnownScreen.{IsCaughtUp, Follows, IsTold}
use Rattle.rfb_server.specs.Late.{entered}
use Rattle.rfb_server.specs.Intake.{Takes}
use Rattle.rfb_server.specs.session.Marks.{AreAlike, none_known, all_marked}
use Rattle.rfb_server.specs.session.Slice.{FeedsAs}
use Rattle.rfb_server.proofs.ClaimLemmas.{nothing_claimed}
use Rattle.rfb_server.proofs.MarksLemmas.{in_all, caught_unseen}

-- the places of a screen where nothing is known or asked, and each is marked, are of one screen
pub alike_untouched : (w h : ℕ) → w ≤ 4096 → h ≤ 4096 →
    AreAlike (none_known w h) (no_places w h) (all_marked w h)
alike_untouched w h columns rows = record {
  known_whole = whole-uniform _ _ _;
  area_is = area-no_places _ _;
  marks_whole = whole-changed _ _ (whole-uniform _ _ _);
  area_wide = width-uniform _ _ _ ∙ sym (width-uniform _ _ _);
  area_high = height-uniform _ _ _ ∙ sym (height-uniform _ _ _);
  marks_wide = width-changed _ _ ∙ (width-uniform _ _ _ ∙ sym (width-uniform _ _ _));
  marks_high = height-changed _ _ ∙ (height-uniform _ _ _ ∙ sym (height-uniform _ _ _));
  columns = rw width-uniform columns;
  rows = rw height-uniform rows;
}

-- where each place is marked, nothing is said
pub caught_untouched : (w h : ℕ) (screen : Grid Colour) (known : Grid (Option ℕ)) (area : Places)
    (form : PixelFormat) → IsCaughtUp screen known area form (all_marked w h)
caught_untouched w h screen known area form =
    caught_unseen screen known area form (all_marked w h) (λ x y p q.
    in_all w h x y
    (subst (λ (n : ℕ). x < n) (width-changed _ _ ∙ width-uniform _ _ _) p)
    (subst (λ (n : ℕ). y < n) (height-changed _ _ ∙ height-uniform _ _ _) q))

-- whatever is drawn, one that enters follows it
pub follows_entering : (old new : Entrance) (notice : Notice) → new.width ≡ old.width →
    new.height ≡ old.height →
    (before after : Grid Colour) → Follows before (entered old) → IsTold notice before after →
    Follows after (entered new)
follows_entering old new notice wide high before after follows told = record {
  whole = told.whole;
  alike = record {
    columns = rw (wide, high) (told.outside.columns ∙ follows.alike.columns);
    rows = rw (wide, high) (told.outside.rows ∙ follows.alike.rows);
  };
  caught_up = caught_untouched new.width new.height after _ _ _;
  claimed = nothing_claimed _ _ _ _ refl;
}

-- a handshake that has something left goes on
left_goes : (progress : Progress) → 0 < least_left progress → goes_on progress ≡ true
left_goes (VersionPart text) some = refl
left_goes (Choice version) some = refl
left_goes (Init version) some = refl
left_goes (Done version shared) some = absurd (omega (arith, some))
left_goes (Failed fault) some = absurd (omega (arith, some))

-- fewer bytes than are left do not end it
pub not_done : (old new : ServerHello) (count used : ℕ) → count < left_of old → used ≤ count →
    left_of old ≤ used + left_of new → is_open new ≡ false → ⊥
not_done old new count used fewer within less closed =
    let both : true ≡ false = sym (left_goes new.progress (omega (arith, fewer, within, less))) ∙ closed in cc

-- what a call to feed says of bytes that it took
pub takes_if : (bytes : List ℕ) (old new : Session) (result : Result (Fed ServerEvent) ServerFault) →
    IfOk result (λ (f : Fed ServerEvent). f.used ≤ length bytes) →
    IfOk result (λ (f : Fed ServerEvent). f.event ≡ None → f.used ≡ length bytes) →
    IfOk result (λ (f : Fed ServerEvent). 0 < length bytes → 0 < f.used) →
    IfOk result (λ (f : Fed ServerEvent). FeedsAs old (take f.used bytes) f.event new) →
    IfOk result (λ (f : Fed ServerEvent). Takes bytes f old new)
takes_if bytes old new (Ok fed) used all some feeds =
    record { taken = record { used = used; all = all; some = some }; fed = feeds }
takes_if bytes old new (Err fault) used all some feeds = tt
