-- A row whose wanted pixels are known elsewhere, as is claimed of it, and parts of a row.
use Rattle.std.proofs.Common.{◌≡◌, ◌∙◌, ℕ, ◌+◌, ◌-◌, ◌*◌, ◌≤◌}
use Rattle.std.proofs.Common.{List, length, map, take, drop, Option, ap, arith}
use Rattle.std.proofs.lemmas.List.{take-take, drop-drop, drop-take, take-map, drop-map}
use Rattle.rfb_pixel.specs.declared.colour.Colour.{Colour}
use Rattle.rfb_pixel.specs.Format.{pixel_of}
use Rattle.rfb_picture.specs.declared.rect.Rect.{Rect}
use Rattle.rfb_picture.specs.Grid.{Grid, Holds, row_of}
use Rattle.rfb_picture.proofs.GridLaws.{contains_row, contains_true}
use Rattle.rfb_codec.specs.RectData.{moved_to}
use Rattle.rfb_server.specs.declared.claim.Claim.{Claim}
use Rattle.rfb_server.specs.declared.hint.Hint.{Hint}
use Rattle.rfb_server.specs.declared.session.Session.{Session}
use Rattle.rfb_server.specs.Claims.{IsTrue, IsSourceOf}
use Rattle.rfb_server.specs.KnownScreen.{Follows}
use Rattle.rfb_server.specs.Record.{ShowsKnown}
use Rattle.rfb_server.specs.update.Gains.{MayCopy, IsKnownRow, part}
use Rattle.rfb_server.proofs.ClaimLemmas.{claimed_row}
use Rattle.rfb_server.proofs.ClaimedRowLemmas.{source_is}

-- ---- a row that is claimed

module _ (screen : Grid Colour) (s : Session) (claim : Claim) (row : Rect) (sx sy : ℕ)
    (true_of : IsTrue screen s.known s.format claim) (named : IsSourceOf claim row (sx, sy)) where
  -- its sources lie on the screen
  named_holds : row.h ≡ 1 → Holds s.known (moved_to sx sy row)
  named_holds single =
      let (above, below, fresh) = claimed_row claim row.y named.counts in (
        omega (arith, true_of.source, named.left, named.right, named.column),
        omega (arith, true_of.source, named.row_is),
      )

  -- and what is known of them is the wanted pixels
  named_known : IsKnownRow screen s (record { to = row; sx = sx; sy = sy })
  named_known x left right =
      let column : sx + (x - row.x) ≡ claim.sx + (x - claim.to.x) =
      omega (arith, named.left, named.column) in
      rw (column, named.row_is)
      (true_of.shown x row.y (omega (arith, named.left)) (omega (arith, named.right)) named.counts)

  -- so they are its own
  pub named_wanted : Follows screen s → Holds s.known row → row.h ≡ 1 → (pixels : Grid ℕ) →
      (source : List ℕ) → ShowsKnown s.known pixels → source ≡ row_of pixels sx sy row.w →
      length source ≡ row.w →
      source ≡ map (pixel_of s.format) (row_of screen row.x row.y row.w)
  named_wanted about held single pixels source shown read long =
      source_is screen s (record { to = row; sx = sx; sy = sy }) pixels about held single source
      (named_holds single) shown named_known read long

-- ---- a part of a row

-- the wanted pixels of a part are those of the row from its first column on
pub wanted_part : (f : Colour → ℕ) (screen : Grid Colour) (x y w k n : ℕ) (wanted : List ℕ) →
    wanted ≡ map f (row_of screen x y w) → k ≤ n → n ≤ w →
    take (n - k) (drop k wanted) ≡ map f (row_of screen (x + k) y (n - k))
wanted_part f screen x y w k n wanted is order within =
    let start = y * screen.width + x in
    let places = drop (y * screen.width + x) screen.places in
    let all : w ≡ k + (w - k) = omega arith in
    let at : y * screen.width + x + k ≡ y * screen.width + (x + k) = omega arith in
    ap (λ (row : List ℕ). take (n - k) (drop k row)) is
    ∙ ap (λ (row : List ℕ). take (n - k) row) (drop-map f k (row_of screen x y w))
    ∙ take-map f (n - k) (drop k (row_of screen x y w))
    ∙ ap (λ (row : List Colour). map f (take (n - k) row))
    (ap (λ (m : ℕ). drop k (take m places)) all ∙ drop-take k (w - k) places)
    ∙ ap (map f) (take-take (n - k) (w - k) (drop k places) (omega arith))
    ∙ ap (λ (row : List Colour). map f (take (n - k) row))
    (drop-drop k start screen.places ∙ ap (λ (m : ℕ). drop m screen.places) at)

-- a part of a copy of known places is one as well
pub may_part : (known : Grid (Option ℕ)) (copy : Hint) (from to : ℕ) → MayCopy known copy →
    copy.to.x ≤ from → from ≤ to → to ≤ copy.to.x + copy.to.w → MayCopy known (part copy from to)
may_part known copy from to may first order last = record {
  target = (omega (arith, may.target), omega (arith, may.target));
  source = (omega (arith, may.source), omega (arith, may.source));
  source_known = λ x y inside.
      let (left, right, top, bottom) =
      contains_true (moved_to (copy.sx + (from - copy.to.x)) copy.sy (part copy from to).to) x y
      inside in
      may.source_known x y
      (contains_row (moved_to copy.sx copy.sy copy.to) x y (omega arith) (omega arith) top bottom);
}
