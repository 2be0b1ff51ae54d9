-- A slice of a rectangle's data, taken step by step.
use Rattle.std.proofs.Common.{◌≡◌, ℕ, ◌+◌, ◌-◌, ◌*◌, ◌/◌, ◌%◌, ◌<◌, ◌≤◌, ◌&&◌}
use Rattle.std.proofs.Common.{nat_lt, List, []}
use Rattle.std.proofs.Common.{◌∷◌, ◌++◌, Bool, true, false, if◌then◌else◌, length, take, drop, refl, sym, subst}
use Rattle.std.proofs.Common.{◌∙◌, ap, append-nil, append_assoc, arith, length-drop, take-append-drop}
use Rattle.std.proofs.lemmas.List.{take_all}
use Rattle.std.proofs.lemmas.Bool.Decides.{nat_tests}
use Rattle.rfb_pixel.specs.declared.colour.Colour.{Colour}
use Rattle.rfb_pixel.specs.Format.{PixelFormat, size_of}
use Rattle.rfb_picture.specs.declared.rect.Rect.{Rect}
use Rattle.rfb_picture.specs.Rect.{contains}
use Rattle.rfb_picture.specs.Grid.{Grid, IsGrid, grid, by_index, changed}
use Rattle.rfb_wire.specs.declared.encoding.Encoding.{Encoding}
use Rattle.rfb_wire.specs.declared.encoding.Encoding.TheVariants.{Raw, CopyRect, Rre, Hextile}
use Rattle.rfb_wire.specs.stream.Prefix.{More, Bad}
use Rattle.rfb_wire.proofs.stream_laws.FeedLaws.{take_add}
use Rattle.rfb_wire.proofs.stream_laws.ReadingLaws.{reads_bad}
use Rattle.rfb_codec.specs.declared.fault.PaintFault.{PaintFault}
use Rattle.rfb_codec.specs.declared.fault.Flaw.{Flaw}
use Rattle.rfb_codec.specs.declared.painter.stage.Stage.{Stage}
use Rattle.rfb_codec.specs.declared.painter.stage.Step.{Step}
use Rattle.rfb_codec.specs.RectData.{data_says, rect_data}
use Rattle.rfb_codec.specs.Front.{ShowsFront}
use Rattle.rfb_codec.specs.Stage.{encoding_at, is_ended, is_sound, StandsAt, IsRefused}
use Rattle.rfb_codec.specs.declared.painter.rectangle.Rectangle.{Rectangle}
use Rattle.rfb_codec.specs.decoder.Step.{stage_of, GoesOn, Stops, Reaches, Takes, Breaks}
use Rattle.rfb_codec.specs.UnderWay.{Paints, Waits, Refuses, ShowsWith}
use Rattle.rfb_codec.proofs.RectDataLaws.{rect_data_reads}
use Rattle.rfb_codec.proofs.VerdictLemmas.{whole_under, stage_ended, stage_waits}

-- ---- before the first byte

module _ {X : Type 0} where
  same_items : (f : ℕ → X → X) (n : ℕ) (xs : List X) → ((i : ℕ) (old : X) → f i old ≡ old) → by_index f n xs ≡ xs
  same_items f n [] same = refl
  same_items f n (x ∷ xs) same =
      ap (λ (y : X). y ∷ by_index f (n + 1) xs) (same n x) ∙ ap (λ (ys : List X). x ∷ ys) (same_items f (n + 1) xs same)

  -- a change that changes nothing
  unchanged : (f : ℕ → ℕ → X → X) (g : Grid X) → ((x y : ℕ) (old : X) → f x y old ≡ old) → g ≡ changed f g
  unfolding changed
  unchanged f g same = ap (grid g.width g.height) (sym (same_items (λ i old. f (i % g.width) (i / g.width) old) 0
      g.places (λ i old. same (i % g.width) (i / g.width) old)))

none_below : (b : Bool) (m : ℕ) (c old : Colour) → (if b && nat_lt m 0 then c else old) ≡ old
none_below true m c old = let off : nat_lt m 0 ≡ false = grind (arith, nat_tests) in rw off refl
none_below false m c old = refl

pub fresh_stands : (f : PixelFormat) (rect : Rect) (encoding : Encoding) (picture : Grid Colour) → 0 < size_of f →
    StandsAt f rect (stage_of encoding) [] picture picture []
fresh_stands f rect Raw picture some =
    let none : 0 * rect.w + 0 ≡ 0 = omega arith in (
      [],
      rw none (record {
        spelled = record { whole = refl; size = omega arith; few = omega arith; short = some; ended = λ e. refl };
        shows = unchanged _ picture
            (λ x y old. none_below (contains rect x y) ((y - rect.y) * rect.w + (x - rect.x)) _ old);
      }),
    )
fresh_stands f rect CopyRect picture some = record { spelled = (refl, omega arith); shows = refl }
fresh_stands f rect Rre picture some = record { spelled = (refl, omega arith); shows = refl }
fresh_stands f rect Hextile picture some = (
  [],
  refl,
  record { background = refl; foreground = refl },
  record {
    spelled = record { front = []; whole = refl; spelled = refl; begins = omega arith };
    shows = unchanged _ picture (λ x y old. none_below (contains rect x y) _ _ old);
  },
)

-- ---- step by step

pub fed_none : (f : PixelFormat) (rect : Rect) (stage : Stage) (pending : List ℕ) (picture : Grid Colour)
    (bytes : List ℕ) → GoesOn f rect stage pending picture (take 0 bytes) stage pending picture
fed_none f rect stage pending picture bytes = λ before body stands.
    subst (λ (ys : List ℕ). StandsAt f rect stage pending picture before ys) (sym (append-nil body)) stands

slices : (i n : ℕ) (body bytes slice : List ℕ) → slice ≡ drop i bytes →
    (body ++ take i bytes) ++ take n slice ≡ body ++ take (i + n) bytes
slices i n body bytes slice is =
    append_assoc body (take i bytes) (take n slice) ∙ ap (λ (ys : List ℕ). body ++ (take i bytes ++ take n ys)) is
    ∙ ap (λ (ys : List ℕ). body ++ ys) (sym (take_add i n bytes))

pub fed_more : (f : PixelFormat) (rect : Rect) (first stage next : Stage) (none pending rest : List ℕ)
    (old picture new : Grid Colour) (i n : ℕ) (bytes slice : List ℕ) →
    slice ≡ drop i bytes → GoesOn f rect first none old (take i bytes) stage pending picture →
    GoesOn f rect stage pending picture (take n slice) next rest new →
    GoesOn f rect first none old (take (i + n) bytes) next rest new
fed_more f rect first stage next none pending rest old picture new i n bytes slice is one two = λ before body stands.
    subst (λ (ys : List ℕ). StandsAt f rect next rest new before ys) (slices i n body bytes slice is)
    (two before (body ++ take i bytes) (one before body stands))

pub stopped : (f : PixelFormat) (rect : Rect) (first stage : Stage) (none pending : List ℕ)
    (old picture new : Grid Colour) (i : ℕ) (bytes slice : List ℕ) (flaw : Flaw) → slice ≡ drop i bytes →
    encoding_at stage ≡ encoding_at first → GoesOn f rect first none old (take i bytes) stage pending picture →
    Stops f rect stage pending picture slice new flaw → Stops f rect first none old bytes new
    (record { used = i + flaw.used; fault = flaw.fault })
stopped f rect first stage none pending old picture new i bytes slice flaw is same one two = λ before body stands.
    let w = two before (body ++ take i bytes) (one before body stands) in
    let r = w.refused in
    let used = w.last in
    let left : length slice ≡ length bytes - i = ap length is ∙ length-drop i bytes in
    let below = r.within in
    let last : i + (r.n + 1) ≡ i + r.n + 1 = omega arith in
    let bad = subst (λ (ys : List ℕ). rect_data f before.width before.height rect
    (encoding_at stage) ys ≡ Bad flaw.fault) (slices i (r.n + 1) body bytes slice is ∙ ap (λ
    (n : ℕ). body ++ take n bytes) last) r.bad in
    let shows = subst (λ (ys : List ℕ). ShowsFront f rect (encoding_at stage) before ys r.pending new)
    (slices i r.n body bytes slice is) r.shows in
    let waits = subst (λ (ys : List ℕ). rect_data f before.width before.height rect (encoding_at stage) ys ≡ More)
    (slices i r.n body bytes slice is) w.waits in
    record {
      refused = record {
        n = i + r.n;
        pending = r.pending;
        within = omega
            (arith, left, below);
        bad = rw same at bad;
        shows = rw same at shows;
      };
      last = omega (arith, used);
      waits = rw same at waits;
    }

-- what is used of a slice ends within the bytes
used_within : (i n : ℕ) (bytes slice : List ℕ) → slice ≡ drop i bytes → 0 < n →
    n ≤ length slice → i + n ≤ length bytes
used_within i n bytes slice is some within =
    let left : length slice ≡ length bytes - i = ap length is ∙ length-drop i bytes in
    omega (arith, some, within, left)

-- ---- the same of steps

module _ (r : Rectangle) (first : Stage) (none : List ℕ) (old : Grid Colour) where
  pub reaches_none : (bytes : List ℕ) → is_sound r.format r.rect first (length none) ≡ true →
      Reaches r first none old (take 0 bytes) first none old
  reaches_none bytes sound = record {
    sound = sound;
    same = refl;
    goes_on = fed_none r.format r.rect first none old bytes;
    width = refl;
    height = refl;
  }

  pub reaches_more : (stage next : Stage) (pending rest : List ℕ) (picture new : Grid Colour) (i n : ℕ)
      (bytes slice : List ℕ) → slice ≡ drop i bytes → Reaches r first none old (take i bytes) stage pending picture →
      Reaches r stage pending picture (take n slice) next rest new →
      Reaches r first none old (take (i + n) bytes) next rest new
  reaches_more stage next pending rest picture new i n bytes slice is one two = record {
    sound = two.sound;
    same = two.same ∙ one.same;
    goes_on = fed_more r.format r.rect first stage next none pending rest old picture new i n bytes
        slice is one.goes_on two.goes_on;
    width = two.width ∙ one.width;
    height = two.height ∙ one.height;
  }

  -- a step after others
  pub takes_later : (stage : Stage) (step : Step) (i : ℕ) (bytes slice pending rest : List ℕ)
      (picture new : Grid Colour) → slice ≡ drop i bytes →
      Reaches r first none old (take i bytes) stage pending picture →
      Takes r stage pending picture slice step rest new →
      Takes r first none old bytes (record { used = i + step.used; stage = step.stage }) rest new
  takes_later stage step i bytes slice pending rest picture new is one two = record {
    reaches = reaches_more stage step.stage pending rest picture new i step.used bytes slice is one two.reaches;
    used = used_within i step.used bytes slice is two.some two.used;
    some = let some = two.some in omega (arith, some);
  }

  pub breaks_later : (stage : Stage) (pending rest : List ℕ) (picture new : Grid Colour) (i : ℕ)
      (bytes slice : List ℕ) (flaw : Flaw) → slice ≡ drop i bytes → Reaches r first none old
      (take i bytes) stage pending picture → Breaks r stage pending picture slice flaw rest new →
      Breaks r first none old bytes (record { used = i + flaw.used; fault = flaw.fault }) rest new
  breaks_later stage pending rest picture new i bytes slice flaw is one two = record {
    some = let some = two.some in omega (arith, some);
    within = used_within i flaw.used bytes slice is two.some two.within;
    stops = stopped r.format r.rect first stage none pending old picture new i bytes slice flaw is one.same
        one.goes_on two.stops;
    emptied = two.emptied;
    width = two.width ∙ one.width;
    height = two.height ∙ one.height;
  }

-- ---- a slice

-- all of it shows the fault too
pub refuses_all : (f : PixelFormat) (rect : Rect) (encoding : Encoding) (before : Grid Colour) (body bytes : List ℕ)
    (fault : PaintFault) (now : Grid Colour) → IsRefused f rect encoding before body bytes fault now →
    rect_data f before.width before.height rect encoding (body ++ bytes) ≡ Bad fault
refuses_all f rect encoding before body bytes fault now r =
    let n = r.n + 1 in
    let more = reads_bad (rect_data f before.width before.height rect encoding)
    (data_says f before.width before.height rect encoding) (rect_data_reads f before.width before.height rect
    encoding) (body ++ take n bytes) (drop n bytes) fault r.bad in
    subst (λ (ys : List ℕ). rect_data f before.width before.height rect encoding ys ≡ Bad fault) (append_assoc body
    (take n bytes) (drop n bytes) ∙ ap (λ (ys : List ℕ). body ++ ys) (take-append-drop n bytes)) more

-- where they end, they are painted
pub feed_paints : (f : PixelFormat) (rect : Rect) (stage next : Stage)
    (pending rest : List ℕ) (old new : Grid Colour) (bytes : List ℕ) → IsGrid old → is_ended rect next ≡ true →
    encoding_at next ≡ encoding_at stage → GoesOn f rect stage pending old bytes next rest new →
    Paints (record { rect = rect; form = f; stage = stage; pending = pending }) old bytes
    (record { rect = rect; form = f; stage = next; pending = rest }) new
feed_paints f rect stage next pending rest old new bytes whole ended same goes = λ before body stands.
    let whole' = whole_under f rect stage pending old before body whole stands in
    let end = stage_ended f rect next rest new before (body ++ bytes) whole' ended (goes before body stands) in
    (end.contents, rw same at end.read, end.shows, end.none)

-- and where they do not, more are waited for
pub feed_waits : (f : PixelFormat) (rect : Rect) (stage next : Stage) (pending rest : List ℕ) (old new : Grid Colour)
    (used : ℕ) (bytes : List ℕ) → used ≡ length bytes → is_ended rect next ≡ false → is_sound f rect next (length rest)
    ≡ true → encoding_at next ≡ encoding_at stage → GoesOn f rect stage pending old (take used bytes) next rest new →
    Waits (record { rect = rect; form = f; stage = stage; pending = pending }) old bytes
    (record { rect = rect; form = f; stage = next; pending = rest }) new
feed_waits f rect stage next pending rest old new used bytes all ended sound same goes = λ before body stands.
    let taken : take used bytes ≡ bytes = take_all used bytes (omega (arith, all)) in
    let there =
    subst (λ (ys : List ℕ). StandsAt f rect next rest new before (body ++ ys)) taken (goes before body stands) in
    let waits = stage_waits f rect next rest new before (body ++ bytes) ended sound there in
    (rw same at waits, there)

pub feed_refuses : (f : PixelFormat) (rect : Rect) (stage : Stage) (pending : List ℕ) (old new : Grid Colour)
    (bytes : List ℕ) (flaw : Flaw) → Stops f rect stage pending old bytes new flaw → Refuses
    (record { rect = rect; form = f; stage = stage; pending = pending }) old bytes new flaw.fault
feed_refuses f rect stage pending old new bytes flaw stops = λ before body stands.
    let r = (stops before body stands).refused in
    (refuses_all f rect (encoding_at stage) before body bytes flaw.fault new r, r)

pub feed_shows : (f : PixelFormat) (rect : Rect) (stage : Stage) (pending : List ℕ) (old new : Grid Colour)
    (bytes : List ℕ) (flaw : Flaw) → 0 < flaw.used → flaw.used ≤ length bytes →
    Stops f rect stage pending old bytes new flaw → ShowsWith
    (record { rect = rect; form = f; stage = stage; pending = pending }) old bytes flaw
feed_shows f rect stage pending old new bytes flaw some within stops = λ before body stands.
    let w = stops before body stands in
    let last = w.last in
    let read = λ (n : ℕ). rect_data f before.width before.height rect (encoding_at stage) (body ++ take n bytes) in
    let first : w.refused.n ≡ flaw.used - 1 = omega (arith, last) in
    record {
      some = some;
      within = within;
      waits = subst (λ (n : ℕ). read n ≡ More) first w.waits;
      bad = subst (λ (n : ℕ). read n ≡ Bad flaw.fault) (sym last) w.refused.bad;
    }
