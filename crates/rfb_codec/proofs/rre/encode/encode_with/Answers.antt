use Rattle.std.proofs.Common.{rules, ◌≡◌, ◌∙◌, ◌<◌, ◌^◌, ◌++◌, ◌+◌, ◌*◌, ◌/◌, arith}
use Rattle.std.proofs.Common.{ap, refl, append_assoc}
use Rattle.std.proofs.Common.{length, length-append}
use Rattle.std.proofs.lemmas.Grind.{common_steps}
use Rattle.std.specs.List.{flat_map}
use Rattle.rfb_pixel.specs.Format.{size_of}
use Rattle.rfb_codec.specs.Choice.{subrect_bytes}
use Rattle.rfb_codec.specs.Choice.{IsBackground, AreRuleSubs}
use Rattle.rfb_codec.specs.encoder.Cover.{IsCover}
use Rattle.rfb_codec.specs.Raw.{raw_length}
use Rattle.rfb_codec.proofs.PixelLemmas.{length-pixel_bytes}
use Rattle.rfb_codec.proofs.RreEncodeLemmas.{length-subrects, limit_fits, rre_head, stands_rre}
use Rattle.rfb_codec.specs.Codec.{raw_of}
use Rattle.rfb_codec.specs.encoder.Background.{HasMore}
use Rattle.rfb_codec.specs.encoder.Cover.{IsGivenUp}
use Rattle.rfb_codec.proofs.NoShorterLemmas.{many_pixels, many_subs, long_data}
use Rattle.rfb_codec.proofs.rre.encode.encode_with.Given.{Over}
use Rattle.rfb_codec.proofs.rre.encode.encode_with.Goals.{After-size-size, In-Some}
use Rattle.rfb_codec.proofs.rre.encode.encode_with.Goals as goal

-- the size that was read is the block's
sizes : (g : Over) (c : After-size-size g) → (c.from-width.result ≡ c.args.block.now.width)
    × (c.from-height.result ≡ c.args.block.now.height) × (c.size-size.result ≡ size_of c.args.format.now)
sizes g c = (
  c.from-width.ensures ∙ c.width.ensures.value,
  c.from-height.ensures ∙ c.height.ensures.value,
  c.size-size.ensures.value,
)

-- the pixel that was chosen is its background
chosen : (g : Over) (c : In-Some g) → IsBackground c.args.block.now.places c.in-Some.background
chosen g c = rw c.pixels-pixels.ensures.value at c.in-Some.ensures.background

pub cover-requires : goal.cover-requires
cover-requires g c =
    let h = c.from-height.result in
    let is = sizes g (goal.at.cover-requires g c).After-size-size in
    let whole : length c.pixels-pixels.result.now ≡ h * c.from-width.result =
    rw (is.0, is.1, c.pixels-pixels.ensures.value) c.pixels-pixels.ensures.whole in
    let same = ap length c.pixels-pixels.ensures.value in
    let limit = limit_fits (h * c.from-width.result) c.size-size.result g.row.N (omega (arith, whole, same))
    (omega arith) in
    search rules

pub returns-clause-spelled : goal.returns-clause-spelled
returns-clause-spelled g c =
    let f = c.args.format.now in
    let block = c.args.block.now in
    let background = c.in-Some.background in
    let subs = c.cover.new.subs.items in
    let is = sizes g (goal.at.returns-clause-spelled g c).After-size-size in
    let head = rre_head f (length subs) background in
    let list = flat_map (subrect_bytes f) subs in
    let rule : AreRuleSubs block.width block.height block.places background subs =
    rw (is.0, is.1, c.pixels-pixels.ensures.value) at c.if-not-cover.ensures.rule in
    let cover : IsCover block.width block.height block.places background subs =
    rw (is.0, is.1, c.pixels-pixels.ensures.value) at c.if-not-cover.ensures.cover in
    let few : length subs < 2 ^ 32 = omega arith in
    let raw : c.from-height.result * c.from-width.result * c.size-size.result ≡ raw_length f block.width block.height =
    rw (is.0, is.1, is.2) refl in
    let data_of : 4 + c.size-size.result + c.len.result * (c.size-size.result + 8)
    ≡ 4 + size_of f + length subs * (size_of f + 8) = rw (is.2, c.len.ensures.value) refl in
    let first : length head ≡ 4 + size_of f = let pixel = length-pixel_bytes f background in omega (arith, pixel) in
    let more : length list ≡ length subs * (size_of f + 8) = length-subrects f subs in (
      head ++ list,
      c.append_subrects.ensures.items
          ∙ ap (λ some. c.append_head.new.out.items ++ flat_map (subrect_bytes f) some) c.as_slice.ensures.value
          ∙ ap (λ front. front ++ list) (c.append_head.ensures.items
          ∙ ap (λ n. c.args.out.now.items ++ rre_head f n background) c.len-2.ensures.value)
          ∙ append_assoc c.args.out.now.items head list,
      stands_rre f block background subs c.pixels-pixels.ensures.whole (omega arith) (omega arith) few
          c.requires.pixels (chosen g (goal.at.returns-clause-spelled g c).In-Some) cover rule,
      rw length-append (omega (arith, first, more, raw, data_of)),
    )

pub returns-in_default-background_in-clause-given_up : goal.returns-in_default-background_in-clause-given_up
returns-in_default-background_in-clause-given_up g c =
    let f = c.args.format.now in
    let block = c.args.block.now in
    let is = sizes g (goal.at.returns-in_default-background_in-clause-given_up g c).After-size-size in
    let more : HasMore (raw_of f block / (size_of f + 8) + 1) block.places =
    rw (is.0, is.1, is.2, c.pixels-pixels.ensures.value) at c.in_default-background_in.ensures.more in
    many_pixels f block (raw_of f block / (size_of f + 8)) c.pixels-pixels.ensures.whole refl more

pub returns-then-not-cover-clause-given_up : goal.returns-then-not-cover-clause-given_up
returns-then-not-cover-clause-given_up g c =
    let limit = raw_of c.args.format.now c.args.block.now / (size_of c.args.format.now + 8) in
    let block = c.args.block.now in
    let is = sizes g (goal.at.returns-then-not-cover-clause-given_up g c).After-size-size in
    let given : IsGivenUp block.width block.height block.places c.in-Some.background limit c.cover.new.subs.items =
    rw (is.0, is.1, is.2, c.pixels-pixels.ensures.value) at c.if-not-cover.ensures.over in
    many_subs c.args.format.now block c.in-Some.background limit c.cover.new.subs.items
    (chosen g (goal.at.returns-then-not-cover-clause-given_up g c).In-Some) refl given

pub returns-then-raw-size-clause-given_up : goal.returns-then-raw-size-clause-given_up
returns-then-raw-size-clause-given_up g c =
    let subs = c.cover.new.subs.items in
    let block = c.args.block.now in
    let is = sizes g (goal.at.returns-then-raw-size-clause-given_up g c).After-size-size in
    let rule : AreRuleSubs block.width block.height block.places c.in-Some.background subs =
    rw (is.0, is.1, c.pixels-pixels.ensures.value) at c.if-not-cover.ensures.rule in
    long_data c.args.format.now block c.in-Some.background subs
    (chosen g (goal.at.returns-then-raw-size-clause-given_up g c).In-Some) rule
    (rw (is.0, is.1, is.2, c.len.ensures.value) at c.if-raw-size.true)

pub returns-clause-shorter : goal.returns-clause-shorter
returns-clause-shorter g c = grind (arith, common_steps)
