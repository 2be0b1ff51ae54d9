-- When the rule's data of RRE are no shorter than Raw.
use Rattle.std.proofs.Common.{◌≡◌, ℕ, ◌+◌, ◌*◌, ◌/◌, ◌≤◌, List, [], length, arith, subst}
use Rattle.std.proofs.Math.Nat.{mul-le-mul_right}
use Rattle.rfb_pixel.specs.Format.{PixelFormat, size_of}
use Rattle.rfb_picture.specs.Grid.{Grid}
use Rattle.rfb_codec.specs.declared.subrect.Subrect.{Subrect}
use Rattle.rfb_codec.specs.Codec.{raw_of}
use Rattle.rfb_codec.specs.Choice.{IsBackground, AreRuleSubs, IsRuleChoice, IsNoShorter}
use Rattle.rfb_codec.specs.encoder.Background.{HasMore}
use Rattle.rfb_codec.specs.encoder.Cover.{IsGivenUp}
use Rattle.rfb_codec.proofs.RuleCountLemmas.{same_background, no_more, fewer, enough_subs, over_limit}

module _ (f : PixelFormat) (block : Grid ℕ) where
  -- more subrectangles than the limit
  beyond : (limit n : ℕ) → limit ≡ raw_of f block / (size_of f + 8) → limit + 1 ≤ n →
      raw_of f block ≤ 4 + size_of f + n * (size_of f + 8)
  beyond limit n is more =
      let over = over_limit (raw_of f block) (size_of f + 8) limit n (omega arith) is more in
      omega (arith, over)

  -- of a block of that background they are the rule's over it
  rule_over : (background : ℕ) → IsBackground block.places background → (other : ℕ) (subs : List Subrect) →
      IsRuleChoice block other subs → AreRuleSubs block.width block.height block.places background subs
  rule_over background is other subs choice =
      subst (λ (b : ℕ). AreRuleSubs block.width block.height block.places b subs)
      (same_background block.places other background choice.background_is is) choice.subs_are

  pub many_pixels : (limit : ℕ) → length block.places ≡ block.height * block.width →
      limit ≡ raw_of f block / (size_of f + 8) → HasMore (limit + 1) block.places → IsNoShorter f block
  many_pixels limit whole is more background subs choice =
      beyond limit (length subs) is
      (enough_subs block.width block.height block.places background subs (limit + 1) whole choice.subs_are more)

  pub many_subs : (background limit : ℕ) (some : List Subrect) → IsBackground block.places background →
      limit ≡ raw_of f block / (size_of f + 8) →
      IsGivenUp block.width block.height block.places background limit some → IsNoShorter f block
  many_subs background limit some plain is given other subs choice =
      let rule = rule_over background plain other subs choice in
      let less = fewer block.width block.height block.places background [] some subs given.x given.y given.column
      given.row given.each rule.each given.left rule.none in
      let full = given.full in
      beyond limit (length subs) is (omega (arith, less, full))

  pub long_data : (background : ℕ) (some : List Subrect) → IsBackground block.places background →
      AreRuleSubs block.width block.height block.places background some →
      raw_of f block ≤ 4 + size_of f + length some * (size_of f + 8) → IsNoShorter f block
  long_data background some plain first long other subs choice =
      let rule = rule_over background plain other subs choice in
      let no_less =
      no_more block.width block.height block.places background [] some subs first.each rule.each rule.none in
      let bytes : length some * (size_of f + 8) ≤ length subs * (size_of f + 8) =
      mul-le-mul_right (size_of f + 8) no_less in
      omega (arith, long, bytes)
