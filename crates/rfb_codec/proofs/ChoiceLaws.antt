-- The rules of the encoders have one choice for each block.
use Rattle.std.proofs.Common.{◌≡◌, ℕ, ◌<◌, List, length, arith, subst}
use Rattle.rfb_picture.specs.Grid.{Grid}
use Rattle.rfb_picture.proofs.GridLaws.{place_below}
use Rattle.rfb_codec.specs.declared.subrect.Subrect.{Subrect}
use Rattle.rfb_codec.specs.Codec.{IsBlock}
use Rattle.rfb_codec.specs.Choice.{AreRuleSubs, IsRuleChoice}
use Rattle.rfb_codec.proofs.ChoiceLemmas.{some_background, some_subs}
use Rattle.rfb_codec.proofs.RuleCountLemmas.{same_background, same_subs}

pub some_choice : (block : Grid ℕ) → IsBlock block →
    (background : ℕ) × (subs : List Subrect) × IsRuleChoice block background subs
some_choice block is =
    let corner =
    place_below block.width block.height 0 0 (omega (arith, is.some_columns)) (omega (arith, is.some_rows)) in
    let some : 0 < length block.places = omega (arith, corner, is.whole) in
    let (background, chosen) = some_background block.places some in
    let (subs, rule) = some_subs block.width block.height block.places background is.whole chosen.there in
    (background, subs, record { background_is = chosen; subs_are = rule })

pub one_choice : (block : Grid ℕ) (background other : ℕ) (subs others : List Subrect) →
    IsRuleChoice block background subs → IsRuleChoice block other others → (background ≡ other) × (subs ≡ others)
one_choice block background other subs others first second =
    let same = same_background block.places background other first.background_is second.background_is in
    let rule = subst (λ (b : ℕ). AreRuleSubs block.width block.height block.places b subs) same first.subs_are in
    (same, same_subs block.width block.height block.places other subs others rule second.subs_are)
