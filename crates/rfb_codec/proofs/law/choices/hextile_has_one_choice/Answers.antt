use Rattle.std.proofs.Common.{◌∙◌, ap, sym, arith}
use Rattle.std.specs.List.{flat_map}
use Rattle.rfb_codec.specs.SentTile.{sent_as}
use Rattle.rfb_codec.specs.HextileRule.{nothing_held}
use Rattle.rfb_codec.proofs.TileChoiceLemmas.{some_tiles, same_tiles}
use Rattle.rfb_codec.proofs.law.choices.hextile_has_one_choice.Goals as goal

pub returns-clause-some : goal.returns-clause-some
returns-clause-some c = λ f block. some_tiles f block nothing_held

pub returns-clause-one : goal.returns-clause-one
returns-clause-one c = λ f block tiles others number as_many first second.
    same_tiles f block 0 nothing_held tiles others (omega (arith, number)) (number ∙ sym as_many) first second

pub returns-clause-bytes : goal.returns-clause-bytes
returns-clause-bytes c = λ f block bytes others first second.
    let one = first.stands.tiles in
    let other = second.stands.tiles in
    let number = first.stands.number in
    let as_many = second.stands.number in
    let same = same_tiles f block 0 nothing_held one other (omega (arith, number))
    (number ∙ sym as_many) first.rule second.rule in
    first.bytes_are ∙ ap (flat_map (sent_as f)) same ∙ sym second.bytes_are
