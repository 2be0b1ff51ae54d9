use Rattle.std.proofs.Common.{arith}
use Rattle.std.proofs.lemmas.Grind.{common_steps}
use Rattle.rfb_codec.proofs.TileLengthLemmas.{length-spelled_raw, length-room_plain, length-room_colored}
use Rattle.rfb_codec.proofs.hextile.encode.spelling.append.Goals as goal

pub append_pixels-requires-clause-room : goal.append_pixels-requires-clause-room
append_pixels-requires-clause-room c =
    let room = rw c.in-Raw.is at c.requires.room in
    let size = length-spelled_raw c.args.format.now c.args.pixels.now c.args.subs.now.items in
    omega (arith, room, size)

pub append_places-requires-clause-room : goal.append_places-requires-clause-room
append_places-requires-clause-room c =
    let room = rw c.in-Plain.is at c.requires.room in
    let size = length-room_plain c.args.format.now c.in-Plain.background c.in-Plain.foreground
    c.args.pixels.now c.args.subs.now.items in
    omega (arith, room, size)

pub append_colored-requires-clause-room : goal.append_colored-requires-clause-room
append_colored-requires-clause-room c =
    let room = rw c.in-Colored.is at c.requires.room in
    let size = length-room_colored c.args.format.now c.in-Colored.background c.args.pixels.now c.args.subs.now.items in
    omega (arith, room, size)

pub append_colour-requires : goal.append_colour-requires
append_colour-requires c = grind (arith, common_steps)

pub append_colour-requires-in-Plain : goal.append_colour-requires-in-Plain
append_colour-requires-in-Plain c = grind (arith, common_steps)

pub append_count-requires : goal.append_count-requires
append_count-requires c = grind (arith, common_steps)

pub append_colour-requires-in-Colored : goal.append_colour-requires-in-Colored
append_colour-requires-in-Colored c = grind (arith, common_steps)

pub append_count-requires-in-Colored : goal.append_count-requires-in-Colored
append_count-requires-in-Colored c = grind (arith, common_steps)

pub returns-in-Raw : goal.returns-in-Raw
returns-in-Raw c = grind (arith, common_steps)

pub returns-in-Plain : goal.returns-in-Plain
returns-in-Plain c = grind (arith, common_steps)

pub returns-in-Colored : goal.returns-in-Colored
returns-in-Colored c = grind (arith, common_steps)
