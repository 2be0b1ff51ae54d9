use Rattle.std.proofs.Common.{ℕ, List, [], ◌∷◌, ◌++◌, slice_index, rules}
use Rattle.rfb_pixel.specs.Format.{IsFormat}
use Rattle.rfb_pixel.proofs.ReadingLemmas.{spells-accepted, spells-same}
use Rattle.rfb_pixel.proofs.format.Format.write.Goals as goal

pub returns-clause-accepted : goal.returns-clause-accepted
returns-clause-accepted c =
    let ok : IsFormat c.args.self.now = rw (← c.self.view_is) c.self.invariant in
    let f = c.self.inside in
    let maxima : List ℕ =
    slice_index c.max_bytes-red.result 0 ∷ slice_index c.max_bytes-red.result 1
    ∷ slice_index c.max_bytes-green.result 0 ∷ slice_index c.max_bytes-green.result 1
    ∷ slice_index c.max_bytes-blue.result 0 ∷ slice_index c.max_bytes-blue.result 1
    ∷ [] in
    let bytes : List ℕ =
    f.bits_per_pixel ∷ f.depth ∷ c.from.result ∷ 1
    ∷ (maxima ++ f.red.shift ∷ f.green.shift ∷ f.blue.shift ∷ 0 ∷ 0 ∷ 0 ∷ []) in
    spells-accepted c.args.self.now bytes ok (search rules)

pub returns-clause-read_back : goal.returns-clause-read_back
returns-clause-read_back c = λ f other. spells-same f c.args.self.now _ other (search rules)
