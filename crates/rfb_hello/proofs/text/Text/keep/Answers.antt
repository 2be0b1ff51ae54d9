use Rattle.std.proofs.Common.{◌≡◌, ◌++◌, ◌-◌, ◌≤◌, length, take, min, ap, ◌∙◌, List, ℕ, rules}
use Rattle.std.specs.Vec.{vec_items, vec_len, vec_capacity}
use Rattle.rfb_hello.proofs.TextLemmas.{kept_more}
use Rattle.rfb_hello.proofs.text.Text.keep.Goals as goal

pub returns : goal.returns
returns c =
    let bytes = c.args.bytes.now in
    let room = vec_capacity c.self.inside.bytes in
    let old = vec_items c.self.inside.bytes in
    let len : vec_len c.self.inside.bytes ≡ length old = search rules in
    let within : length old ≤ room = search rules in
    let size : c.min-size.result ≡ min (length bytes) (room - length old) =
    c.min-size.ensures ∙ ap (λ (k : ℕ). min (length bytes) (k - c.len.result)) c.capacity.ensures
    ∙ ap (λ (k : ℕ). min (length bytes) (room - k)) (c.len.ensures ∙ len) in
    let items : vec_items c.append_within.new.out ≡ take room (old ++ bytes) =
    c.append_within.ensures.items ∙ ap (λ (k : ℕ). old ++ take k bytes) size ∙ kept_more room old bytes within in
    rw (← c.self.view_is, c.append_within.ensures.room) (ap (λ (ys : List ℕ). record { room = room; bytes = ys }) items)
