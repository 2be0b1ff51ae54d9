-- A rectangle by an equal format is the same.
use Rattle.std.proofs.Common.{◌≡◌, ◌<◌, ◌≤◌, ◌∙◌, ap, subst}
use Rattle.std.proofs.Props.{props}
use Rattle.rfb_pixel.specs.Format.{PixelFormat, size_of}
use Rattle.rfb_codec.specs.declared.painter.rectangle.Rectangle.{Rectangle}

same_facts : (r : Rectangle) (some : 0 < size_of r.format) (few : size_of r.format ≤ 4) →
    record r { some = some; few = few } ≡ r
same_facts r some few =
    let one : IsProp (0 < size_of r.format) = hlevel props in
    let two : IsProp (size_of r.format ≤ 4) = hlevel props in
    ap (λ (x : 0 < size_of r.format). record r { some = x; few = few }) (one some r.some)
    ∙ ap (λ (x : size_of r.format ≤ 4). record r { few = x }) (two few r.few)

pub same_rectangle : (r : Rectangle) (f : PixelFormat) → r.format ≡ f → (some : 0 < size_of f) (few : size_of f ≤ 4) →
    record r { format = f; some = some; few = few } ≡ r
same_rectangle r f same =
    subst (λ (g : PixelFormat). (some : 0 < size_of g) (few : size_of g ≤ 4) →
    record r { format = g; some = some; few = few } ≡ r) same (same_facts r)
