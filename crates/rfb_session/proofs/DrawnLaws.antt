-- Whether a rectangle lies on a screen is one or the other, for crates above.
use Rattle.std.proofs.Common.{ℕ, ◌<◌, ◌≤◌, ◌+◌, ◌⊎◌, inl, inr, arith}
use Rattle.std.proofs.lemmas.Bool.{cases_lt}
use Rattle.rfb_pixel.specs.declared.colour.Colour.{Colour}
use Rattle.rfb_picture.specs.declared.rect.Rect.{Rect}
use Rattle.rfb_picture.specs.Grid.{Grid, Holds}
use Rattle.rfb_server.specs.Model.{HoldsBoth}

pub held_or_not : (rect : Rect) (g : Grid Colour) → Holds g rect ⊎ (Holds g rect → ⊥)
held_or_not rect g = by (cases_lt g.width (rect.x + rect.w)) (cases_lt g.height (rect.y + rect.h))
  where
    by : ((g.width < rect.x + rect.w) ⊎ (rect.x + rect.w ≤ g.width)) →
        ((g.height < rect.y + rect.h) ⊎ (rect.y + rect.h ≤ g.height)) →
        Holds g rect ⊎ (Holds g rect → ⊥)
    by (inl wide) down = inr (λ held. absurd (omega (arith, wide, held.0)))
    by (inr across) (inl high) = inr (λ held. absurd (omega (arith, high, held.1)))
    by (inr across) (inr down) = inl (across, down)

pub both_held_or_not : (rect : Rect) (sx sy : ℕ) (g : Grid Colour) →
    HoldsBoth g rect sx sy ⊎ (HoldsBoth g rect sx sy → ⊥)
both_held_or_not rect sx sy g =
    by (held_or_not rect g) (held_or_not (record rect { x = sx; y = sy }) g)
  where
    by : (Holds g rect ⊎ (Holds g rect → ⊥)) →
        (Holds g (record rect { x = sx; y = sy }) ⊎ (Holds g (record rect { x = sx; y = sy }) → ⊥)) →
        HoldsBoth g rect sx sy ⊎ (HoldsBoth g rect sx sy → ⊥)
    by (inr not) source = inr (λ both. not both.0)
    by (inl held) (inr not) = inr (λ both. not both.1)
    by (inl held) (inl source) = inl (held, source)
