pub mod PixelLaws
pub mod PixelLemmas
pub mod BlockLemmas
mod BytesLemmas
mod StandardFacts
mod UpdateFacts
mod EffectFacts
mod PendingFacts
mod TilesFacts
pub mod TakenLaws
pub mod RawLaws
pub mod RreLaws
pub mod RectDataLaws
pub mod UpdateStreamLaws
pub mod EffectLaws
pub mod UpdateWaitLaws
pub mod WholeUpdateLaws
pub mod EnoughLaws
pub mod PendingTileLaws
pub mod PendingLaws
pub mod TilePartLaws
pub mod MaskFaultLaws
pub mod TileLaws
pub mod HextileLaws
pub mod CoverLemmas
pub mod RuleLemmas
pub mod RuleCountLemmas
pub mod NoShorterLemmas
pub mod ChoiceLemmas
pub mod ChoiceLaws
pub mod PaletteLemmas
pub mod PlacesLemmas
pub mod TallyLemmas
pub mod CountLemmas
pub mod StepLemmas
pub mod RreEncodeLemmas
pub mod TileLengthLemmas
pub mod TileSpellingLemmas
pub mod CarriedLemmas
pub mod HextileEncodeLemmas
pub mod HextileRuleLemmas
pub mod HextileTilesLemmas
pub mod TileChoiceLemmas
pub mod DrawLemmas
mod SpelledTilesLemmas
pub mod PaintLemmas
pub mod PaintRawLemmas
pub mod PaintRreLemmas
pub mod PaintTileLemmas
pub mod TileReadLemmas
pub mod TilesOverLemmas
pub mod TilesLaws
pub mod PaintHextileLemmas
pub mod RunLemmas
pub mod LineLemmas
pub mod FrontLemmas
pub mod ByteLemmas
pub mod TakeTileLemmas
pub mod RawTileLemmas
pub mod RectangleLemmas
pub mod TileFaultLemmas
mod TileOutsideLemmas
mod TileRefusalLemmas
pub mod TakePartLemmas
pub mod LeastLemmas
pub mod JoinLemmas
pub mod VerdictLemmas
pub mod FeedLemmas
pub mod FrontPendingLaws
