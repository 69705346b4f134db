pub use Rattle.site_codec_laws.proofs.EachJudged
pub use Rattle.site_codec_laws.proofs.Lawful as SiteLawful
pub mod Dropped
pub mod OneResponse
pub mod IsoPayloads
pub mod DinPayloads
pub mod Choices
pub mod Lawful
