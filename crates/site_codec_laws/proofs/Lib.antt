pub use Rattle.site_codec_rules.proofs.IsoReadBack
pub use Rattle.site_codec_rules.proofs.DinReadBack
pub mod OneAnswer
pub mod OneJudged
pub mod EachAnswer
pub mod EachJudged
pub mod IsoPayloads
pub mod DinPayloads
pub mod Lawful
pub use Rattle.site_codec_rules.proofs.IsoPayloads as IsoWords
pub use Rattle.site_codec_rules.proofs.DinPayloads as DinWords
