pub use Rattle.site_codec_laws.proofs.IsoReadBack
pub use Rattle.site_codec_laws.proofs.DinReadBack
pub use Rattle.site_codec_laws.proofs.IsoWords
pub use Rattle.site_codec_laws.proofs.DinWords
pub use Rattle.site_codec_laws.proofs.Lawful
pub mod Judging
