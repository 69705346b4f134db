pub mod Bytes
pub mod Results
pub mod Offers
pub mod Loops
pub use Rattle.car_codec_laws.proofs.SiteLawful
pub use Rattle.car_codec_laws.proofs.Lawful
pub use Rattle.car_codec_laws.proofs.EachJudged
