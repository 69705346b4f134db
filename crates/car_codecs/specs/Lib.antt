pub use Rattle.car_codec_laws.specs.Codecs
pub use Rattle.car_codec_laws.specs.Offering
pub use Rattle.car_codec_laws.specs.Responding
