pub mod Offering
pub mod Responding
pub mod Profiles
pub mod Iso
pub mod Din
pub mod Codecs
pub mod Asked
pub use Rattle.site_codec_rules.specs.Codecs as CodecCodecs
pub use Rattle.site_codec_rules.specs.Iso as CodecIso
pub use Rattle.site_codec_rules.specs.Din as CodecDin
pub use Rattle.site_codec_rules.specs.Negotiating
