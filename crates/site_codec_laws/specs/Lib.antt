pub use Rattle.site_codec_rules.specs.Din
pub use Rattle.site_codec_rules.specs.Negotiating
pub use Rattle.site_codec_rules.specs.Iso
pub use Rattle.site_codec_rules.specs.Codecs
