pub use Rattle.site_codec_laws.specs.Negotiating
pub use Rattle.site_codec_laws.specs.Codecs
