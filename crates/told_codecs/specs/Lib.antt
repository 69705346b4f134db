pub use Rattle.reply_watts.specs.Iso as IsoWatts
pub use Rattle.reply_watts.specs.Din as DinWatts
pub use Rattle.reply_watts.specs.Replies
pub use Rattle.reply_watts.specs.Watts
pub use Rattle.site_codec_laws.specs.Codecs as Site
pub use Rattle.site_codec_laws.specs.Negotiating
pub use Rattle.site_codec_laws.specs.Iso
pub use Rattle.site_codec_laws.specs.Din
pub mod Responses
pub mod Laws
pub mod Codecs
