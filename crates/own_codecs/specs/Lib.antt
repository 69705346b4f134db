pub use Rattle.told_codecs.specs.Codecs
pub mod Courses
