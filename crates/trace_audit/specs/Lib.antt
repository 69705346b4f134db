pub use Rattle.audited_posts.specs.Posts
pub mod Plans
pub mod Seats
pub mod Shares
pub mod Verdicts
pub mod Auditing
pub mod Taken
