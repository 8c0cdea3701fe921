pub mod Names
pub mod Orders
pub mod Signals
pub mod Clones
pub mod Flags
pub mod Lives
pub use Rattle.views.specs as OfViews
