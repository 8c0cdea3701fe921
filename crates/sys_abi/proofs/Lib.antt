pub mod OrderLaws
pub mod SignalSets
pub use Rattle.views.proofs as OfViews
