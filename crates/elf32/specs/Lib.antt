pub mod Faults
pub mod Fields
pub mod FileHeader
pub mod Pages
pub mod ProgramHeaders
pub mod Programs
pub mod Ranges
pub mod Rules
pub use Rattle.views.specs as OfViews
