pub mod Paths
pub mod Sizes
pub mod Opening
pub use Rattle.host_descriptors.specs as OfHostDescriptors
