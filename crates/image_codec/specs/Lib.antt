pub mod KernelImages
pub mod KernelParts
pub mod LiveImages
pub mod NamedSides
pub mod Sets
pub mod StartImages
