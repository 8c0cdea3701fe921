pub mod Fields
pub mod Files
pub mod Format
pub mod ManifestTexts
pub mod Manifests
pub mod Reading
pub mod Texts
