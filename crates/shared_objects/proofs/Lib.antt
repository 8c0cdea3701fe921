pub mod KnownKeys
