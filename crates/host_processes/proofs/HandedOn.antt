-- What is handed on of the libraries below, so that who uses this one need not name them.
pub use Rattle.host_descriptors.proofs.HeldChanges.{there_of, none_held, held_by}
pub use Rattle.host_descriptors.proofs.HeldTold.{held_told}
pub use Rattle.host_descriptors.proofs.ClosedEnds.{ended_kept, unread_kept, plain_of}
