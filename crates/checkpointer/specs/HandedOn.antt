-- What is handed on of the libraries below, so that who uses this one need not name them.
pub use Rattle.staged_cut.specs.HandedOn.{Computation, Did, Stop, plain_of, user_at, first_signal, CanWork, IsDid, IsReady, IsTold, IsTurnAt, Worked, Failed, StandsAt, Takes, Breaks}
