use Rattle.dmtcp_top.proofs.OneRestart.{restart_ends_so}
use Rattle.dmtcp_top.proofs.RoundTrips.{one_state, round_trip}
use Rattle.dmtcp_top.proofs.SetLaws.{set_laws, spelled_or_spoilt, one_spoil}
use Rattle.dmtcp_top.proofs.laws.restart_laws.Goals as goal

pub returns-clause-one : goal.returns-clause-one
returns-clause-one c = one_state

pub returns-clause-round_trip : goal.returns-clause-round_trip
returns-clause-round_trip c = round_trip

pub returns-clause-end : goal.returns-clause-end
returns-clause-end c = restart_ends_so

pub returns-clause-apart : goal.returns-clause-apart
returns-clause-apart c = λ files generation slot g damage. spelled_or_spoilt set_laws files generation g slot damage

pub returns-clause-place : goal.returns-clause-place
returns-clause-place c = one_spoil
