-- A system whose processes are suspended and elect leaders.
-- Source: DMTCP's stages "suspend user threads" and "elect shared file descriptor leaders"; `man 2 fcntl`
-- (F_SETOWN).
--     Suspension                       what a contract sees of it
--     IsEntered k next_id barrier s    it has just begun: each live process is listed, and none has voted
--     IsReserved s ..                  owners and voters are noted, and all room is taken
--     IsVoting book virts voters       all that have voted own what they held last
--     IsSuspended s ..                 it is a cut of which no byte has moved, and all room is there
--     IsHandedOn s e                   the drain begins with the same kernel part and barrier
use Rattle.std.specs.Prelude.{◌≡◌, ◌<◌, ℕ, true, false, List, [], length, map as each, Some, None, IsSome, All, Contains, refl, if◌then◌else◌}
use Rattle.std.specs.Coded.{Coded, code_by, coded×, coded_ℕ, coded_bool}
use Rattle.std.specs.FinMap as map
use Rattle.sys_abi.specs.declared.identity.Dir.{Dir}
use Rattle.sys_abi.specs.declared.identity.RealPid.{RealPid}
use Rattle.sys_abi.specs.declared.identity.VPid.{VPid}
use Rattle.sys_abi.specs.Orders.{coded_vpid}
use Rattle.barrier_core.specs.Barriers.{BarrierState, coded_state}
use Rattle.fd_book.specs.Books.{Books}
use Rattle.leader_vote.specs.Elections.{NoneOwned, after_votes}
use Rattle.plain_machine.specs.declared.kernel.PlainKernel.{PlainKernel}
use Rattle.plain_machine.specs.Kernel.{is_live}
use Rattle.proc_book.specs.Ends.{is_live_at}
use Rattle.wire_net.specs.declared.agents.AgentEnd.{AgentEnd}
use Rattle.wire_net.specs.CutRooms.{RoomView}
use Rattle.wire_net.specs.Reserves.{Reserve, reserve}
use Rattle.host_tables.specs.declared.system.System.{System}
use Rattle.cut_stages.specs.OfWrapNames.Codes.{kernel_code}
use Rattle.leader_vote.specs.Owners.{Owners, KeepsOwners}
use Rattle.leader_vote.specs.Voters.{Voters, Virts, voter, HasVoters}
use Rattle.leader_vote.specs.Directions.{AreDirs, standing_of}
use Rattle.cut_stages.specs.Cuts.{IsCut}
use Rattle.ckpt_stages.specs.Elections.{Draining}

pub record Suspension : Type 0 where
  pub kernel : PlainKernel
  pub next_id : ℕ
  pub barrier : BarrierState
  pub voters : Voters

-- stored as the pairs of its fields
abbrev pub coded_suspension : Coded Suspension
coded_suspension =
    code_by
    (PlainKernel × (ℕ × (BarrierState × Voters)))
    (coded× kernel_code (coded× coded_ℕ (coded× coded_state (map.code coded_vpid coded_bool))))
    (λ s. (s.kernel, (s.next_id, (s.barrier, s.voters))))
    (λ p. record { kernel = p.0; next_id = p.1.0; barrier = p.1.1.0; voters = p.1.1.1 })
    (λ _. refl)

pub record IsEntered (k : PlainKernel) (next_id : ℕ) (barrier : BarrierState) (s : Suspension) : Type 0 where
  pub kernel : s.kernel ≡ k
  pub next : s.next_id ≡ next_id
  pub barrier_is : s.barrier ≡ barrier
  pub voters : (p : VPid) → map.get s.voters p ≡ (if is_live k p then Some false else None)

abbrev pub AreSides : List Dir → Type 0
AreSides dirs = All (λ d. d.side < 2) dirs

pub record HasRoomFor (s : System) (dirs : List Dir) (ends : Reserve AgentEnd) (room : RoomView) : Type 0
  where
    pub ends_are : ends ≡ reserve [] (length dirs)
    pub room_is : room ≡ record { lengths = each (standing_of s.kernel.net.channels) dirs; is_whole = true }

pub record IsReserved (s : System) (owners : Owners) (voters : Voters) (dirs : List Dir)
    (ends : Reserve AgentEnd) (room : RoomView) : Type 0 where
  pub kept : KeepsOwners s.kernel.book owners
  pub voting : HasVoters s.kernel.procs.processes s.ids.virts voters
  pub listed : AreDirs s.conns.conns dirs
  pub reserved : HasRoomFor s dirs ends room

pub record IsVoting (book : Books) (virts : Virts) (voters : Voters) : Type 0 where
  pub unowned : Books
  pub none : NoneOwned unowned
  pub order : List RealPid
  pub book_is : book ≡ after_votes unowned order
  pub voted : (p : VPid) → map.get voters p ≡ Some true
      → (r : RealPid) × ((map.get virts r ≡ Some p.0) × Contains order r)

-- the live processes, and no others
pub record AreVoters (s : System) (voters : Voters) : Type 0 where
  pub live : (r : RealPid) (v : ℕ) → is_live_at s.kernel.procs.processes r ≡ true
      → map.get s.ids.virts r ≡ Some v → IsSome (map.get voters (voter v))
  pub paired : (p : VPid) → IsSome (map.get voters p) → IsSome (map.get s.ids.pids p.0)

pub record IsSuspended (s : System) (next_id : ℕ) (k : PlainKernel) (owners : Owners) (voters : Voters)
    (dirs : List Dir) (ends : Reserve AgentEnd) (room : RoomView) : Type 0 where
  pub cut : IsCut s next_id k owners map.empty
  pub still : s.kernel.net.channels ≡ cut.before.kernel.net.channels
  pub voting : IsVoting s.kernel.book s.ids.virts voters
  pub voters_are : AreVoters s voters
  pub listed : AreDirs s.conns.conns dirs
  pub reserved : HasRoomFor s dirs ends room

pub record IsHandedOn (s : Suspension) (e : Draining) : Type 0 where
  pub kernel : e.kernel ≡ s.kernel
  pub next : e.next_id ≡ s.next_id
  pub barrier : e.barrier ≡ s.barrier
