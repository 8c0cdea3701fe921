-- A suspension begins.
--     entered_voters      the voters are the live processes, and none has voted
--     suspended           the system, with its owners cleared, is a cut of which no byte has moved
use Rattle.std.proofs.Common.{◌≡◌, ℕ, Bool, true, false, List, [], Option, Some, None, refl, sym, ap, ◌∙◌}
use Rattle.std.specs.Prelude.{is_some, if◌then◌else◌}
use Rattle.std.specs.FinMap as map
use Rattle.std.proofs.lemmas.Option.{same_Some}
use Rattle.views.proofs.MapLaws.{true_false}
use Rattle.sys_abi.specs.declared.identity.Dir.{Dir}
use Rattle.sys_abi.specs.declared.identity.RealPid.{RealPid}
use Rattle.sys_abi.specs.declared.identity.VPid.{VPid}
use Rattle.plain_tables.specs.declared.process.Process.{Process}
use Rattle.plain_tables.specs.Tables.{is_live_process}
use Rattle.plain_machine.specs.declared.kernel.PlainKernel.{PlainKernel}
use Rattle.plain_machine.specs.Kernel.{is_live}
use Rattle.wire_net.specs.declared.agents.AgentEnd.{AgentEnd}
use Rattle.wire_net.specs.CutRooms.{RoomView}
use Rattle.wire_net.specs.Reserves.{Reserve}
use Rattle.wire_net.proofs.Streams.{whereabouts-none}
use Rattle.host_tables.specs.declared.system.System.{System}
use Rattle.host_tables.specs.Stands.{Stands}
use Rattle.host_tables.specs.Systems.{given_of}
use Rattle.host_tables.proofs.LookUps.{some_value, lives_of}
use Rattle.cut_stages.specs.OfWrapNames.Wrapping.{IsWrapped}
use Rattle.seen_kernel.specs.Descriptions.{HasNoDatagrams}
use Rattle.leader_vote.specs.Owners.{Owners, with_owners}
use Rattle.leader_vote.specs.Voters.{Voters, HasVoters}
use Rattle.cut_stages.specs.Cuts.{put_back}
use Rattle.ckpt_stages.specs.Suspensions.{IsReserved, IsSuspended}
use Rattle.cut_stages.proofs.OtherOwners.{owners_cleared, none_owned}

module _ (s : System) (next_id : ℕ) (k : PlainKernel) (w : IsWrapped s next_id k) where
  st : Stands (given_of s) None s.kernel k
  st = w.stands.tables

  live_pair : (p : VPid) → is_live k p ≡ true → (r : RealPid) × (map.get s.ids.pids p.0 ≡ Some r)
  unfolding is_live
  live_pair p live = by_found (map.get k.processes p) refl live
    where
      by_found : (found : Option Process) → map.get k.processes p ≡ found → is_live_process found ≡ true
          → (r : RealPid) × (map.get s.ids.pids p.0 ≡ Some r)
      by_found None is h = true_false (sym h)
      by_found (Some x) is h = some_value (map.get s.ids.pids p.0) (st.numbered.process p x is)

  module _ (voters : Voters) (has : HasVoters s.kernel.procs.processes s.ids.virts voters) where
    voter_live : (p : VPid) (voted : Bool) → map.get voters p ≡ Some voted → is_live k p ≡ true
    voter_live p voted is =
        let one = has.only p voted is in
        lives_of (given_of s) s.kernel k st p one.0 (st.paired.inverse.leads_there p.0 one.0 one.1.1) ∙
        one.1.0

    live_voter : (p : VPid) → is_live k p ≡ true → map.get voters p ≡ Some false
    live_voter p live =
        let one = live_pair p live in
        has.live one.0 p.0 (sym (lives_of (given_of s) s.kernel k st p one.0 one.1) ∙ live)
        (st.paired.inverse.leads_back p.0 one.0 one.1)

    pub entered_voters : (p : VPid) → map.get voters p ≡ (if is_live k p then Some false else None)
    entered_voters p = by (is_live k p) (map.get voters p) refl refl
      where
        by : (live : Bool) (found : Option Bool) → is_live k p ≡ live → map.get voters p ≡ found
            → map.get voters p ≡ (if is_live k p then Some false else None)
        by true found is at = live_voter p is ∙ ap (λ b. if b then Some false else None) (sym is)
        by false None is at = at ∙ ap (λ b. if b then Some false else None) (sym is)
        by false (Some voted) is at = true_false (sym (voter_live p voted at) ∙ is)

  module _ (owners : Owners) (voters : Voters) (dirs : List Dir) (ends : Reserve AgentEnd) (room : RoomView)
      (reserved : IsReserved s owners voters dirs ends room) where
    abbrev cleared : System
    cleared = put_back map.empty s

    pub suspended : HasNoDatagrams k.descriptions
        → IsSuspended cleared next_id k owners voters dirs ends room
    suspended plain = record {
      cut = record {
        before = s;
        wrapped = w;
        plain = plain;
        kept = reserved.kept;
        book = owners_cleared s.kernel.book;
        frames = λ id. refl;
        bytes = λ d side. whereabouts-none s.kernel.net d;
        rest = refl;
      };
      still = refl;
      voting = record {
        unowned = with_owners map.empty s.kernel.book;
        none = none_owned s.kernel.book;
        order = [];
        book_is = refl;
        voted = λ p is. true_false (same_Some true false (sym is
            ∙ live_voter voters reserved.voting p (voter_live voters reserved.voting p true is)));
      };
      voters_are = record {
        live = λ r v live paired. ap is_some (reserved.voting.live r v live paired);
        paired = λ p there.
            let voted = some_value (map.get voters p) there in
            let one = reserved.voting.only p voted.0 voted.1 in
            ap is_some (st.paired.inverse.leads_there p.0 one.0 one.1.1);
      };
      listed = reserved.listed;
      reserved = record { ends_are = reserved.reserved.ends_are; room_is = reserved.reserved.room_is };
    }
