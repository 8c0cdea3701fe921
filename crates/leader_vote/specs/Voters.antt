-- The live processes by their virtual numbers, each with whether it has voted.
-- Source: DMTCP elects leaders by votes of all processes.
--     HasVoters processes virts voters      the live processes that have a virtual number are listed, and no
--                                           others; none of them has voted
--     with_voter                            one more process is listed, if it lives
--     marked, has_voted, all_voted          a vote is noted;  a process has voted;  all have
use Rattle.std.specs.Prelude.{◌≡◌, Bool, true, false, Option, Some}
use Rattle.std.specs.Option.{option_map_or}
use Rattle.std.specs.List.{list_all}
use Rattle.std.specs.FinMap as map
use Rattle.std.specs.FinMap.{FinMap}
use Rattle.sys_abi.specs.declared.identity.VPid.{VPid}
use Rattle.sys_abi.specs.declared.identity.RealPid.{RealPid}
use Rattle.sys_abi.specs.Orders.{vpid_cmp, real_pid_cmp}
use Rattle.proc_book.specs.Ends.{Processes, is_live_at}
use Rattle.std.specs.Prelude.{ℕ}

abbrev pub Voters : Type 0
Voters = FinMap vpid_cmp Bool

abbrev pub voter : ℕ → VPid
voter v = record { 0 = v }

abbrev pub Virts : Type 0
Virts = FinMap real_pid_cmp ℕ

pub record HasVoters (processes : Processes) (virts : Virts) (voters : Voters) : Type 0 where
  pub live : (r : RealPid) (v : ℕ) → is_live_at processes r ≡ true → map.get virts r ≡ Some v
      → map.get voters (voter v) ≡ Some false
  pub only : (p : VPid) (voted : Bool) → map.get voters p ≡ Some voted
      → (r : RealPid) × ((is_live_at processes r ≡ true) × (map.get virts r ≡ Some p.0))

abbrev pub voter_by : Bool → Option ℕ → Voters → Voters
voter_by true (Some v) voters = map.insert voters (voter v) false
voter_by _ _ voters = voters

abbrev pub with_voter : Processes → Virts → Voters → RealPid → Voters
with_voter processes virts voters r = voter_by (is_live_at processes r) (map.get virts r) voters

abbrev pub marked : Voters → VPid → Voters
marked voters p = option_map_or (λ _. map.insert voters p true) (map.get voters p) voters

abbrev pub has_voted : Voters → VPid → Bool
has_voted voters p = option_map_or (λ voted. voted) (map.get voters p) false

abbrev pub all_voted : Voters → Bool
all_voted voters = list_all (λ voted. voted) (map.values voters)
