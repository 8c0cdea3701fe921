-- A guest as its callers see it: its virtual number, its user part and its room for threads; and what a run
-- tells of where a thread stands.
use Rattle.std.specs.Prelude.{◌≡◌, ℕ, true, is_some, refl}
use Rattle.std.specs.Coded.{Coded, code_by, coded×, coded_ℕ}
use Rattle.std.specs.Ordering.{nat_cmp}
use Rattle.std.specs.FinMap as map
use Rattle.plain_process.specs.declared.user_part.ThreadPart.{ThreadPart}
use Rattle.plain_process.specs.Memory.{Memory}
use Rattle.sys_abi.specs.declared.identity.VPid.{VPid}
use Rattle.sys_abi.specs.Orders.{coded_vpid}
use Rattle.plain_process.specs.declared.user_part.UserPart.{UserPart}
use Rattle.plain_process.specs.contracts.user_part.UserPart as user_part
use Rattle.plain_process.specs.Steps.{UserStep, Stepped, Asks, Trapped, Waits, NoThread}
use Rattle.plain_process.specs.Deliveries.{Delivery, Enters, Ignores, Kills}
use Rattle.guest_proc.specs.declared.ran.Ran.{Ran}
use Rattle.guest_proc.specs.declared.ran.Ran.TheVariants.{Whole as RanWhole, Asks as RanAsks, Trapped as RanTrapped, Waits as RanWaits, Memory as RanMemory}
pub use Rattle.plain_process.specs.Deliveries.{delivered_told as delivered_by}
pub use Rattle.thread_group.specs.Groups.{with_threads}

pub record GuestPart : Type 0 where
  pub pid : VPid
  pub user : UserPart
  pub spare : ℕ  -- for so many further threads there is room

-- stored as the pair of its number and of its other fields
abbrev pub guest_code : Coded GuestPart
guest_code =
    code_by (VPid × (UserPart × ℕ)) (coded× coded_vpid (coded× user_part.the_row.coded coded_ℕ)) (λ g. (g.pid, (g.user, g.spare))) (λ p. record { pid = p.0; user = p.1.0; spare = p.1.1 })
    (λ _. refl)

abbrev pub with_user : GuestPart → UserPart → GuestPart
with_user guest user = record { pid = guest.pid; user = user; spare = guest.spare }

-- the process has a thread of this number
abbrev pub HasThread : UserPart → ℕ → Type 0
HasThread user t = is_some (map.get user.threads t) ≡ true

-- what the answer of a run tells of where the thread stands; nothing where it ran as far as it was to
abbrev pub Tells : Ran → UserStep → Type 0
Tells RanWhole place = Unit {0}
Tells (RanAsks q) place = place ≡ Asks q
Tells (RanTrapped signal) place = place ≡ Trapped signal.0
Tells RanWaits place = place ≡ Waits
Tells RanMemory place = ⊥

-- what a look tells: whole, where the next instruction goes on
abbrev pub ran_at : UserStep → Ran
ran_at (Stepped user) = RanWhole
ran_at (Asks q) = RanAsks q
ran_at (Trapped s) = RanTrapped (record { 0 = s })
ran_at Waits = RanWaits
ran_at NoThread = RanWhole

-- the part that a delivery leaves
abbrev pub part_after : UserPart → Delivery → UserPart
part_after user (Enters after) = after
part_after user Ignores = user
part_after user (Kills status) = user

-- the part with other memory and threads
abbrev pub with_parts : UserPart → Memory → map.FinMap nat_cmp ThreadPart → UserPart
with_parts user memory threads = record {
  memory = memory;
  break_start = user.break_start;
  break_end = user.break_end;
  threads = threads;
  actions = user.actions;
  waiters = user.waiters;
}
