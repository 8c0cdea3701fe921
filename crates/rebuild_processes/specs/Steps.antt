-- What each step of the making does to the tables.
--     HasBegun node v parent r old new      the process v is r, with one thread of its own number
--     HasThread r t n old new               the process r has the thread t, with number n
use Rattle.std.specs.Prelude.{◌≡◌, ℕ, None}
use Rattle.std.specs.FinMap as map
use Rattle.sys_abi.specs.declared.identity.RealPid.{RealPid}
use Rattle.proc_book.specs.Procs.{next_of, after_start, after_add_thread}
use Rattle.virt_ids.specs.Pairs.{Pairs}
use Rattle.host_tables.specs.Numbers.{real}
use Rattle.rebuild_processes.specs.declared.numbered.Numbered.{Numbered}

abbrev pub with_pair : Pairs → ℕ → RealPid → Pairs
with_pair ids v r = record ids { pids = map.insert ids.pids v r; virts = map.insert ids.virts r v }

-- neither is paired yet
pub record IsNew (ids : Pairs) (v : ℕ) (r : RealPid) : Type 0 where
  pub virt : map.get ids.pids v ≡ None
  pub back : map.get ids.virts r ≡ None

pub record HasBegun (node v parent : ℕ) (r : RealPid) (old new : Numbered) : Type 0 where
  pub own : r ≡ real node (next_of old.procs node)
  pub fresh : IsNew old.ids v r
  pub procs : new.procs ≡ after_start old.procs node (map.get old.ids.pids parent)
  pub ids : new.ids ≡ with_pair old.ids v r

pub record HasThread (r : RealPid) (t n : ℕ) (old new : Numbered) : Type 0 where
  pub own : n ≡ next_of old.procs r.node
  pub fresh : IsNew old.ids t (real r.node n)
  pub procs : new.procs ≡ after_add_thread old.procs r
  pub ids : new.ids ≡ with_pair old.ids t (real r.node n)
