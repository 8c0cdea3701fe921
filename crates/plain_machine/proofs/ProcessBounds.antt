-- A process stays one over each change of it: a signal that becomes pending or is taken, a thread less or more.
--     taken_is, raised_is, raised_for_all_is, fewer_is, next_is
use Rattle.std.proofs.Common.{◌≡◌, ℕ, ◌+◌, ◌-◌, ◌<◌, ◌≤◌, Bool, true, false, cond, refl, sym, ap, ◌∙◌, arith}
use Rattle.std.specs.Prelude.{Option, Some, None, is_some, unwrap_or}
use Rattle.std.specs.Ordering.{nat_cmp}
use Rattle.std.specs.Cmp.{nat_cmp_total}
use Rattle.std.specs.FinMap as map
use Rattle.plain_tables.proofs.OfViews.MapLaws.{true_false}
use Rattle.plain_tables.specs.OfSysAbi.declared.identity.VPid.{VPid}
use Rattle.plain_tables.specs.OfSysAbi.Signals.{has_signal, with_signal, without_signal}
use Rattle.plain_tables.specs.OfSysAbi.Lives.{lives}
use Rattle.plain_tables.specs.OfSysAbi.declared.life.Life.{Life}
use Rattle.plain_tables.specs.OfSysAbi.declared.life.Life.TheVariants.{Live, Zombie}
use Rattle.plain_tables.specs.declared.process.Process.{Process}
use Rattle.plain_tables.specs.Tables.{FIRST_PID, signals_of, with_signals, taken_from, raised_at, without_thread_entry, with_thread_entry, raised_for_all}
use Rattle.plain_tables.specs.Valid.Processes.{IsSignalSet, IsGivenOut, FitsLife, IsProcess}
use Rattle.plain_tables.proofs.Entries.{still_there}
use Rattle.plain_tables.specs.OfPlainProcess.Valid.{Each}
use Rattle.plain_machine.proofs.Entries.{each_with}
use Rattle.plain_machine.proofs.SignalBounds.{set_without, set_with, none_without}
use Rattle.plain_machine.proofs.ThreadKeys.{same_there, same_len}
use Rattle.plain_machine.proofs.KernelThreads.{there_if_signal}

-- signals
same_life : (life : Life) (threads others : map.FinMap nat_cmp ℕ) (pending : ℕ) → map.len others ≡ map.len threads → FitsLife life threads pending → FitsLife life others pending
same_life Live threads others pending same fits = let few = fits.1 in let some = fits.0 in (omega arith, omega arith)
same_life (Zombie status) threads others pending same fits = (same ∙ fits.0, fits.1)

given_out : (next_id t : ℕ) (threads : map.FinMap nat_cmp ℕ) (found : Option ℕ) → map.get threads t ≡ found → is_some found ≡ true → Each threads (λ u signals. IsGivenOut next_id u × IsSignalSet signals) → IsGivenOut next_id t
given_out next_id t threads None is there are = true_false (sym there)
given_out next_id t threads (Some signals) is there are = (are t signals is).0

module _ (next_id : ℕ) (p : VPid) (process : Process) (is : IsProcess next_id p process) where
  pub signals_are : (t signals : ℕ) → is_some (map.get process.threads t) ≡ true → IsSignalSet signals → IsProcess next_id p (with_signals process t signals)
  signals_are t signals there small = record {
    number = is.number;
    pending = is.pending;
    life = same_life process.life process.threads (map.insert process.threads t signals) process.pending (same_len (map.insert process.threads t signals) process.threads (same_there process.threads t signals there)) is.life;
    threads = each_with nat_cmp_total map.nat_cmp-IsAntisymmetric (λ u set. IsGivenOut next_id u × IsSignalSet set) process.threads t signals
        (given_out next_id t process.threads (map.get process.threads t) refl there is.threads, small) (λ u set other found. is.threads u set found);
  }

  taken_life : (life : Life) (s : ℕ) → FitsLife life process.threads process.pending → FitsLife life process.threads (without_signal process.pending s)
  taken_life Live s fits = fits
  taken_life (Zombie status) s fits = (fits.0, ap (λ set. without_signal set s) fits.1 ∙ none_without s)

  pub signals_small : (t : ℕ) (found : Option ℕ) → map.get process.threads t ≡ found → IsSignalSet (unwrap_or found 0)
  signals_small t None there = omega arith
  signals_small t (Some signals) there = (is.threads t signals there).1

  pub taken_is : (t s : ℕ) → IsProcess next_id p (taken_from t s process)
  taken_is t s = chosen (has_signal (signals_of t process) s) refl
    where
      chosen : (b : Bool) → has_signal (signals_of t process) s ≡ b
          → IsProcess next_id p (cond b (with_signals process t (without_signal (signals_of t process) s)) (record process { pending = without_signal process.pending s }))
      chosen true has = signals_are t _ (there_if_signal (map.get process.threads t) s has) (set_without _ s (signals_small t (map.get process.threads t) refl))
      chosen false other = record { number = is.number; pending = set_without process.pending s is.pending; life = taken_life process.life s is.life; threads = is.threads }

pub taken_lives : (t s : ℕ) (process : Process) → (taken_from t s process).life ≡ process.life
taken_lives t s process = chosen (has_signal (signals_of t process) s)
  where
    chosen : (b : Bool) → (cond b (with_signals process t (without_signal (signals_of t process) s)) (record process { pending = without_signal process.pending s })).life ≡ process.life
    chosen true = refl
    chosen false = refl

-- threads
fewer : (b : Bool) (n m : ℕ) → m ≡ cond b (n - 1) n → (n ≤ m + 1) × (m ≤ n)
fewer true n m is = (omega arith, omega arith)
fewer false n m is = (omega arith, omega arith)

more : (b : Bool) (n m : ℕ) → m ≡ cond b n (n + 1) → (n ≤ m) × (m ≤ n + 1)
more true n m is = (omega arith, omega arith)
more false n m is = (omega arith, omega arith)

pub fewer_threads : (life : Life) (threads : map.FinMap nat_cmp ℕ) (pending t : ℕ) → 1 < map.len threads → FitsLife life threads pending → FitsLife life (map.remove threads t) pending
fewer_threads Live threads pending t some fits =
    let most = fits.1 in
    let left = fewer (map.contains_key threads t) (map.len threads) (map.len (map.remove threads t)) (map.len-remove nat_cmp_total threads t) in
    let at_least = left.0 in
    let at_most = left.1 in
    (omega arith, omega arith)
fewer_threads (Zombie status) threads pending t some fits = let none = fits.0 in absurd (omega arith)

pub one_thread_more : (life : Life) (threads : map.FinMap nat_cmp ℕ) (pending t : ℕ) → lives life ≡ true → map.len threads < 64 → FitsLife life threads pending → FitsLife life (map.insert threads t 0) pending
one_thread_more Live threads pending t alive few fits =
    let some = fits.0 in
    let after = more (map.contains_key threads t) (map.len threads) (map.len (map.insert threads t 0)) (map.len-insert nat_cmp_total threads t 0) in
    let at_least = after.0 in
    let at_most = after.1 in
    (omega arith, omega arith)
one_thread_more (Zombie status) threads pending t alive few fits = true_false (sym alive)

pub later : (next_id : ℕ) (q : VPid) (process : Process) → IsProcess next_id q process → IsProcess (next_id + 1) q process
later next_id q process is = record {
  number = (is.number.0, let below = is.number.1 in omega arith);
  pending = is.pending;
  life = is.life;
  threads = λ t signals found. let was = is.threads t signals found in ((was.0.0, let below = was.0.1 in omega arith), was.1);
}

raised_life : (life : Life) (threads : map.FinMap nat_cmp ℕ) (pending s : ℕ) → lives life ≡ true → FitsLife life threads pending → FitsLife life threads (with_signal pending s)
raised_life Live threads pending s alive fits = fits
raised_life (Zombie status) threads pending s alive fits = true_false (sym alive)

module _ (next_id : ℕ) (p : VPid) (process : Process) (is : IsProcess next_id p process) where
  pub raised_is : (t s : ℕ) → is_some (map.get process.threads t) ≡ true → IsProcess next_id p (raised_at t s process)
  raised_is t s there = signals_are next_id p process is t _ there (set_with _ s (signals_small next_id p process is t (map.get process.threads t) refl))

  pub raised_for_all_is : (s : ℕ) → lives process.life ≡ true → IsProcess next_id p (raised_for_all s process)
  raised_for_all_is s alive = record {
    number = is.number;
    pending = set_with process.pending s is.pending;
    life = raised_life process.life process.threads process.pending s alive is.life;
    threads = is.threads;
  }

  -- one of several threads is gone
  pub fewer_is : (t : ℕ) → 1 < map.len process.threads → IsProcess next_id p (without_thread_entry t process)
  fewer_is t some = record {
    number = is.number;
    pending = is.pending;
    life = fewer_threads process.life process.threads process.pending t some is.life;
    threads = λ u signals found. is.threads u signals (still_there nat_cmp_total map.nat_cmp-IsAntisymmetric process.threads t u signals found);
  }

  -- one thread more, with the next number
  pub next_is : FIRST_PID ≤ next_id → lives process.life ≡ true → map.len process.threads < 64 → IsProcess (next_id + 1) p (with_thread_entry next_id process)
  next_is first alive few =
      let one = later next_id p process is in
      record {
        number = one.number;
        pending = one.pending;
        life = one_thread_more process.life process.threads process.pending next_id alive few one.life;
        threads = each_with nat_cmp_total map.nat_cmp-IsAntisymmetric (λ u set. IsGivenOut (next_id + 1) u × IsSignalSet set) process.threads next_id 0
            ((first, omega arith), omega arith) (λ u set other found. one.threads u set found);
      }
