-- The processes of an image that can be spelled are those of a kernel part that a run may reach, however many there are.
--     HasEnds s, ends_of      what is tested at the end of the file, a test a field
--     IsListed p process, listed      a process of the kernel part with those in front of it
--     processes_are, makers_are, parents_are      a topic each
use Rattle.std.proofs.Common.{◌≡◌, ℕ, ◌<◌, ◌≤◌, ◌^◌, ◌==◌, ◌&&◌, ◌||◌, Less, Equal, Greater, Bool, true, false, cond, List, [], ◌∷◌, length, map as each, inl, inr, refl, sym, ap, subst, ◌∙◌, ⊎_elim, arith}
use Rattle.std.specs.Prelude.{◌⊎◌, not, nat_le, nat_lt, Option, Some, None, is_some}
use Rattle.std.specs.List.{list_any, list_all}
use Rattle.std.specs.Ordering.{nat_cmp, eq_by_cmp}
use Rattle.std.specs.Cmp.{nat_cmp_total}
use Rattle.std.specs.FinMap as map
use Rattle.std.specs.FinMap.{nat_cmp-IsAntisymmetric}
use Rattle.std.proofs.lemmas.Bool.Decides.{nat_tests}
use Rattle.std.proofs.lemmas.List.{length-map}
use Rattle.views.specs.NumberMap.{is_above}
use Rattle.views.proofs.MapLaws.{true_false}
use Rattle.sys_abi.specs.declared.identity.VPid.{VPid}
use Rattle.sys_abi.specs.Orders.{vpid_cmp}
use Rattle.sys_abi.specs.Lives.{lives}
use Rattle.sys_abi.specs.declared.life.Life.{Life}
use Rattle.sys_abi.specs.declared.life.Life.TheVariants.{Live, Zombie}
use Rattle.sys_abi.proofs.OrderLaws.{vpid_total, vpid_exact}
use Rattle.plain_machine.specs.declared.kernel.PlainKernel.{PlainKernel}
use Rattle.plain_tables.specs.declared.process.Process.{Process}
use Rattle.sys_abi.specs.declared.maker.Maker.{Maker}
use Rattle.plain_tables.specs.Tables.{is_live_process, lives_in, has_thread_in, same_host, pid}
use Rattle.plain_tables.specs.Valid.Processes.{AreProcesses, AreMakers, AreParents, FitsLife, HasParent, IsGivenOut, IsParent, IsProcess}
use Rattle.plain_tables.proofs.Entries.{found_at}
use Rattle.shared_items.specs.declared.shared.DescriptionImage.{DescriptionImage}
use Rattle.shared_items.specs.declared.shared.ThreadEntry.{ThreadEntry}
use Rattle.shared_items.specs.declared.shared.ProcessEntry.{ProcessEntry}
use Rattle.shared_items.specs.declared.shared.Shared.{Shared}
use Rattle.shared_items.specs.SharedTests as field
use Rattle.shared_items.specs.WholeShared as whole
use Rattle.shared_items.specs.SharedFits.{IsShared, ThreadFits, ProcessFits, state_of, status_of}
use Rattle.image_format.specs.Texts.{EachFrom}
use Rattle.image_codec.specs.KernelParts.{kernel_of, process_entry, maker_entry}
use Rattle.image_codec.specs.KernelImages.{shared_of, process_image, maker_or, thread_image, description_image}
use Rattle.image_codec.proofs.KernelLaws.{shared_of-kernel_of}
use Rattle.image_codec.proofs.Listings.{IsSplit, IsBefore, each_from, from_all, which_of_images, some_before}
use Rattle.image_codec.proofs.TestFacts.{and_true, or_either, or_later, follows, refused, same_number, equal_numbers, below, at_most, below_number}

-- what is tested at the end of the file
pub record HasEnds (s : Shared) : Type 0 where
  pub kept : list_all (whole.is_kept_file s.descriptions) s.files ≡ true
  pub named : list_all (whole.is_rightly_named s.descriptions) s.channels ≡ true
  pub held : list_all (whole.is_rightly_held s.channels s.processes) s.descriptions ≡ true
  pub near : list_all (whole.is_near_parent s.processes) s.processes ≡ true

pub ends_of : (s : Shared) → IsShared s → HasEnds s
unfolding whole.is_whole_shared
ends_of s is =
    let files = list_all (whole.is_kept_file s.descriptions) s.files in
    let channels = list_all (whole.is_rightly_named s.descriptions) s.channels in
    let descriptions = list_all (whole.is_rightly_held s.channels s.processes) s.descriptions in
    let processes = list_all (whole.is_near_parent s.processes) s.processes in
    let (others, near) = and_true (files && channels && descriptions) processes is.whole in
    let (first, held) = and_true (files && channels) descriptions others in
    let (kept, named) = and_true files channels first in
    record { kept = kept; named = named; held = held; near = near }

-- numbers
given_out : (next_id n : ℕ) → field.is_given_out next_id n ≡ true → IsGivenOut next_id n
given_out next_id n is = let (least, most) = and_true (nat_le 40000 n) (nat_lt n next_id) is in (at_most 40000 n least, below n next_id most)

-- of two processes one has the lower number, or they are the same
abbrev IsOrdered : VPid → VPid → Type 0
IsOrdered p q = (vpid_cmp p q ≡ Less) ⊎ (p ≡ q) ⊎ (vpid_cmp q p ≡ Less)

ordered : (p q : VPid) → IsOrdered p q
ordered p q = elim (vpid_cmp p q) as (λ r. vpid_cmp p q ≡ r → IsOrdered p q) [
  | Less ↦ λ is. inl is
  | Equal ↦ λ is. inr (inl (vpid_exact p q is))
  | Greater ↦ λ is. inr (inr (turned p.0 q.0 is))
] refl
  where
    turned : (m n : ℕ) → nat_cmp m n ≡ Greater → nat_cmp n m ≡ Less
    turned m n is = grind (arith, nat_tests)

few_processes : (n : ℕ) → field.is_process_count n ≡ true → n ≤ 128
few_processes n is = grind (arith, nat_tests)

module _ (s : Shared) (is : IsShared s) where
  abbrev k : PlainKernel
  k = kernel_of s

  back : shared_of k ≡ s
  back = shared_of-kernel_of s is.fields

  abbrev images : List ProcessEntry
  images = each (process_image k) (map.entries k.processes)

  abbrev descriptions : List DescriptionImage
  descriptions = each (description_image k.listeners) (map.entries k.descriptions)

  pub processes_back : images ≡ s.processes
  unfolding shared_of
  processes_back = ap (λ (t : Shared). t.processes) back

  pub descriptions_back : descriptions ≡ s.descriptions
  unfolding shared_of
  descriptions_back = ap (λ (t : Shared). t.descriptions) back

  -- a process of the kernel part, with those in front of it
  abbrev Fits : List ProcessEntry → ProcessEntry → Type 0
  Fits = ProcessFits s.next_id s.channels s.descriptions

  pub record IsListed (p : VPid) (process : Process) : Type 0 where
    pub before : List (VPid × Process)
    pub split : IsSplit vpid_total vpid_exact k.processes before (p, process)
    pub fits : Fits (each (process_image k) before) (process_image k (p, process))

  pub listed : (p : VPid) (process : Process) → map.get k.processes p ≡ Some process → IsListed p process
  listed p process there =
      let (xs, split, fits) = each_from vpid_total vpid_exact (process_image k) k.processes Fits (subst (EachFrom Fits []) (sym processes_back) is.fields.processes) p process there in
      record { before = xs; split = split; fits = fits }

  -- processes
  lists : (n : ℕ) (q : VPid) (other : Process) → map.get k.processes q ≡ Some other → has_thread_in n (map.get k.processes q) ≡ true → field.lists_thread n (process_image k (q, other)) ≡ true
  lists n q other there has =
      let (signals, known) = found_at nat_cmp_total nat_cmp-IsAntisymmetric other.threads n (sym (ap (has_thread_in n) there) ∙ has) in
      some_before nat_cmp_total nat_cmp-IsAntisymmetric thread_image (λ (t : ThreadEntry). t.tid == n) (map.entries other.threads) n signals (sym (map.get-entries other.threads n) ∙ known) (same_number n)

  threads_of : (p : VPid) (process : Process) (one : IsListed p process) (t signals : ℕ) → map.get process.threads t ≡ Some signals
      → (front : List (ℕ × ℕ)) × IsSplit nat_cmp_total nat_cmp-IsAntisymmetric process.threads front (t, signals) × ThreadFits s.next_id (each (process_image k) one.before) (each thread_image front) (thread_image (t, signals))
  threads_of p process one t signals found =
      each_from nat_cmp_total nat_cmp-IsAntisymmetric thread_image process.threads (ThreadFits s.next_id (each (process_image k) one.before)) one.fits.threads t signals found

  life_fits : (p : VPid) (process : Process) → IsListed p process → FitsLife process.life process.threads process.pending
  life_fits p process one = by_life process.life refl
    where
      count : map.len process.threads ≡ length (each thread_image (map.entries process.threads))
      count = map.len-entries process.threads ∙ sym (length-map (map.entries process.threads) thread_image)

      by_life : (life : Life) → process.life ≡ life → FitsLife life process.threads process.pending
      by_life Live known =
          let within = subst (λ (l : Life). field.is_thread_count l (length (each thread_image (map.entries process.threads))) ≡ true) known one.fits.thread_count.1 in
          let (least, most) = and_true (nat_le 1 (length (each thread_image (map.entries process.threads)))) (nat_le (length (each thread_image (map.entries process.threads))) 64) within in
          let low = at_most 1 (length (each thread_image (map.entries process.threads))) least in
          let high = at_most (length (each thread_image (map.entries process.threads))) 64 most in
          let same = count in
          (omega (arith, same, low), omega (arith, same, high))
      by_life (Zombie status) known =
          let none = equal_numbers (length (each thread_image (map.entries process.threads))) 0 (subst (λ (l : Life). field.is_thread_count l (length (each thread_image (map.entries process.threads))) ≡ true) known one.fits.thread_count.1) in
          let quiet = (and_true (field.is_signals process.pending) (process.pending == 0) (subst (λ (l : Life). field.is_pending_set l process.pending ≡ true) known one.fits.pending.1)).1 in
          (count ∙ none, equal_numbers process.pending 0 quiet)

  process_is : (p : VPid) (process : Process) → map.get k.processes p ≡ Some process → IsProcess s.next_id p process
  process_is p process there =
      let one = listed p process there in
      let number = (and_true (is_above_and p process one) _ one.fits.number.1).0 in
      record {
        number = given_out s.next_id p.0 (and_true (above_of p process one) (field.is_given_out s.next_id p.0) number).1;
        pending = below process.pending (2 ^ 31) (and_true (field.is_signals process.pending) _ one.fits.pending.1).0;
        life = life_fits p process one;
        threads = λ t signals found.
            let (front, split, fits) = threads_of p process one t signals found in
            let (first, other) = and_true (thread_above front t && field.is_given_out s.next_id t) _ fits.number.1 in
            (given_out s.next_id t (and_true (thread_above front t) (field.is_given_out s.next_id t) first).1, below signals (2 ^ 31) fits.pending.1);
      }
    where
      above_of : (p : VPid) (process : Process) → IsListed p process → Bool
      above_of p process one = is_above (field.last_process (each (process_image k) one.before)) p.0

      is_above_and : (p : VPid) (process : Process) → IsListed p process → Bool
      is_above_and p process one = is_above (field.last_process (each (process_image k) one.before)) p.0 && field.is_given_out s.next_id p.0

      thread_above : List (ℕ × ℕ) → ℕ → Bool
      thread_above front t = is_above (field.last_thread (each thread_image front)) t

  -- no other process has a thread of a process's number, and no later process a thread of this number
  pid_free : (p q : VPid) (process other : Process) → map.get k.processes p ≡ Some process → map.get k.processes q ≡ Some other → vpid_cmp q p ≡ Less → has_thread_in p.0 (map.get k.processes q) ≡ true → ⊥
  pid_free p q process other there known less has =
      let one = listed p process there in
      let none = (and_true (is_above (field.last_process (each (process_image k) one.before)) p.0 && field.is_given_out s.next_id p.0) (not (list_any (field.lists_thread p.0) (each (process_image k) one.before))) one.fits.number.1).1 in
      refused (list_any (field.lists_thread p.0) (each (process_image k) one.before)) none
      (some_before vpid_total vpid_exact (process_image k) (field.lists_thread p.0) one.before q other (one.split.below q other known less) (lists p.0 q other known has))

  thread_free : (p q : VPid) (t : ℕ) (process other : Process) → map.get k.processes p ≡ Some process → map.get k.processes q ≡ Some other → vpid_cmp q p ≡ Less → has_thread_in t (map.get k.processes p) ≡ true
      → (q.0 ≡ t) ⊎ (has_thread_in t (map.get k.processes q) ≡ true) → ⊥
  thread_free p q t process other there known less has taken =
      let one = listed p process there in
      let (signals, found) = found_at nat_cmp_total nat_cmp-IsAntisymmetric process.threads t (sym (ap (has_thread_in t) there) ∙ has) in
      let (front, split, fits) = threads_of p process one t signals found in
      let none = (and_true (is_above (field.last_thread (each thread_image front)) t && field.is_given_out s.next_id t) (not (list_any (field.is_number_of t) (each (process_image k) one.before))) fits.number.1).1 in
      refused (list_any (field.is_number_of t) (each (process_image k) one.before)) none
      (some_before vpid_total vpid_exact (process_image k) (field.is_number_of t) one.before q other (one.split.below q other known less)
      (⊎_elim
      (λ (same : q.0 ≡ t). ap (λ n. (n == t) || field.lists_thread t (process_image k (q, other))) same ∙ ap (λ b. b || field.lists_thread t (process_image k (q, other))) (same_number t))
      (λ threads. or_later (q.0 == t) _ (lists t q other known threads))
      taken))

  thread_there : (p : VPid) (t : ℕ) → has_thread_in t (map.get k.processes p) ≡ true → (process : Process) × (map.get k.processes p ≡ Some process)
  thread_there p t has = by_found (map.get k.processes p) refl has
    where
      by_found : (found : Option Process) → map.get k.processes p ≡ found → has_thread_in t found ≡ true → (process : Process) × (map.get k.processes p ≡ Some process)
      by_found None known has = true_false (sym has)
      by_found (Some process) known has = (process, known)

  threads_apart : (p q : VPid) (t : ℕ) → has_thread_in t (map.get k.processes p) ≡ true → has_thread_in t (map.get k.processes q) ≡ true → p ≡ q
  threads_apart p q t has also =
      let (process, there) = thread_there p t has in
      let (other, known) = thread_there q t also in
      ⊎_elim
      (λ less. absurd (thread_free q p t other process known there less also (inr has)))
      (λ rest. ⊎_elim (λ same. same) (λ less. absurd (thread_free p q t process other there known less has (inr also))) rest)
      (ordered p q)

  own_number : (p q : VPid) → has_thread_in q.0 (map.get k.processes p) ≡ true → is_some (map.get k.processes q) ≡ true → p ≡ q
  own_number p q has some =
      let (process, there) = thread_there p q.0 has in
      let (other, known) = found_at vpid_total vpid_exact k.processes q some in
      ⊎_elim
      (λ less. absurd (pid_free q p other process known there less has))
      (λ rest. ⊎_elim (λ same. same) (λ less. absurd (thread_free p q q.0 process other there known less has (inl refl))) rest)
      (ordered p q)

  pub processes_are : AreProcesses s.next_id k.processes
  processes_are = record {
    count =
        let same : length images ≡ length s.processes = ap length processes_back in
        let all = map.len-entries k.processes in
        let listed_all = length-map (map.entries k.processes) (process_image k) in
        let few = few_processes (length s.processes) is.fields.process_count.1 in
        omega (arith, same, all, listed_all, few);
    each = process_is;
    threads_apart = threads_apart;
    own_number = own_number;
  }

  -- makers
  same_keys : (p : VPid) (ps : List ProcessEntry) → is_some (map.find vpid_cmp p (each maker_entry ps)) ≡ is_some (map.find vpid_cmp p (each process_entry ps))
  same_keys p [] = refl
  same_keys p (e ∷ ps) = by_test (eq_by_cmp vpid_cmp p e.pid) (same_keys p ps)
    where
      by_test : (b : Bool) → is_some (map.find vpid_cmp p (each maker_entry ps)) ≡ is_some (map.find vpid_cmp p (each process_entry ps))
          → is_some (cond b (Some (maker_entry e).1) (map.find vpid_cmp p (each maker_entry ps))) ≡ is_some (cond b (Some (process_entry e).1) (map.find vpid_cmp p (each process_entry ps)))
      by_test true rest = refl
      by_test false rest = rest

  same_makers : (p : VPid) → is_some (map.get k.makers p) ≡ is_some (map.get k.processes p)
  unfolding kernel_of
  same_makers p =
      ap is_some (map.get-from_entries vpid_total (each maker_entry s.processes) p) ∙ same_keys p s.processes ∙ sym (ap is_some (map.get-from_entries vpid_total (each process_entry s.processes) p))

  maker_there : (p : VPid) (process : Process) → map.get k.processes p ≡ Some process → map.get k.makers p ≡ Some (maker_or (map.get k.makers p))
  maker_there p process there =
      let (maker, known) = found_at vpid_total vpid_exact k.makers p (same_makers p ∙ ap is_some there) in
      known ∙ (λ i. Some (maker_or (sym known i)))

  pub makers_are : AreMakers k.processes k.makers
  makers_are = record {
    same = same_makers;
    hosts = λ p maker found. (of_process p maker found).0;
    counts = λ p maker found. (of_process p maker found).1;
  }
    where
      of_process : (p : VPid) (maker : Maker) → map.get k.makers p ≡ Some maker → (maker.host < 16) × (maker.made < 2 ^ 32)
      of_process p maker found =
          let (process, there) = found_at vpid_total vpid_exact k.processes p (sym (same_makers p) ∙ ap is_some found) in
          let fits = (listed p process there).fits in
          let known : maker_or (map.get k.makers p) ≡ maker = ap maker_or found in
          subst (λ (m : Maker). (m.host < 16) × (m.made < 2 ^ 32)) known (below (maker_or (map.get k.makers p)).host 16 fits.host.1, let word = fits.made.0 in omega (arith, word))

  pub same_hosts : (p q : VPid) (process other : Process) → map.get k.processes p ≡ Some process → map.get k.processes q ≡ Some other
      → ((maker_or (map.get k.makers p)).host == (maker_or (map.get k.makers q)).host) ≡ true → same_host (map.get k.makers p) (map.get k.makers q) ≡ true
  same_hosts p q process other there known same =
      (λ i. same_host (maker_there p process there i) (maker_there q other known i)) ∙ same

  -- parents
  pub ends : HasEnds s
  ends = ends_of s is

  near_parents : list_all (whole.is_near_parent images) images ≡ true
  near_parents = subst (λ ps. list_all (whole.is_near_parent ps) ps ≡ true) (sym processes_back) ends.near

  pub live_there : (p : VPid) (process : Process) → map.get k.processes p ≡ Some process → lives process.life ≡ true → lives_in k.processes p ≡ true
  live_there p process there alive = ap is_live_process there ∙ alive

  parent_is : (p : VPid) (process : Process) → map.get k.processes p ≡ Some process → (one : IsListed p process) → list_any (field.is_live_entry process.parent) (each (process_image k) one.before) ≡ true
      → IsParent k.processes k.makers p process.parent
  parent_is p process there one some =
      let (q, other, before, test) = which_of_images vpid_total vpid_exact (process_image k) (field.is_live_entry process.parent) (IsBefore vpid_total vpid_exact k.processes p) one.before one.split.before some in
      let (same, alive) = and_true (q.0 == process.parent) (lives other.life) test in
      let number : q.0 ≡ process.parent = equal_numbers q.0 process.parent same in
      let to_pid : q ≡ pid process.parent = λ i. record { 0 = number i } in
      let less = below_number q.0 p.0 before.1 in
      let near = from_all vpid_total vpid_exact (process_image k) (whole.is_of_parents_host (process_image k (p, process))) k.processes
      (from_all vpid_total vpid_exact (process_image k) (whole.is_near_parent images) k.processes near_parents p process there) q other before.0 in
      let hosts = follows (process.parent == q.0) _ near (ap (λ n. process.parent == n) number ∙ same_number process.parent) in
      record {
        below = omega (arith, less, number);
        alive = subst (λ r. lives_in k.processes r ≡ true) to_pid (live_there q other before.0 alive);
        host = subst (λ r. same_host (map.get k.makers p) (map.get k.makers r) ≡ true) to_pid (same_hosts p q process other there before.0 hosts);
      }

  pub parents_are : AreParents k.processes k.makers
  parents_are = record { each = has_parent }
    where
      by_life : (p : VPid) (process : Process) → map.get k.processes p ≡ Some process → (one : IsListed p process) → (life : Life) → process.life ≡ life → HasParent k.processes k.makers p process.parent life
      by_life p process there one Live known = ⊎_elim
          (λ nobody. inl (equal_numbers process.parent 1 nobody))
          (λ some. inr (parent_is p process there one some))
          (or_either (process.parent == 1) (list_any (field.is_live_entry process.parent) (each (process_image k) one.before)) one.fits.parent.1)
      by_life p process there one (Zombie status) known =
          let state = subst (λ (l : Life). field.is_state s.channels s.descriptions p.0 process.parent (maker_or (map.get k.makers p)).made (state_of l) ≡ true) known one.fits.life.state.1 in
          let somebody = (and_true (nat_le 1 field.LAST_STATE) (not (process.parent == 1)) state).1 in
          let word = subst (λ (l : Life). status_of l < 2 ^ 32) known (let small = one.fits.life.status.0 in omega (arith, small)) in
          ⊎_elim
          (λ nobody. absurd (refused (process.parent == 1) somebody nobody))
          (λ some. (parent_is p process there one some, word))
          (or_either (process.parent == 1) (list_any (field.is_live_entry process.parent) (each (process_image k) one.before)) one.fits.parent.1)

      has_parent : (p : VPid) (process : Process) → map.get k.processes p ≡ Some process → HasParent k.processes k.makers p process.parent process.life
      has_parent p process there = by_life p process there (listed p process there) process.life refl
