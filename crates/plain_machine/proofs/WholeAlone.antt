-- A kernel part whose processes and descriptors are in order, and where the console is all that is open, is whole.
--     OnlyConsoles k      alone_is_whole
use Rattle.std.proofs.Common.{◌≡◌, ◌≢◌, ℕ, ◌^◌, ◌<◌, ◌≤◌, Bool, true, false, List, length, refl, sym, ap, subst, ◌∙◌, inl, inr, arith, ⊎_elim}
use Rattle.std.specs.Prelude.{◌⊎◌, ◌==◌, ◌&&◌, nat_lt, sum_by, Option, Some, None, is_some}
use Rattle.std.specs.Ordering.{nat_cmp}
use Rattle.std.specs.declared.cmp.Ordering.{Ordering}
use Rattle.std.specs.Cmp.{IsTotalOrder}
use Rattle.std.specs.FinMap as map
use Rattle.std.proofs.lemmas.Bool.Decides.{nat_tests}
use Rattle.plain_tables.proofs.OfViews.MapLaws.{get_insert_same, get_insert_other, same_or_other, true_false}
use Rattle.plain_tables.proofs.OfViews.MapValues.{none_among-values}
use Rattle.plain_tables.specs.OfSysAbi.declared.identity.VPid.{VPid}
use Rattle.plain_tables.specs.OfSysAbi.declared.identity.DescId.{DescId}
use Rattle.plain_tables.specs.OfSysAbi.declared.identity.ConnId.{ConnId}
use Rattle.plain_tables.specs.OfSysAbi.declared.identity.VirtAddr.{VirtAddr}
use Rattle.plain_tables.specs.OfSysAbi.declared.life.Life.{Life}
use Rattle.plain_tables.specs.OfSysAbi.declared.life.Life.TheVariants.{Live, Zombie}
use Rattle.plain_tables.specs.OfSysAbi.Lives.{lives}
use Rattle.plain_tables.specs.OfSysAbi.Orders.{vpid_cmp, desc_cmp, conn_cmp, dir_cmp, address_cmp}
use Rattle.plain_tables.specs.OfSysAbi.Names.{name_cmp}
use Rattle.plain_tables.proofs.OfSysAbi.OrderLaws.{vpid_total, vpid_exact, desc_total, desc_exact}
use Rattle.plain_tables.specs.OfPlainProcess.Valid.{Each}
use Rattle.plain_machine.specs.declared.kernel.PlainKernel.{PlainKernel}
use Rattle.plain_tables.specs.declared.process.Process.{Process}
use Rattle.plain_tables.specs.OfSysAbi.declared.maker.Maker.{Maker}
use Rattle.plain_tables.specs.declared.description.Description.{Description}
use Rattle.plain_tables.specs.declared.description.Object.{Object}
use Rattle.plain_tables.specs.declared.description.Object.TheVariants.{Console}
use Rattle.plain_tables.specs.declared.channel.Channel.{Channel}
use Rattle.plain_tables.specs.Tables.{NOBODY, Processes, Makers, pid, is_live_process, lives_in, has_thread_in, same_host, is_held}
use Rattle.plain_tables.specs.Objects.{bound_at, host_of_object, is_end, is_listener_at, is_datagram, knows}
use Rattle.plain_tables.specs.Valid.Processes.{AreNumbers, AreProcesses, AreMakers, AreParents}
use Rattle.plain_tables.specs.Valid.Files.{IsOpenFile}
use Rattle.plain_tables.specs.Valid.Descriptions.{AreDescriptors, AreDescriptions, AreHolders, IsMade, HasMadePeer}
use Rattle.plain_tables.specs.Valid.Channels.{IsStream}
use Rattle.plain_tables.specs.Valid.Sockets.{IsAddressed}
use Rattle.plain_tables.specs.Valid.Datagrams.{IsCounter, is_datagram_in}
use Rattle.plain_machine.specs.Kernels.{IsKernel}
use Rattle.plain_tables.proofs.Entries.{len_with}
use Rattle.plain_tables.proofs.FileSums.{sum_none}

-- what is asked of the processes and of what they hold, where everything that is open is the console
pub record OnlyConsoles (k : PlainKernel) : Type 0 where
  pub numbers : AreNumbers k.next_id k.next_file
  pub processes_are : AreProcesses k.next_id k.processes
  pub makers_are : AreMakers k.processes k.makers
  pub parents_are : AreParents k.processes k.makers
  pub descriptors_are : AreDescriptors k.processes k.descriptions k.descriptors
  pub descriptions_are : AreDescriptions k.descriptors k.descriptions
  pub holders_are : AreHolders k.processes k.makers k.descriptors k.descriptions
  pub opened : Each k.descriptions (λ d description. IsMade k.next_id k.processes k.makers d.pid d.num)
  pub consoles : Each k.descriptions (λ d description. description.object ≡ Console)
  pub names : k.names ≡ map.empty
  pub files : k.files ≡ map.empty
  pub channels : k.channels ≡ map.empty
  pub directions : k.directions ≡ map.empty
  pub listeners : k.listeners ≡ map.empty
  pub inboxes : k.inboxes ≡ map.empty

-- a map of nothing
module _ {K X : Type 0} {R : K → K → Ordering} (m : map.FinMap R X) where
  none_in : m ≡ map.empty → (q : K) → map.get m q ≡ None
  none_in is q = ap (λ (n : map.FinMap R X). map.get n q) is ∙ map.get-empty R q

  nothing : m ≡ map.empty → (q : K) (x : X) → map.get m q ≡ Some x → ⊥
  nothing is q x found = let none = none_in is q in cc

and_none : (b : Bool) → (b && false) ≡ false
and_none true = refl
and_none false = refl

module _ (k : PlainKernel) (is : OnlyConsoles k) where
  -- what holds of the console holds of each object
  of_console : (P : Object → Type 0) → P Console → Each k.descriptions (λ d x. P x.object)
  of_console P holds d x found = subst P (sym (is.consoles d x found)) holds

  -- a test that the console fails is true of no object
  no_object : (test : Object → Bool) → test Console ≡ false → (d : DescId) (x : Description) → map.get k.descriptions d ≡ Some x → test x.object ≡ false
  no_object test fails d x found = ap test (is.consoles d x found) ∙ fails

  datagrams : (d : DescId) (found : Option Description) → map.get k.descriptions d ≡ found → is_datagram_in found ≡ false
  datagrams d None none = refl
  datagrams d (Some x) found = no_object is_datagram refl d x found

  none_held : (test : Object → Bool) → test Console ≡ false → (d : DescId) (x : Description) {A : Type 0} → map.get k.descriptions d ≡ Some x → test x.object ≡ true → A
  none_held test fails d x found holds = true_false (sym holds ∙ no_object test fails d x found)

  pub alone_is_whole : IsKernel k
  alone_is_whole = record {
    numbers = is.numbers;
    processes = is.processes_are;
    makers = is.makers_are;
    parents = is.parents_are;
    files = record {
      count =
          let none = map.len-empty nat_cmp (List ℕ) in
          let same : map.len k.files ≡ map.len (map.empty {X = List ℕ} {R = nat_cmp}) = ap map.len is.files in
          omega arith;
      total =
          let same : sum_by length (map.values k.files) ≡ sum_by length (map.values (map.empty {X = List ℕ} {R = nat_cmp})) = ap (λ m. sum_by length (map.values m)) is.files in
          let none = sum_none in
          omega arith;
      numbers = λ n b found. absurd (nothing k.files is.files n b found);
      bytes = λ n b found. absurd (nothing k.files is.files n b found);
      named = λ a n found. absurd (nothing k.names is.names a n found);
      one_name = λ a b n found too. absurd (nothing k.names is.names a n found);
    };
    open_files = record {
      there = of_console (IsOpenFile k.files) tt;
      kept = λ n b found. absurd (nothing k.files is.files n b found);
    };
    descriptors = is.descriptors_are;
    descriptions = is.descriptions_are;
    holders = is.holders_are;
    made = record {
      opened = is.opened;
      peers = of_console (HasMadePeer k.next_id k.processes k.makers) tt;
      joined = λ c x found. absurd (nothing k.channels is.channels c x found);
    };
    channels = record {
      count =
          let none = map.len-empty conn_cmp Channel in
          let same : map.len k.channels ≡ map.len (map.empty {X = Channel} {R = conn_cmp}) = ap map.len is.channels in
          omega arith;
      sides = λ at. ap is_some (none_in k.directions is.directions at)
          ∙ sym (ap (λ found. nat_lt at.side 2 && is_some found) (none_in k.channels is.channels at.conn) ∙ and_none (nat_lt at.side 2));
      addresses = λ c x found. absurd (nothing k.channels is.channels c x found);
      open_end = λ c x found. absurd (nothing k.channels is.channels c x found);
      each = λ at x found. absurd (nothing k.directions is.directions at x found);
      pipes = λ c x direction found pipe too. absurd (nothing k.channels is.channels c x found);
      closed = λ c side x found low closed. absurd (nothing k.channels is.channels c x found);
    };
    streams = record {
      each = λ d x found. subst (IsStream k.channels x.flags) (sym (is.consoles d x found)) tt;
      once = λ d e x y c side found too ends also. none_held (is_end c side) refl d x found ends;
      apart = λ c has. true_false (sym has ∙ none_among-values desc_total desc_exact (λ (y : Description). is_end c 1 y.object) k.descriptions (no_object (is_end c 1) refl));
      opened = λ c x side found low. absurd (nothing k.channels is.channels c x found);
    };
    listeners = record {
      each = λ a x found. absurd (nothing k.listeners is.listeners a x found);
      described = λ a. ap is_some (none_in k.listeners is.listeners a)
          ∙ sym (none_among-values desc_total desc_exact (λ (y : Description). is_listener_at a y.object) k.descriptions (no_object (is_listener_at a) refl));
      apart = λ a b x y c found too queued also. absurd (nothing k.listeners is.listeners a x found);
    };
    addresses = record {
      each = of_console IsAddressed tt;
      apart = λ d e x y a found too at also. let none : bound_at x.object ≡ None = ap bound_at (is.consoles d x found) in absurd (cc);
    };
    hosts = record {
      held = λ a x description host found known on.
          let none : host_of_object k.channels description.object ≡ None = ap (host_of_object k.channels) (is.consoles x.desc description known) in absurd (cc);
      pending = λ a x c host found queued on. absurd (nothing k.listeners is.listeners a x found);
    };
    inboxes = record {
      same = λ d. ap is_some (none_in k.inboxes is.inboxes d) ∙ sym (datagrams d (map.get k.descriptions d) refl);
      other = λ d x found. no_object (knows d) refl d x found;
      paired = λ d e x y found too ends. none_held (knows e) refl d x found ends;
      once = λ d e peer x y found too ends also. none_held (knows peer) refl d x found ends;
      messages = λ d x found. absurd (nothing k.inboxes is.inboxes d x found);
    };
    counters = record { each = of_console IsCounter tt };
  }
