-- Makers that go on having their hosts keep the numbers of processes in order.
--     SameHosts makers' makers      each maker is of the host that it was of
--     AreNumbered-makers            numbers are still those of their hosts
--     made_kept                     a process has made more
use Rattle.std.proofs.Common.{◌≡◌, ℕ, Bool, false, Option, Some, None, inl, inr, refl, sym, ap, ◌∙◌}
use Rattle.std.specs.Prelude.{List, option_map, ◌==◌}
use Rattle.std.specs.FinMap as map
use Rattle.std.proofs.lemmas.Option.{same_Some, none-some}
use Rattle.views.proofs.MapLaws.{same_or_other, get_insert_same, get_insert_other}
use Rattle.sys_abi.specs.declared.identity.VPid.{VPid}
use Rattle.sys_abi.specs.declared.maker.Maker.{Maker}
use Rattle.sys_abi.proofs.OrderLaws.{vpid_total, vpid_exact}
use Rattle.plain_machine.specs.OfPlainTables.Tables.{Processes, Makers, same_host, made_more, changed_at, changed_by}
use Rattle.plain_machine.specs.declared.kernel.PlainKernel.{PlainKernel}
use Rattle.plain_machine.specs.Kernel.{numbered}
use Rattle.host_tables.specs.declared.kernel.Kernel.{Kernel}
use Rattle.host_tables.specs.Numbers.{Pids, node_of, AreNumbered}
use Rattle.host_tables.specs.Descriptions.{Stage}
use Rattle.host_tables.specs.Stands.{Given, Stands}
use Rattle.host_tables.proofs.Frames.{makers_kept}

abbrev pub host_in : Option Maker → Option ℕ
host_in o = option_map (λ (m : Maker). m.host) o

abbrev pub SameHosts : Makers → Makers → Type 0
SameHosts makers' makers = (q : VPid) → host_in (map.get makers' q) ≡ host_in (map.get makers q)

abbrev hosts_same : Option ℕ → Option ℕ → Bool
hosts_same (Some a) (Some b) = a == b
hosts_same _ _ = false

by_hosts : (a b : Option Maker) → same_host a b ≡ hosts_same (host_in a) (host_in b)
by_hosts None None = refl
by_hosts None (Some y) = refl
by_hosts (Some x) None = refl
by_hosts (Some x) (Some y) = refl

pub same_host_by : (a b a' b' : Option Maker) → host_in a' ≡ host_in a → host_in b' ≡ host_in b
    → same_host a' b' ≡ same_host a b
same_host_by a b a' b' e f = by_hosts a' b' ∙ (λ i. hosts_same (e i) (f i)) ∙ sym (by_hosts a b)

-- the maker that was there
maker_was : (o : Option Maker) (m : Maker) → Some m.host ≡ host_in o
    → (n : Maker) × ((o ≡ Some n) × (n.host ≡ m.host))
maker_was None m e = absurd (none-some m.host (sym e))
maker_was (Some n) m e = (n, (refl, same_Some n.host m.host (sym e)))

module _ (nodes : List ℕ) (pids : Pids) (processes : Processes) (makers makers' : Makers)
    (are : AreNumbered nodes pids processes makers) (same : SameHosts makers' makers) where
  pub AreNumbered-makers : AreNumbered nodes pids processes makers'
  AreNumbered-makers = record {
    process = are.process;
    thread = are.thread;
    node = λ p x m r is made leads.
        let was = maker_was (map.get makers p) m (sym (ap host_in made) ∙ same p) in
        are.node p x was.0 r is was.1.0 leads ∙ ap (node_of nodes) was.1.1;
    thread_node = are.thread_node;
    order = λ p q r s at_p at_q on leads_p leads_q less.
        are.order p q r s at_p at_q
        (sym (same_host_by (map.get makers p) (map.get makers q) (map.get makers' p) (map.get makers' q)
        (same p) (same q)) ∙ on) leads_p leads_q less;
  }

-- a process has made more

module _ (makers : Makers) (p : VPid) (n : ℕ) where
  more_by : (o : Option Maker) → map.get makers p ≡ o → SameHosts (changed_by makers p (made_more n) o) makers
  more_by None is q = refl
  more_by (Some m) is q = elim (same_or_other vpid_total vpid_exact q p) [
    | inl here ↦
        ap (λ x. host_in (map.get (map.insert makers p (made_more n m)) x)) here
        ∙ ap host_in (get_insert_same vpid_total vpid_exact makers p (made_more n m))
        ∙ sym (ap host_in (ap (map.get makers) here ∙ is))
    | inr differ ↦ ap host_in (get_insert_other vpid_total vpid_exact makers p (made_more n m) q differ)
  ]

  pub made_hosts : SameHosts (changed_at makers p (made_more n)) makers
  made_hosts = more_by (map.get makers p) refl

pub made_kept : (g : Given) (held : Option Stage) (real : Kernel) (k : PlainKernel) → Stands g held real k
    → (p : VPid) (n : ℕ) → Stands g held real (numbered k p n)
made_kept g held real k st p n =
    makers_kept g held real k st (changed_at k.makers p (made_more n))
    (AreNumbered-makers real.nodes g.pids k.processes k.makers (changed_at k.makers p (made_more n)) st.numbered
    (made_hosts k.makers p n))
