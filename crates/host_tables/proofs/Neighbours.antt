-- Processes of one host, through the pairs.
--     there_by                       a process that lives is there
--     neighbours_node                two of one host are of one node
--     neighbour_some, neighbour_none whether the process of the caller's host that has a number lives
--     neighbour_host                 it is of the host
use Rattle.std.proofs.Common.{◌≡◌, ℕ, Bool, true, false, ◌&&◌, Option, Some, None, refl, sym, ap, ◌∙◌}
use Rattle.std.specs.Prelude.{IsSome, if◌then◌else◌}
use Rattle.std.specs.FinMap as map
use Rattle.std.proofs.lemmas.Option.{none-some}
use Rattle.std.proofs.lemmas.Bool.{eqb-true}
use Rattle.views.proofs.MapLaws.{true_false}
use Rattle.sys_abi.specs.declared.maker.Maker.{Maker}
use Rattle.sys_abi.specs.declared.identity.VPid.{VPid}
use Rattle.sys_abi.specs.declared.identity.RealPid.{RealPid}
use Rattle.proc_book.specs.Ends.{is_live_at}
use Rattle.plain_machine.specs.OfPlainTables.declared.process.Process.{Process}
use Rattle.plain_machine.specs.OfPlainTables.Tables.{pid, same_host, is_live_process}
use Rattle.plain_machine.specs.declared.kernel.PlainKernel.{PlainKernel}
use Rattle.plain_machine.specs.Kernel.{is_live, is_neighbour}
use Rattle.host_tables.specs.declared.kernel.Kernel.{Kernel}
use Rattle.host_tables.specs.Numbers.{node_of}
use Rattle.host_tables.specs.Requests.{neighbour_of}
use Rattle.host_tables.specs.Stands.{Given, Stands}
use Rattle.host_tables.proofs.LookUps.{lives_of}

pub record AreTogether (a b : Option Maker) : Type 0 where
  pub first : Maker
  pub second : Maker
  pub first_is : a ≡ Some first
  pub second_is : b ≡ Some second
  pub host : first.host ≡ second.host

pub together_by : (a b : Option Maker) → same_host a b ≡ true → AreTogether a b
together_by None b e = true_false (sym e)
together_by (Some m) None e = true_false (sym e)
together_by (Some m) (Some n) e =
    record { first = m; second = n; first_is = refl; second_is = refl; host = eqb-true m.host n.host e }

pub there_by : (o : Option Process) → is_live_process o ≡ true → (x : Process) × (o ≡ Some x)
there_by None e = true_false (sym e)
there_by (Some x) e = (x, refl)

and_true : (a : Bool) → (a && true) ≡ a
and_true true = refl
and_true false = refl

and_false : (a : Bool) → (a && false) ≡ false
and_false true = refl
and_false false = refl

module _ (g : Given) (real : Kernel) (k : PlainKernel) (st : Stands g None real k) where
  pub neighbours_node : (p q : VPid) (r s : RealPid) (x y : Process) → map.get k.processes p ≡ Some x
      → map.get k.processes q ≡ Some y → same_host (map.get k.makers p) (map.get k.makers q) ≡ true
      → map.get g.pids p.0 ≡ Some r → map.get g.pids q.0 ≡ Some s → s.node ≡ r.node
  neighbours_node p q r s x y there_p there_q same to_r to_s =
      let both = together_by (map.get k.makers p) (map.get k.makers q) same in
      st.numbered.node q y both.second s there_q both.second_is to_s
      ∙ ap (node_of real.nodes) (sym both.host)
      ∙ sym (st.numbered.node p x both.first r there_p both.first_is to_r)

  module _ (p : VPid) (number : ℕ) where
    abbrev together : Bool
    together = same_host (map.get k.makers p) (map.get k.makers (pid number))

    abbrev named : Bool → Option RealPid
    named b = if b then map.get g.pids number else None

    some_by : (t : RealPid) (b : Bool) → together ≡ b → Some t ≡ named b
        → (map.get g.pids number ≡ Some t) × (is_neighbour k p number ≡ is_live_at real.procs.processes t)
    unfolding is_neighbour
    some_by t true is e = (
      sym e,
      ap (λ b. is_live k (pid number) && b) is ∙ and_true (is_live k (pid number))
          ∙ lives_of g real k st (pid number) t (sym e),
    )
    some_by t false is e = absurd (none-some t (sym e))

    pub neighbour_some : (t : RealPid) → Some t ≡ neighbour_of g.pids k p number
        → (map.get g.pids number ≡ Some t) × (is_neighbour k p number ≡ is_live_at real.procs.processes t)
    neighbour_some t e = some_by t together refl e

    not_live : None ≡ map.get g.pids number → (o : Option Process) → map.get k.processes (pid number) ≡ o
        → is_live_process o ≡ false
    not_live none None is = refl
    not_live none (Some x) is =
        no_pair (map.get g.pids number) (sym none) (st.numbered.process (pid number) x is)
      where
        no_pair : (o : Option RealPid) → o ≡ None → IsSome o → is_live_process (Some x) ≡ false
        no_pair None e some = true_false (sym some)
        no_pair (Some r) e some = absurd (none-some r (sym e))

    none_by : (b : Bool) → together ≡ b → None ≡ named b → is_neighbour k p number ≡ false
    unfolding is_neighbour is_live
    none_by true is e =
        ap (λ b. is_live k (pid number) && b) is ∙ and_true (is_live k (pid number))
        ∙ not_live e (map.get k.processes (pid number)) refl
    none_by false is e =
        ap (λ b. is_live k (pid number) && b) is ∙ and_false (is_live k (pid number))

    pub neighbour_none : None ≡ neighbour_of g.pids k p number → is_neighbour k p number ≡ false
    neighbour_none e = none_by together refl e

    -- the caller's host has the process that was named
    host_by : (t : RealPid) (b : Bool) → together ≡ b → Some t ≡ named b → together ≡ true
    host_by t true is e = is
    host_by t false is e = absurd (none-some t (sym e))

    pub neighbour_host : (t : RealPid) → Some t ≡ neighbour_of g.pids k p number
        → same_host (map.get k.makers p) (map.get k.makers (pid number)) ≡ true
    neighbour_host t e = host_by t together refl e
