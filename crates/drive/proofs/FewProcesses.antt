-- A valid state has at most so many processes' own parts as there may be processes.
use Rattle.std.proofs.Common.{◌≡◌, ◌≤◌, Bool, true, false, cond, length, refl, sym, ap, ◌∙◌, arith}
use Rattle.std.specs.Prelude.{Option, Some, None, is_some, option_map}
use Rattle.std.specs.FinMap as map
use Rattle.std.proofs.lemmas.List.{length-map}
use Rattle.std.proofs.lemmas.List.Sums.{length-filter, count_by-le-length}
use Rattle.views.specs.Maps.{map_values, retain, option_filter}
use Rattle.views.proofs.MapValues.{keys-map_values, get-map_values, get-retained, entries-retain}
use Rattle.sys_abi.specs.declared.identity.VPid.{VPid}
use Rattle.sys_abi.proofs.OrderLaws.{vpid_total, vpid_exact}
use Rattle.plain_tables.specs.declared.process.Process.{Process}
use Rattle.plain_tables.specs.Tables.{Processes, is_live_process}
use Rattle.plain_machine.specs.declared.plain.Plain.{Plain}
use Rattle.plain_machine.specs.Kernel.{is_live}
use Rattle.plain_machine.specs.Valid.{IsValid}

one : {X : Type 0} → X → Unit {0}
one x = tt

same_presence : {X Y : Type 0} (a : Option X) (b : Option Y) → is_some a ≡ is_some b → option_map one a ≡ option_map one b
unfolding one
same_presence None None same = refl
same_presence None (Some y) same = cc
same_presence (Some x) None same = cc
same_presence (Some x) (Some y) same = refl

kept_if_live : (found : Option Process) → is_some (option_filter (λ process. is_live_process found) found) ≡ is_live_process found
kept_if_live None = refl
kept_if_live (Some process) = by (is_live_process (Some process))
  where
    by : (b : Bool) → is_some (cond b (Some process) None) ≡ b
    by true = refl
    by false = refl

module _ (g : Plain) (valid : IsValid g) where
  live : Processes
  live = retain (λ p process. is_live g.kernel p) g.kernel.processes

  live_at : (q : VPid) → is_some (map.get g.users q) ≡ is_some (map.get live q)
  unfolding live is_live
  live_at q = valid.alive q ∙ sym (ap is_some (get-retained vpid_total vpid_exact (λ p process. is_live g.kernel p) g.kernel.processes q) ∙ kept_if_live (map.get g.kernel.processes q))

  same_keys : map.keys g.users ≡ map.keys live
  same_keys =
      sym (keys-map_values one g.users)
      ∙ ap map.keys (map.same_map vpid_total vpid_exact (map_values one g.users) (map_values one live)
      (λ q. get-map_values one g.users q ∙ same_presence (map.get g.users q) (map.get live q) (live_at q) ∙ sym (get-map_values one live q)))
      ∙ keys-map_values one live

  few_live : length (map.entries live) ≤ length (map.entries g.kernel.processes)
  unfolding live
  few_live =
      let kept = entries-retain (λ p process. is_live g.kernel p) g.kernel.processes in
      let counted = length-filter (λ (e : VPid × Process). is_live g.kernel e.0) (map.entries g.kernel.processes) in
      let most = count_by-le-length (λ (e : VPid × Process). is_live g.kernel e.0) (map.entries g.kernel.processes) in
      let same = ap length kept ∙ counted in
      omega arith

  pub few_parts : length (map.keys g.users) ≤ 128
  few_parts =
      let keys = ap length same_keys ∙ length-map (map.entries live) (λ e. e.0) in
      let size = map.len-entries g.kernel.processes in
      let few = valid.kernel.processes.count in
      let less = few_live in
      omega arith
