-- The voters, listed one after the other.
--     AreListed processes virts voters above      the live processes that do not come after the last one
--                                                 are listed
--     listed_begun, listed_on, listed_fewer, listed_done
use Rattle.std.proofs.Common.{◌≡◌, ◌<◌, ℕ, Bool, true, false, inl, inr, refl, sym, ap, ◌∙◌}
use Rattle.std.specs.Prelude.{Option, Some, None, find}
use Rattle.std.specs.Option.{option_map_or}
use Rattle.std.specs.FinMap as map
use Rattle.std.proofs.lemmas.Option.{same_Some, none-some}
use Rattle.views.proofs.MapLaws.{true_false, same_or_other, get_insert_same, get_insert_other}
use Rattle.sys_abi.specs.declared.identity.VPid.{VPid}
use Rattle.sys_abi.specs.declared.identity.RealPid.{RealPid}
use Rattle.sys_abi.proofs.OrderLaws.{vpid_total, vpid_exact, real_pid_total, real_pid_exact}
use Rattle.sys_abi.specs.Orders.{vpid_cmp}
use Rattle.proc_book.specs.declared.process.Process.{Process}
use Rattle.proc_book.specs.Ends.{Processes, is_live_at}
use Rattle.proc_book.specs.Processes.{is_live}
use Rattle.proc_book.specs.Procs.{is_above}
use Rattle.leader_vote.specs.Voters.{Voters, Virts, voter, voter_by, with_voter, HasVoters}
use Rattle.leader_vote.proofs.Walks.{count_of, next_is, walked, none_left, fewer_left}

abbrev pub IsLiveOne : Processes → Virts → VPid → Type 0
IsLiveOne processes virts p =
    (r : RealPid) × ((is_live_at processes r ≡ true) × (map.get virts r ≡ Some p.0))

pub record AreListed (processes : Processes) (virts : Virts) (voters : Voters) (above : Option RealPid) :
    Type 0 where
  pub right : (p : VPid) (voted : Bool) → map.get voters p ≡ Some voted
      → (voted ≡ false) × IsLiveOne processes virts p
  pub passed : (r : RealPid) (v : ℕ) → is_live_at processes r ≡ true → map.get virts r ≡ Some v
      → is_above above r ≡ false → map.get voters (voter v) ≡ Some false

pub listed_begun : (processes : Processes) (virts : Virts) → AreListed processes virts map.empty None
listed_begun processes virts = record {
  right = λ p voted is. absurd (none-some voted (sym (map.get-empty vpid_cmp p) ∙ is));
  passed = λ r v live paired behind. true_false behind;
}

-- a live process is there
live_there : (processes : Processes) (r : RealPid) → is_live_at processes r ≡ true
    → (x : Process) × (map.get processes r ≡ Some x)
live_there processes r live = by_found (map.get processes r) live
  where
    by_found : (found : Option Process) → option_map_or is_live found false ≡ true
        → (x : Process) × (found ≡ Some x)
    by_found None is = true_false (sym is)
    by_found (Some x) is = (x, refl)

module _ (processes : Processes) (virts : Virts) (voters : Voters) (above : Option RealPid) (id : RealPid)
    (next : find (is_above above) (map.keys processes) ≡ Some id)
    (listed : AreListed processes virts voters above) where
  passed_by : (voters' : Voters)
      → ((v : ℕ) → is_live_at processes id ≡ true → map.get virts id ≡ Some v
      → map.get voters' (voter v) ≡ Some false)
      → ((p : VPid) → map.get voters p ≡ Some false → map.get voters' p ≡ Some false)
      → (r : RealPid) (v : ℕ) → is_live_at processes r ≡ true → map.get virts r ≡ Some v
      → is_above (Some id) r ≡ false → map.get voters' (voter v) ≡ Some false
  passed_by voters' this keeps r v live paired behind =
      let x = live_there processes r live in
      elim (walked real_pid_total real_pid_exact processes is_above (λ k. refl) (λ a k. refl) above id r
      x.0 next x.1 behind) [
        | inl same ↦ this v (ap (is_live_at processes) (sym same) ∙ live)
            (ap (map.get virts) (sym same) ∙ paired)
        | inr before ↦ keeps (voter v) (listed.passed r v live paired before)
      ]

  same_as : (found : Option ℕ) (live : Bool) → is_live_at processes id ≡ live → map.get virts id ≡ found
      → AreListed processes virts (voter_by live found voters) (Some id)
  same_as (Some v) true lives paired = record {
    right = λ p voted is. elim (same_or_other vpid_total vpid_exact p (voter v)) [
      | inl same ↦ (
        sym (same_Some false voted (sym (get_insert_same vpid_total vpid_exact voters (voter v) false)
            ∙ ap (map.get (map.insert voters (voter v) false)) (sym same) ∙ is)),
        (id, (lives, paired ∙ ap (λ (x : VPid). Some x.0) (sym same))),
      )
      | inr differ ↦
          listed.right p voted
          (sym (get_insert_other vpid_total vpid_exact voters (voter v) false p differ) ∙ is)
    ];
    passed = passed_by (map.insert voters (voter v) false)
        (λ w live is. ap (λ n. map.get (map.insert voters (voter v) false) (voter n))
        (same_Some w v (sym is ∙ paired))
        ∙ get_insert_same vpid_total vpid_exact voters (voter v) false)
        (λ p is. elim (same_or_other vpid_total vpid_exact p (voter v)) [
          | inl same ↦ ap (map.get (map.insert voters (voter v) false)) same
              ∙ get_insert_same vpid_total vpid_exact voters (voter v) false
          | inr differ ↦ get_insert_other vpid_total vpid_exact voters (voter v) false p differ ∙ is
        ]);
  }
  same_as None true lives paired = record {
    right = listed.right;
    passed = passed_by voters (λ v live is. absurd (none-some v (sym paired ∙ is))) (λ p is. is);
  }
  same_as found false lives paired = record {
    right = listed.right;
    passed = passed_by voters (λ v live is. true_false (sym live ∙ lives)) (λ p is. is);
  }

  pub listed_on : AreListed processes virts (with_voter processes virts voters id) (Some id)
  listed_on = same_as (map.get virts id) (is_live_at processes id) refl refl

  pub listed_fewer : count_of (is_above (Some id)) (map.keys processes)
      < count_of (is_above above) (map.keys processes)
  listed_fewer =
      let is = next_is real_pid_total real_pid_exact processes is_above (λ k. refl) (λ a k. refl) above id
      next in
      fewer_left real_pid_total real_pid_exact processes is_above (λ k. refl) (λ a k. refl) above id is.0 is.1

pub listed_done : (processes : Processes) (virts : Virts) (voters : Voters) (above : Option RealPid)
    → find (is_above above) (map.keys processes) ≡ None → AreListed processes virts voters above
    → HasVoters processes virts voters
listed_done processes virts voters above none listed = record {
  live = λ r v lives paired.
      let x = live_there processes r lives in
      listed.passed r v lives paired
      (none_left real_pid_total real_pid_exact processes is_above (λ k. refl) (λ a k. refl) above r x.0
      none x.1);
  only = λ p voted is. (listed.right p voted is).1;
}
