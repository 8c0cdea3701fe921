-- The parts of the processes that live.
--     living_is       they are these, if each look-up says so
--     one_ended       one process has ended, and the others live as before
use Rattle.std.proofs.Common.{◌≡◌, ◌≢◌, Bool, true, false, cond, Option, Some, None, inl, inr, refl, sym, ap, ◌∙◌}
use Rattle.std.specs.Prelude.{◌⊎◌, is_some}
use Rattle.std.specs.FinMap as map
use Rattle.views.proofs.MapLaws.{same_or_other, get-retain, get_remove_same, get_remove_other}
use Rattle.sys_abi.specs.declared.identity.VPid.{VPid}
use Rattle.sys_abi.proofs.OrderLaws.{vpid_total, vpid_exact}
use Rattle.plain_machine.specs.declared.kernel.PlainKernel.{PlainKernel}
use Rattle.plain_machine.specs.Kernel.{is_live}
use Rattle.plain_machine.specs.Records.{Users}

pub kept_if : {X : Type 0} (b : Bool) (o : Option X) → b ≡ is_some o → cond b o None ≡ o
kept_if true o is = refl
kept_if false None is = refl
kept_if false (Some x) is = let no : false ≡ true = is in absurd (cc)

pub gone_if : {X : Type 0} (b : Bool) (o : Option X) → b ≡ false → cond b o None ≡ None
gone_if b o is = ap (λ x. cond x o None) is

pub living_is : (k : PlainKernel) (users left : Users) → ((q : VPid) → cond (is_live k q) (map.get users q) None ≡ map.get left q) → map.retain_keys users (is_live k) ≡ left
living_is k users left each = map.same_map vpid_total vpid_exact _ _ (λ q. get-retain vpid_total vpid_exact users (is_live k) q ∙ each q)

module _ (k : PlainKernel) (users : Users) (p : VPid) (gone : is_live k p ≡ false) (others : (q : VPid) → q ≢ p → is_live k q ≡ is_some (map.get users q)) where
  each_is : (q : VPid) → (q ≡ p) ⊎ (q ≢ p) → cond (is_live k q) (map.get users q) None ≡ map.get (map.remove users p) q
  each_is q (inl here) =
      gone_if (is_live k q) (map.get users q) (ap (is_live k) here ∙ gone) ∙ sym (ap (map.get (map.remove users p)) here ∙ get_remove_same vpid_total vpid_exact users p)
  each_is q (inr other) = kept_if (is_live k q) (map.get users q) (others q other) ∙ sym (get_remove_other vpid_total vpid_exact users p q other)

  pub one_ended : map.retain_keys users (is_live k) ≡ map.remove users p
  one_ended = living_is k users (map.remove users p) (λ q. each_is q (same_or_other vpid_total vpid_exact q p))
