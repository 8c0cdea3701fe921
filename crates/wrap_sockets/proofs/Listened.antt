-- A listener that changes is still there, and so are the others.
--     still_listened
use Rattle.std.proofs.Common.{Option, Some, None, inl, inr, ap, ◌∙◌}
use Rattle.std.specs.Prelude.{IsSome, is_some}
use Rattle.std.specs.FinMap as map
use Rattle.views.proofs.MapLaws.{same_or_other, get_insert_same, get_insert_other}
use Rattle.sys_abi.specs.declared.identity.VirtAddr.{VirtAddr}
use Rattle.sys_abi.proofs.OrderLaws.{address_total, address_exact}
use Rattle.plain_tables.specs.declared.channel.Listening.{Listening}
use Rattle.plain_tables.specs.Tables.{Listeners, changed_by, changed_at}

module _ (m : Listeners) (a : VirtAddr) (change : Listening → Listening) where
  by_there : (o : Option Listening) (b : VirtAddr) → IsSome (map.get m b)
      → IsSome (map.get (changed_by m a change o) b)
  by_there None b is = is
  by_there (Some l) b is = elim (same_or_other address_total address_exact b a) [
    | inl here ↦
        ap is_some (ap (map.get (map.insert m a (change l))) here
        ∙ get_insert_same address_total address_exact m a (change l))
    | inr differ ↦ ap is_some (get_insert_other address_total address_exact m a (change l) b differ) ∙ is
  ]

  pub still_listened : (b : VirtAddr) → IsSome (map.get m b) → IsSome (map.get (changed_at m a change) b)
  still_listened b is = by_there (map.get m a) b is
