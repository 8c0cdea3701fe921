-- Names are one where their parts are
--     same_desc      two descriptions'      same_pid      the number of a process
use Rattle.std.proofs.Common.{◌≡◌, ◌==◌, ◌&&◌, ℕ, sym, ◌∙◌}
use Rattle.std.specs.Ordering.{nat_cmp, is_eq}
use Rattle.sys_abi.specs.declared.identity.DescId.{DescId}
use Rattle.sys_abi.specs.Orders.{desc_cmp}
use Rattle.shared_items.specs.SharedTests.{is_pair}
use Rattle.shared_items.proofs.Keys.{both_equal, same_number, turned}

pub desc_same : (a b : DescId) → is_eq (desc_cmp a b) ≡ is_pair b.pid.0 b.num a
desc_same a b = both_equal (nat_cmp a.pid.0 b.pid.0) (nat_cmp a.num b.num) ∙ (λ i. same_number a.pid.0 b.pid.0 i && same_number a.num b.num i)

pub same_desc : (a b : DescId) → is_pair b.pid.0 b.num a ≡ is_eq (desc_cmp a b)
same_desc a b = sym (desc_same a b)

pub key_desc : (a b : DescId) → is_eq (desc_cmp a b) ≡ is_pair a.pid.0 a.num b
key_desc a b = desc_same a b ∙ (λ i. turned a.pid.0 b.pid.0 i && turned a.num b.num i)
