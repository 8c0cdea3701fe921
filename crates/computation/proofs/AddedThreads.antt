-- No other call than a clone adds a thread.
use Rattle.std.proofs.Common.{◌≡◌, ℕ, None, refl}
use Rattle.sys_abi.specs.declared.reply.Reply.{Reply}
use Rattle.call_table.specs.declared.request.Request.{Request}
use Rattle.call_table.specs.declared.request.Request.TheVariants.{Clone}
use Rattle.plain_process.specs.Put.{added_thread}

pub adds_nothing : (q : Request) (reply : Reply) → ((flags stack parent tls child : ℕ) → q ≡ Clone flags stack parent tls child → ⊥) → added_thread q reply ≡ None
unfolding added_thread
adds_nothing (Clone flags stack parent tls child) reply other = absurd (other flags stack parent tls child refl)
adds_nothing _ reply other = refl
