-- The ends of the connections of a queue close, one after the other.
--     queued_is          a look-up in the queue
--     turned             a turn, and what is left of the queue
--     past, rested       nothing is left
use Rattle.std.proofs.Common.{◌≡◌, ℕ, zero, suc, ◌+◌, ◌≤◌, List, [], ◌∷◌, drop, length, Option, Some, None, refl, sym, ap, ◌∙◌, arith}
use Rattle.std.specs.Prelude.{slice_get, option_and_then}
use Rattle.std.proofs.lemmas.Option.{none-some, same_Some, slice_get_past}
use Rattle.sys_abi.specs.declared.identity.ConnId.{ConnId}
use Rattle.conn_table.specs.Conns.{after_end}
use Rattle.conn_table.specs.declared.table.ConnTable.{ConnTable}
use Rattle.wire_channels.specs.declared.listener.Listener.{Listener}
use Rattle.wire_net.specs.Networks.{waiting_at}
use Rattle.wrap_ends.specs.Forgetting.{without_waiting}

rest_at : {X : Type 0} (xs : List X) (i : ℕ) (x : X) → slice_get xs i ≡ Some x
    → drop i xs ≡ x ∷ drop (suc i) xs
rest_at [] i x is = absurd (none-some x is)
rest_at (y ∷ ys) zero x is = ap (λ z. z ∷ ys) (same_Some y x is)
rest_at (y ∷ ys) (suc i) x is = rest_at ys i x is

rest_none : {X : Type 0} (xs : List X) (i : ℕ) → slice_get xs i ≡ None → drop i xs ≡ []
rest_none [] zero is = refl
rest_none [] (suc i) is = refl
rest_none (y ∷ ys) zero is = absurd (none-some y (sym is))
rest_none (y ∷ ys) (suc i) is = rest_none ys i is

pub queued_is : (o : Option Listener) (i : ℕ)
    → option_and_then (λ (x : Listener). slice_get x.queue i) o ≡ slice_get (waiting_at o) i
queued_is None i = refl
queued_is (Some x) i = refl

one_more : (i : ℕ) → i + 1 ≡ suc i
one_more i = omega arith

-- a table without the ends of a queue
abbrev pub without_queue : ConnTable → List ConnId → ConnTable
without_queue t queue = record t { conns = without_waiting t.conns queue }

module _ (t : ConnTable) (queue : List ConnId) (i : ℕ) where
  pub turned : (conn : ConnId) → slice_get queue i ≡ Some conn
      → without_queue (record t { conns = after_end 1 t.conns conn }) (drop (i + 1) queue)
      ≡ without_queue t (drop i queue)
  unfolding without_waiting
  turned conn is =
      ap (λ j. without_queue (record t { conns = after_end 1 t.conns conn }) (drop j queue)) (one_more i)
      ∙ ap (without_queue t) (sym (rest_at queue i conn is))

  pub rested : slice_get queue i ≡ None → t ≡ without_queue t (drop i queue)
  unfolding without_waiting
  rested is = ap (without_queue t) (sym (rest_none queue i is))

  pub past : length queue ≤ i → t ≡ without_queue t (drop i queue)
  past over = rested (slice_get_past queue i over)
