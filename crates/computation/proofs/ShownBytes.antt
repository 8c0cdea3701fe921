-- What a call shows on the console: all that it read, where it is a write to one, and then nothing of it is
-- given back.
--     shown_is           what is shown
--     as_it_stands       it stands in the transfer after the call
use Rattle.std.proofs.Common.{◌≡◌, ℕ, Bool, true, false, cond, List, [], Option, Some, None, refl, sym, ap, ◌∙◌}
use Rattle.std.specs.Prelude.{◌&&◌, is_some, length, min}
use Rattle.std.proofs.lemmas.Option.{none-some, same_Some}
use Rattle.views.proofs.MapLaws.{true_false}
use Rattle.sys_abi.specs.declared.errors.TheConstants.{EBADF}
use Rattle.sys_abi.specs.declared.identity.VPid.{VPid}
use Rattle.sys_abi.specs.declared.reply.Reply.TheVariants.{Value}
use Rattle.sys_abi.specs.declared.transfer.TheConstants.{TRANSFER_LIMIT}
use Rattle.call_table.specs.declared.request.Request.{Request}
use Rattle.call_table.specs.declared.request.Request.TheVariants.{Write}
use Rattle.plain_process.specs.Attempts.{Try, Fails, NotReady, Gives, and_then, need}
use Rattle.plain_tables.specs.declared.description.Object.{Object}
use Rattle.plain_tables.specs.declared.description.Object.TheVariants.{Console}
use Rattle.plain_tables.specs.Tables.{may_write}
use Rattle.plain_machine.specs.declared.kernel.PlainKernel.{PlainKernel}
use Rattle.plain_machine.specs.Attempts.{Served, settled, replied_on_console}
use Rattle.plain_machine.specs.Kernel.{Held, held}
use Rattle.plain_machine.specs.Rows.Write.{is_writable, write_access, write_object, write_row}
use Rattle.plain_machine.specs.Serve.{is_console, row, serve}
use Rattle.plain_machine.specs.Waiting.{need_ready}
use Rattle.host_tables.specs.Serves.{bytes_or}
use Rattle.wrap_calls.specs.HandedOn.{written, takes_writes, writes_console, console_write}

module _ (k : PlainKernel) (p : VPid) (t fd count : ℕ) (given : List ℕ) where
  -- a write to a console that is open for writing
  abbrev access_of : Try Held → Try Held
  access_of attempt = and_then attempt (λ h. and_then (need (may_write h.description.flags) EBADF)
      (λ _. and_then (need_ready h.description.flags (is_writable k count given h.description.object)) (λ _. Gives h)))

  abbrev row_of : Try Held → Try Served
  row_of attempt = and_then (access_of attempt) (λ h. write_object k p t h count given h.description.object)

  by_access : (h : Held) (may : Bool) → may_write h.description.flags ≡ may → (o : Object)
      → h.description.object ≡ o → (is_console o && may) ≡ true
      → row_of (Gives h) ≡ replied_on_console k (length given) given
  unfolding and_then need need_ready
  by_access h true may Console at is =
      ap (λ b. and_then (and_then (need b EBADF)
      (λ _. and_then (need_ready h.description.flags (is_writable k count given h.description.object)) (λ _. Gives h)))
      (λ h. write_object k p t h count given h.description.object)) may
      ∙ ap (λ o. and_then (and_then (need_ready h.description.flags (is_writable k count given o)) (λ _. Gives h))
      (λ h. write_object k p t h count given h.description.object)) at
      ∙ ap (write_object k p t h count given) at
  by_access h false may Console at is = true_false (sym is)
  by_access h may known _ at is = true_false (sym is)

  by_held : (attempt : Try Held) → takes_writes attempt ≡ true
      → row_of attempt ≡ replied_on_console k (length given) given
  by_held (Fails e) is = true_false (sym is)
  by_held NotReady is = true_false (sym is)
  by_held (Gives h) is = by_access h (may_write h.description.flags) refl h.description.object refl is

  pub console_row : writes_console k p fd ≡ true
      → write_row k p t fd count given ≡ replied_on_console k (length given) given
  unfolding write_row write_access
  console_row is = by_held (held k p fd) is

module _ (k : PlainKernel) (p : VPid) (t : ℕ) (given : List ℕ) where
  writes : (b : Bool) (n m : ℕ) → cond b (Some m) None ≡ Some n → b ≡ true
  writes true n m is = refl
  writes false n m is = absurd (none-some n is)

  row_is : (q : Request) (n : ℕ) → console_write k p q ≡ Some n
      → row k p t q given ≡ replied_on_console k (length given) given
  unfolding row written
  row_is (Write fd buffer count) n is =
      console_row k p t fd count given (writes (writes_console k p fd) n (min count TRANSFER_LIMIT) is)
  row_is _ n is = absurd (none-some n is)

  module _ (q : Request) (s : Served) (shown : Bool) (told : shown ≡ is_some (console_write k p q))
      (serves : serve k p t q given ≡ Some s) where
    abbrev of_console : Served
    of_console = record { kernel = k; reply = Value (length given); bytes = []; console = given }

    written_is : shown ≡ true → of_console ≡ s
    unfolding serve
    written_is is = by (console_write k p q) refl (sym told ∙ is)
      where
        by : (o : Option ℕ) → console_write k p q ≡ o → is_some o ≡ true → of_console ≡ s
        by None at some = true_false (sym some)
        by (Some n) at some = same_Some of_console s (sym (ap (settled k) (row_is q n at)) ∙ serves)

    pub still_there : shown ≡ true → bytes_or given s.bytes ≡ given
    still_there is = ap (λ (x : Served). bytes_or given x.bytes) (sym (written_is is))

    -- where each row that gives shows this
    pub shown_is : ((served : Served) → row k p t q given ≡ Gives served
        → served.console ≡ cond shown given []) → s.console ≡ cond shown given []
    unfolding serve
    shown_is each = by shown refl
      where
        none_by : (m : Try Served) → row k p t q given ≡ m → settled k m ≡ Some s
            → ((served : Served) → row k p t q given ≡ Gives served → served.console ≡ []) → s.console ≡ []
        none_by (Fails e) is settles none = ap (λ (x : Served). x.console) (sym (same_Some _ s settles))
        none_by NotReady is settles none = absurd (none-some s settles)
        none_by (Gives served) is settles none =
            ap (λ (x : Served). x.console) (sym (same_Some served s settles)) ∙ none served is

        by : (b : Bool) → shown ≡ b → s.console ≡ cond shown given []
        by true at = ap (λ (x : Served). x.console) (sym (written_is at)) ∙ sym (ap (λ b. cond b given []) at)
        by false at =
            none_by (row k p t q given) refl serves
            (λ served is. each served is ∙ ap (λ b. cond b given []) at)
            ∙ sym (ap (λ b. cond b given []) at)

    -- what is shown of the transfer as it stands after the call
    pub as_it_stands : (left : List ℕ) → left ≡ bytes_or given s.bytes
        → cond shown left [] ≡ cond shown given []
    as_it_stands left is = by shown refl
      where
        by : (b : Bool) → shown ≡ b → cond b left [] ≡ cond b given []
        by true at = is ∙ still_there at
        by false at = refl
