-- A thread of a valid state that stands at a call asks for it as the law of rows wants, and its process can take what the answer adds.
--     stands_asked, serve_adds
use Rattle.std.proofs.Common.{◌≡◌, ℕ, ◌<◌, true, List, refl, sym, ◌∙◌, arith}
use Rattle.std.specs.Prelude.{Option, Some, None}
use Rattle.std.specs.FinMap as map
use Rattle.plain_tables.proofs.OfViews.MapLaws.{true_false}
use Rattle.plain_tables.specs.OfSysAbi.declared.identity.VPid.{VPid}
use Rattle.plain_tables.specs.OfSysAbi.declared.reply.Reply.{Reply}
use Rattle.plain_tables.specs.OfCallTable.declared.request.Request.{Request}
use Rattle.plain_machine.specs.declared.plain.Plain.{Plain}
use Rattle.plain_tables.specs.declared.process.Process.{Process}
use Rattle.plain_tables.specs.Tables.{is_live_process, thread_count_in}
use Rattle.plain_tables.specs.OfPlainProcess.declared.user_part.UserPart.{UserPart}
use Rattle.plain_tables.specs.OfPlainProcess.Put.{added_thread}
use Rattle.plain_tables.specs.OfPlainProcess.Valid.{CanAddAs}
use Rattle.plain_machine.specs.Kernel.{is_live, thread_count}
use Rattle.plain_machine.specs.Laws.{StandsAsked, ServeAdds}
use Rattle.plain_machine.specs.RowLaws.{MayAdd}
use Rattle.plain_machine.specs.Valid.{IsValid}
use Rattle.plain_machine.proofs.CallBounds.{lent_length}
use Rattle.plain_machine.proofs.KernelThreads.{user_lives, known_threads}
use Rattle.plain_machine.proofs.Lending.{is_lent}
use Rattle.plain_machine.proofs.LocalBounds.{asks_there}
use Rattle.plain_machine.proofs.PutBounds.{none_there}
use Rattle.plain_machine.proofs.Requests.{asked_is_request}
use Rattle.plain_machine.proofs.ThreadKeys.{same_len}

pub stands_asked : StandsAsked
stands_asked g user p t q given is there asks reads =
    let good = is.users p user there in
    record {
      kernel = is.kernel;
      alive = user_lives g p user is there;
      thread = sym (known_threads g p user is there t) ∙ asks_there user t q asks;
      request = asked_is_request user t q good asks;
      bytes = ((is_lent user.memory q good.memory).each given reads).bytes;
      short = (lent_length user.memory q good.memory).each given reads;
    }

module _ (g : Plain) (user : UserPart) (p : VPid) (is : IsValid g) (there : map.get g.users p ≡ Some user) where
  as_many : (found : Option Process) → map.get g.kernel.processes p ≡ found → is_live_process found ≡ true → map.len user.threads ≡ thread_count_in found
  as_many None known alive = true_false (sym alive)
  as_many (Some process) known alive = same_len user.threads process.threads (is.threads p process user known there)

  counted : map.len user.threads ≡ thread_count g.kernel p
  unfolding is_live
  counted = as_many (map.get g.kernel.processes p) refl (user_lives g p user is there)

  can_add : (found : Option ℕ) → MayAdd g.kernel p found → CanAddAs user found
  can_add None may = tt
  can_add (Some new) may =
      let same = counted in
      let room = may.2 in
      (may.0, none_there (map.get user.threads new) (known_threads g p user is there new ∙ may.1), omega arith)

pub serve_adds : ServeAdds
serve_adds g user p q reply is there may = can_add g user p is there (added_thread q reply) may
