use Rattle.std.proofs.Common.{[], Some, if◌then◌else◌, refl, sym, ap, subst, ◌∙◌}
use Rattle.std.specs.FinMap as map
use Rattle.sys_abi.specs.declared.reply.Reply.{Reply}
use Rattle.guest_proc.specs.Guests.{GuestPart}
use Rattle.plain_process.specs.Buffers.{filled_spans}
use Rattle.plain_process.specs.Put.{CanTake, made_by, put}
use Rattle.plain_process.specs.Steps.{user_step}
use Rattle.plain_process.specs.Valid.{CanAdd}
use Rattle.plain_process.specs.declared.user_part.UserPart.{UserPart}
use Rattle.plain_tables.specs.Tables.{pid}
use Rattle.plain_machine.specs.declared.kernel.PlainKernel.{PlainKernel}
use Rattle.plain_machine.specs.declared.plain.Plain.{Plain}
use Rattle.plain_machine.specs.Kernel.{is_live}
use Rattle.plain_machine.specs.Records.{Outcome, living, users_after}
use Rattle.host_tables.specs.Serves.{bytes_or}
use Rattle.computation.specs.Computations.{plain_of}
use Rattle.computation.specs.Parts.{given_back, left_by}
use Rattle.edge_io.specs.Sunk.{sunk, Took, TookFront}
use Rattle.computation.proofs.AnswerBytes.{fits, same_put}
use Rattle.computation.proofs.Answered.{answer_fits, answer_adds, guest_at, grown_at, apart, final_is, left_living, made_of, lives_of}
use Rattle.computation.proofs.Effects.{same_part, found_part, serve_goes}
use Rattle.computation.proofs.Numbered.{Numbered, numbered_left}
use Rattle.computation.proofs.ShownBytes.{shown_is, as_it_stands}
use Rattle.computation.proofs.States.{seen, plain_is}
use Rattle.computation.proofs.Taking.{takes_valid}
use Rattle.computation.proofs.computation.Computation.kernel_call.Goals as goal

pub returns-in_err-show-clause-failed : goal.returns-in_err-show-clause-failed
returns-in_err-show-clause-failed g c = λ _.
    let m = c.args.self.now in
    let asks = c.requires.asks in
    let has = c.in_ok-reply.ensures.served in
    let is_shown = c.shows-is_shown.result in
    let left = living (record { kernel = has.served.kernel; users = users_after (plain_of m) c.args.p c.args.t.0 asks.user c.args.request.now has.served }) in
    record {
      bytes = if is_shown then m.transfer else [];
      state = left;
      outcome = serve_goes (plain_of m) c.args.p c.args.t asks.user c.args.request.now m.transfer has.served asks.there asks.asks (c.requires.given asks.user asks.there) c.requires.kernels has.serves
          ∙ ap (λ bytes. Some (let o : Outcome = record { state = left; console = bytes } in o))
          (shown_is m.kernel c.args.p c.args.t.0 m.transfer c.args.request.now has.served is_shown c.shows-is_shown.ensures.told has.serves (c.shows-is_shown.ensures.shown c.args.t.0 m.transfer));
      kernel = has.kernel;
      trace = c.append.ensures;
      shown = subst (TookFront (sunk (g.O.Sink.seen c.args.out.now).taken (g.O.Sink.seen c.show.new.out).taken))
          (as_it_stands m.kernel c.args.p c.args.t.0 m.transfer c.args.request.now has.served is_shown c.shows-is_shown.ensures.told has.serves c.as_slice.result.now (c.as_slice.ensures.value ∙ has.bytes)) c.in_err-show.ensures.err;
    }

pub put_answer-requires : goal.put_answer-requires
put_answer-requires g c =
    let m = c.args.self.now in
    let q = c.args.request.now in
    let asks = c.requires.asks in
    let reply = c.in_ok-reply.reply in
    let has = c.in_ok-reply.ensures.served in
    let at = guest_at m.guests c.args.p asks.user asks.there in
    let there = found_part m.guests c.args.p at.0 (sym at.1) in
    let same = same_part m.guests c.args.p at.0 asks.user (sym at.1) asks.there in
    let grown = c.in_ok-reply.ensures.grown at.0 at.1 in
    let reads = c.requires.given asks.user asks.there in
    let fitting = fits m.kernel c.args.p c.args.t.0 q asks.user m.transfer reads c.requires.kernels has.served has.serves
    (answer_fits (plain_of m) c.requires.ready.valid c.args.p c.args.t.0 q asks.user asks.there asks.asks m.transfer reads has.served has.serves) in
    record {
      guest = record { pid = at.0.pid; user = at.0.user; spare = grown.spare };
      there = ap (λ guests. map.get guests c.args.p) grown.guests ∙ grown_at m.guests c.args.p (pid m.kernel.next_id) _ at.0.user c.args.t.0 q (made_by q reply) (apart m.kernel m.guests c.args.p at.0 c.requires.ready.valid there);
      writable = subst (λ (u : UserPart). CanTake u.memory (filled_spans u.memory q) (given_back reply c.serve_call.new.self.transfer)) (sym same)
          (subst (λ bytes. CanTake asks.user.memory (filled_spans asks.user.memory q) bytes)
          (sym (ap (given_back reply) has.bytes ∙ ap (λ (r : Reply). given_back r (bytes_or m.transfer has.served.bytes)) has.answer)) fitting);
      added = subst (λ (u : UserPart). CanAdd u q reply) (sym same)
          (subst (CanAdd asks.user q) (sym has.answer)
          (answer_adds (plain_of m) c.requires.ready.valid c.args.p c.args.t.0 q asks.user asks.there asks.asks m.transfer reads has.served has.serves));
      spare = grown.room;
    }

pub returns-clause-ok : goal.returns-clause-ok
returns-clause-ok g c =
    let m = c.args.self.now in
    let q = c.args.request.now in
    let asks = c.requires.asks in
    let reply = c.in_ok-reply.reply in
    let has = c.in_ok-reply.ensures.served in
    let is_shown = c.shows-is_shown.result in
    let at = guest_at m.guests c.args.p asks.user asks.there in
    let there = found_part m.guests c.args.p at.0 (sym at.1) in
    let same = same_part m.guests c.args.p at.0 asks.user (sym at.1) asks.there in
    let grown = c.in_ok-reply.ensures.grown at.0 at.1 in
    let reads = c.requires.given at.0.user there in
    let after = c.serve_call.new.self.kernel in
    let next = pid m.kernel.next_id in
    let reserved : GuestPart = record { pid = at.0.pid; user = at.0.user; spare = grown.spare } in
    let found = ap (λ guests. map.get guests c.args.p) grown.guests ∙ grown_at m.guests c.args.p next reserved at.0.user c.args.t.0 q (made_by q reply) (apart m.kernel m.guests c.args.p at.0 c.requires.ready.valid there) in
    let left = c.put_answer.ensures.guests reserved found in
    let stands = ap (λ (u : UserPart). user_step u c.args.t.0) same ∙ asks.asks in
    let part = put at.0.user c.args.t.0 q reply (given_back reply c.serve_call.new.self.transfer) in
    let part_is = ap (λ bytes. put at.0.user c.args.t.0 q reply (given_back reply bytes)) has.bytes
    ∙ ap (λ (r : Reply). put at.0.user c.args.t.0 q r (given_back r (bytes_or m.transfer has.served.bytes))) has.answer
    ∙ same_put m.kernel c.args.p c.args.t.0 q at.0.user m.transfer reads c.requires.kernels has.served has.serves in
    let made = made_of (plain_of m) c.requires.ready.valid c.args.p c.args.t.0 q at.0.user there stands m.transfer reads after c.serve_call.new.self.transfer reply has in
    let lives = lives_of (plain_of m) c.requires.ready.valid c.args.p c.args.t.0 q at.0.user there stands m.transfer reads after c.serve_call.new.self.transfer reply has in
    let answered : GuestPart = record { pid = at.0.pid; user = part; spare = left.0 } in
    let served_state = living (record { kernel = has.served.kernel; users = users_after (plain_of m) c.args.p c.args.t.0 at.0.user q has.served }) in
    record {
      bytes = if is_shown then m.transfer else [];
      outcome = serve_goes (plain_of m) c.args.p c.args.t at.0.user q m.transfer has.served there stands reads c.requires.kernels has.serves
          ∙ ap (λ bytes. Some (let o : Outcome = record { state = served_state; console = bytes } in o))
          (shown_is m.kernel c.args.p c.args.t.0 m.transfer q has.served is_shown c.shows-is_shown.ensures.told has.serves (c.shows-is_shown.ensures.shown c.args.t.0 m.transfer))
          ∙ ap (λ (h : Plain). Some (let o : Outcome = record { state = h; console = if is_shown then m.transfer else [] } in o))
          (left_living (plain_of m) c.args.p c.args.t.0 q at.0.user part after reply has.served (sym has.kernel) (sym has.answer) (sym part_is)
          ∙ sym (ap (λ (k : PlainKernel). seen k c.put_answer.new.self.guests) c.put_answer.ensures.kernel
          ∙ ap (seen after) (left.1 ∙ ap (λ guests. left_by (is_live after c.args.p) guests c.args.p answered) grown.guests)
          ∙ sym (plain_is after after _ _ refl (final_is m.kernel after m.guests c.args.p at.0 grown.spare c.args.t.0 q part c.requires.ready.valid there lives (made_by q reply) made answered refl))));
      trace = c.append.ensures;
      shown = subst (Took (sunk (g.O.Sink.seen c.args.out.now).taken (g.O.Sink.seen c.show.new.out).taken))
          (as_it_stands m.kernel c.args.p c.args.t.0 m.transfer q has.served is_shown c.shows-is_shown.ensures.told has.serves c.as_slice.result.now (c.as_slice.ensures.value ∙ has.bytes)) c.in_ok-show.ensures.ok;
    }

pub returns-clause-ready : goal.returns-clause-ready
returns-clause-ready g c =
    let m = c.args.self.now in
    let q = c.args.request.now in
    let asks = c.requires.asks in
    let reply = c.in_ok-reply.reply in
    let at = guest_at m.guests c.args.p asks.user asks.there in
    let there = found_part m.guests c.args.p at.0 (sym at.1) in
    let grown = c.in_ok-reply.ensures.grown at.0 at.1 in
    let next = pid m.kernel.next_id in
    let reserved : GuestPart = record { pid = at.0.pid; user = at.0.user; spare = grown.spare } in
    let found = ap (λ guests. map.get guests c.args.p) grown.guests ∙ grown_at m.guests c.args.p next reserved at.0.user c.args.t.0 q (made_by q reply) (apart m.kernel m.guests c.args.p at.0 c.requires.ready.valid there) in
    let left = c.put_answer.ensures.guests reserved found in
    let answered : GuestPart = record { pid = at.0.pid; user = put at.0.user c.args.t.0 q reply (given_back reply c.serve_call.new.self.transfer); spare = left.0 } in
    let own = c.requires.ready.numbered c.args.p at.0 at.1 in
    record {
      valid = takes_valid _ _ _ _ _ _ c.requires.ready.valid (returns-clause-ok g c);
      numbered = subst Numbered (sym (left.1 ∙ ap (λ guests. left_by (is_live c.serve_call.new.self.kernel c.args.p) guests c.args.p answered) grown.guests))
          (numbered_left (is_live c.serve_call.new.self.kernel c.args.p) m.guests c.args.p reserved answered at.0.user c.args.t.0 q next (made_by q reply) c.requires.ready.numbered own own);
    }
