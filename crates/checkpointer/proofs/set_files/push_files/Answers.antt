use Rattle.std.proofs.Common.{◌≡◌, [], ◌∷◌, ◌++◌, append_assoc, sym, ap, subst, ◌∙◌, append-nil}
use Rattle.std.specs.FinMap as map
use Rattle.views.proofs.MapValues.{EachEntry, each_entry}
use Rattle.sys_abi.specs.declared.identity.VPid.{VPid}
use Rattle.staged_cut.specs.OfGuestProc.Guests.{GuestPart}
use Rattle.sys_abi.proofs.OrderLaws.{vpid_total, vpid_exact}
use Rattle.checkpointer.specs.Images.{AreFilesOf, HasFile}
use Rattle.checkpointer.proofs.FilesOfProcesses.{more_files, no_more_files}
use Rattle.checkpointer.proofs.set_files.push_files.Goals as goal

pub loop-guest-init : goal.loop-guest-init
loop-guest-init c =
    let all = c.into_iter-guest-iterator.ensures.into_iter_gives ∙ c.iter-guest-items.ensures in
    record {
      texts = [];
      pushed = sym (append-nil c.args.files.now);
      rest = λ more files. subst (λ es. AreFilesOf es more) all files;
      have = subst (EachEntry (λ p guest. HasFile guest)) (sym all) (each_entry vpid_total vpid_exact (λ p guest. HasFile guest) c.args.guests.now c.requires);
    }

pub loop-guest-preserved : goal.loop-guest-preserved
loop-guest-preserved c =
    let inv = c.loop-guest.invariant in
    let entry : VPid × GuestPart = (c.in-Some.field-0-0.now, c.in-Some.guest.now) in
    let steps : c.loop-guest.guest-iterator ≡ entry ∷ c.next.new.self = c.in-Some.ensures.steps in
    record {
      texts = inv.texts ++ c.in_ok-process_file.field-0 ∷ [];
      pushed = c.in_ok-push.ensures.ok ∙ ap (λ files. files ++ c.in_ok-process_file.field-0 ∷ []) inv.pushed ∙ append_assoc c.args.files.now inv.texts (c.in_ok-process_file.field-0 ∷ []);
      rest = more_files entry c.next.new.self (map.entries c.args.guests.now) c.in_ok-process_file.field-0 inv.texts c.in_ok-process_file.ensures (λ more files. inv.rest more (subst (λ es. AreFilesOf es more) (sym steps) files));
      have = (subst (EachEntry (λ p guest. HasFile guest)) steps inv.have).1;
    }

pub returns : goal.returns
returns c =
    let inv = c.loop-guest.invariant in
    (inv.texts, (inv.pushed, no_more_files (map.entries c.args.guests.now) inv.texts (λ more files. inv.rest more (subst (λ es. AreFilesOf es more) (sym c.in-None.ensures.steps.0) files))))
