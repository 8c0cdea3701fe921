use Rattle.std.proofs.Common.{sym, ap, ◌∙◌, subst}
use Rattle.std.proofs.lemmas.Option.{none-some}
use Rattle.plain_machine.specs.Kernels.{IsKernel}
use Rattle.plain_machine.specs.Serve.{row}
use Rattle.wrap_names.specs.Wrapping.{StandsAfter, kernel_left}
use Rattle.wrap_names.proofs.Callers.{caller_there, paired}
use Rattle.wrap_names.proofs.Kept.{whole_left}
use Rattle.wrap_names.proofs.Rows.{bind_of, getsockname_of, getpeername_of}
use Rattle.wrap_names.proofs.Unchanged.{unchanged_after}
use Rattle.wrap_names.proofs.serving.serve_addresses.Goals as goal

pub unreachable-requires : goal.unreachable-requires
unreachable-requires c =
    let there = caller_there c.args.system.now c.args.next_id c.args.stood.now.kernel c.requires.wrapped
    c.args.p c.args.t.0 c.args.request.now c.args.transfer.now c.requires.asked in
    none-some there.0 (sym c.in_default.is ∙ c.caller_of.ensures ∙ there.1)

pub returns-in-Bind : goal.returns-in-Bind
returns-in-Bind c =
    let s = c.args.system.now in
    let k = c.args.stood.now.kernel in
    let w = c.requires.wrapped in
    let t = c.args.t.0 in
    let r = c.args.request.now in
    let before = c.args.transfer.now in
    let caller = c.in-Some.caller in
    let is_paired = paired s c.args.next_id k w c.args.p t r before c.requires.asked caller
    (sym c.caller_of.ensures ∙ c.in-Some.is) in
    let row_is = ap (λ q. row k c.args.p t q before) c.in-Bind.is ∙ bind_of k c.args.p t _ _ _ before in
    subst (StandsAfter c.bind.new.system c.args.next_id k before before c.bind.result) (sym row_is)
    (c.bind.ensures k c.args.next_id c.args.p w is_paired
    (subst (λ m. IsKernel (kernel_left k m)) row_is
    (whole_left s c.args.next_id k w c.args.p t r before c.requires.asked)))

pub returns-in-Getsockname : goal.returns-in-Getsockname
returns-in-Getsockname c =
    let s = c.args.system.now in
    let k = c.args.stood.now.kernel in
    let w = c.requires.wrapped in
    let t = c.args.t.0 in
    let r = c.args.request.now in
    let before = c.args.transfer.now in
    let caller = c.in-Some.caller in
    let is_paired = paired s c.args.next_id k w c.args.p t r before c.requires.asked caller
    (sym c.caller_of.ensures ∙ c.in-Some.is) in
    let row_is = ap (λ q. row k c.args.p t q before) c.in-Getsockname.is
    ∙ getsockname_of k c.args.p t _ _ _ before in
    subst (StandsAfter s c.args.next_id k before c.getsockname.new.transfer c.getsockname.result) (sym row_is)
    (unchanged_after s c.args.next_id k w before c.getsockname.new.transfer c.getsockname.result _
    (c.getsockname.ensures k c.args.next_id c.args.p w is_paired))

pub returns-in-Getpeername : goal.returns-in-Getpeername
returns-in-Getpeername c =
    let s = c.args.system.now in
    let k = c.args.stood.now.kernel in
    let w = c.requires.wrapped in
    let t = c.args.t.0 in
    let r = c.args.request.now in
    let before = c.args.transfer.now in
    let caller = c.in-Some.caller in
    let is_paired = paired s c.args.next_id k w c.args.p t r before c.requires.asked caller
    (sym c.caller_of.ensures ∙ c.in-Some.is) in
    let row_is = ap (λ q. row k c.args.p t q before) c.in-Getpeername.is
    ∙ getpeername_of k c.args.p t _ _ _ before in
    subst (StandsAfter s c.args.next_id k before c.getpeername.new.transfer c.getpeername.result) (sym row_is)
    (unchanged_after s c.args.next_id k w before c.getpeername.new.transfer c.getpeername.result _
    (c.getpeername.ensures k c.args.next_id c.args.p w is_paired))
