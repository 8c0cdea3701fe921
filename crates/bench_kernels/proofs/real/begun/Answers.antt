use Rattle.std.proofs.Common.{sym, subst, ◌∙◌, arith}
use Rattle.plain_machine.specs.declared.kernel.PlainKernel.{PlainKernel}
use Rattle.wrap_names.specs.Wrapping.{IsWrapped}
use Rattle.bench_kernels.specs.Owning.{IsOwn}
use Rattle.bench_kernels.proofs.real.begun.Goals as goal

pub rebuild-requires-clause-hosts : goal.rebuild-requires-clause-hosts
rebuild-requires-clause-hosts c = record {
  some = omega arith;
  nodes = omega arith;
  shift = omega arith;
  first = omega arith;
  last = omega arith;
  ports = omega arith;
}

pub wrap-requires : goal.wrap-requires
wrap-requires c =
    subst (λ (k : PlainKernel). IsWrapped c.in_ok-system.system c.args.kernel.now.next_id k)
    (sym c.stood_by-stood.ensures) c.in_ok-system.ensures.stands

pub returns : goal.returns
returns c = subst IsOwn (sym (c.wrap.ensures ∙ c.stood_by-stood.ensures)) c.requires.own
