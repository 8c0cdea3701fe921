use Rattle.std.proofs.Common.{sym, ◌∙◌}
use Rattle.wrap_calls.proofs.Unknown.{refused}
use Rattle.wrap_calls.proofs.serving.serve_other.Goals as goal

pub returns : goal.returns
returns c =
    refused c.args.system.now c.args.next_id c.args.stood.now.kernel c.requires.wrapped c.args.p c.args.t.0
    c.args.request.now c.args.transfer.now (record {
      kernels = c.requires.kernels;
      clones = c.requires.other;
      passing = sym c.serves.ensures ∙ c.if-serves.false;
      makes = sym c.serves-2.ensures ∙ c.if-serves-2.false;
      closes = sym c.serves-3.ensures ∙ c.if-serves-3.false;
      addresses = sym c.serves-4.ensures ∙ c.if-serves-4.false;
      exits = sym c.serves-5.ensures ∙ c.if-serves-5.false;
      meets = sym c.serves-6.ensures ∙ c.if-serves-6.false;
    })
